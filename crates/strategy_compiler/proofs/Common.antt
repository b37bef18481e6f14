-- The words of the compiler, all in one place for the files of laws.
pub use Rattle.game_rules.specs.Games.{LosesOr}
pub use Rattle.game_rules.specs.Grid.{Grid, is_on}
pub use Rattle.game_rules.specs.Play.{after}
unfoldable pub use Rattle.game_rules.specs.Play.{outcome}
pub use Rattle.game_rules.specs.declared.Point.{Point}
pub use Rattle.game_rules.specs.declared.RuleKind.{RuleKind}
pub use Rattle.strategy_compiler.specs.Adopting.{Adopts, AreNumbers}
pub use Rattle.strategy_compiler.specs.Forks.{AnswersWin, IsDoubleThreat, WinsAtOnce, WinsByAnswers, answer_node, double_moves}
pub use Rattle.strategy_compiler.specs.Forks.{double_nodes, two_answers}
pub use Rattle.strategy_compiler.specs.Growth.{GrowsBy, Writes}
pub use Rattle.strategy_compiler.specs.Nodes.{IsCompiled, NamesOnly, PutsIn, answering_node, answers_beside, brief_answers, commonest_next}
pub use Rattle.strategy_compiler.specs.Nodes.{rest_of, winning_node}
pub use Rattle.strategy_compiler.specs.Orders.{ArePlaces, Flags, IsBetween, IsMadeFrom, IsMadeOf, IsOrder, unset}
pub use Rattle.strategy_compiler.specs.Replies.{IsBeatenBy}
pub use Rattle.strategy_compiler.specs.Starts.{AnswersEach, BranchesHaveOneStart, IsMadeOfAnswers, IsStartOfBranches, answers_alone}
pub use Rattle.strategy_compiler.specs.Starts.{start_order}
pub use Rattle.strategy_compiler.specs.Trees.{AnswersBranches, AnswersBriefly, Branch, Branches, Fork, GrowthKeepsTrees, IsBrief, Leaf}
pub use Rattle.strategy_compiler.specs.Trees.{NoBranch, Tree, answers_to, commonest, replies_of, times}
unfoldable pub use Rattle.strategy_compiler.specs.Trees.{StandsFor, StandsForAll}
pub use Rattle.strategy_compiler.specs.Unfolded.{HoldMore, IsHeld, Unfolded, unfolded, unfolded_node, unfolded_nodes, unfolded_replies}
pub use Rattle.strategy_compiler.specs.Unfolded.{unfolded_rest}
unfoldable pub use Rattle.strategy_compiler.specs.Unfolded.{unfolded_within}
pub use Rattle.strategy_compiler.specs.Walks.{AreDifferent, GrowthKeepsReach, IsNumberedByWalk, IsTableOf, Itself, NamesPointsFrom}
pub use Rattle.strategy_compiler.specs.Walks.{NamesPointsReached, ReachedFrom, Reaches, Renumbers, Through, TreeHasOneTable, completed}
pub use Rattle.strategy_compiler.specs.Walks.{completed_from, is_in_list, last, place_in, visits, visits_at}
unfoldable pub use Rattle.strategy_compiler.specs.Walks.{completed_after, completed_within}
pub use Rattle.strategy_compiler.specs.Wins.{GrowthKeepsWins, IsWinTable, IsWrittenWin, StaysOnBoard}
pub use Rattle.strategy_graph.proofs.Common.{rest_nodes}
pub use Rattle.strategy_graph.specs.Acceptance.{Accepted, AcceptedStart}
pub use Rattle.strategy_graph.specs.Arrivals.{arrivals}
pub use Rattle.strategy_graph.specs.Laws.{SaysSame, StartSaysSame}
pub use Rattle.strategy_graph.specs.Leads.{AtNode}
pub use Rattle.strategy_graph.specs.Lent.{lent_node}
pub use Rattle.strategy_graph.specs.Renumbered.{renumbered_answers, renumbered_node, renumbered_reply, renumbered_rest}
pub use Rattle.strategy_graph.specs.Tables.{Answers, IsNode, IsTable, NamesLower, NamesOnBoard, TableOnBoard, answer, answers_of, depth}
pub use Rattle.strategy_graph.specs.Tables.{greatest, is_rising, is_winning, listed_node, named, names_below, rest_node}
pub use Rattle.strategy_graph.specs.declared.Node.{Node}
pub use Rattle.strategy_graph.specs.declared.Reply.{Reply}
pub use Rattle.strategy_graph.specs.declared.Rest.{Rest}
pub use Rattle.strategy_graph.specs.declared.Rest.TheVariants.{Wins}
pub use Rattle.strategy_graph.specs.declared.TheConstants.{MAX_NODES}
