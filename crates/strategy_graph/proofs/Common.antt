-- The words of tables, all in one place for the files of laws, and those that the laws alone need.
use Rattle.std.specs.Prelude.{ℕ, suc, List, map, Option, option_to_list}
use Rattle.std.specs.Option.{option_map_or}
pub use Rattle.game_rules.specs.Games.{LosesOr, WinsOr}
pub use Rattle.game_rules.specs.Grid.{Grid, is_empty, is_on, points_of}
pub use Rattle.game_rules.specs.Play.{after}
unfoldable pub use Rattle.game_rules.specs.Play.{outcome}
pub use Rattle.game_rules.specs.Points.{precedes}
pub use Rattle.game_rules.specs.Shapes.{is_same_point}
pub use Rattle.game_rules.specs.declared.Outcome.{Outcome}
pub use Rattle.game_rules.specs.declared.Outcome.TheVariants.{GoesOn}
pub use Rattle.game_rules.specs.declared.Point.{Point}
pub use Rattle.game_rules.specs.declared.RuleKind.{RuleKind}
pub use Rattle.strategy_graph.specs.Acceptance.{Accepted, AcceptedNode, AcceptedStart, Meets}
unfoldable pub use Rattle.strategy_graph.specs.Acceptance.{AcceptedWithin}
pub use Rattle.strategy_graph.specs.Arrivals.{arrivals, arrivals_after, arrivals_at, arrivals_behind, start_arrivals}
unfoldable pub use Rattle.strategy_graph.specs.Arrivals.{arrivals_within}
pub use Rattle.strategy_graph.specs.Games.{Drawn, End, EndsWell, IllegalReply, Lost, NoMove, Open, Won, after_attack, after_reply}
pub use Rattle.strategy_graph.specs.Games.{attacks_at, end_at, if_node, one_later, points_from, points_on}
unfoldable pub use Rattle.strategy_graph.specs.Games.{attacks, game}
pub use Rattle.strategy_graph.specs.Laws.{AnswersSaySame, RootSaysSame, SaysSame, StartSaysSame}
pub use Rattle.strategy_graph.specs.Leads.{AtNode, LeadsStart, ReplyLeads, attack_fault, reply_fault}
unfoldable pub use Rattle.strategy_graph.specs.Leads.{Leads}
pub use Rattle.strategy_graph.specs.Lent.{lent_node}
pub use Rattle.strategy_graph.specs.Renumbered.{renumbered_answers, renumbered_node, renumbered_reply, renumbered_rest, renumbered_root}
pub use Rattle.strategy_graph.specs.Roots.{AcceptedRoot, LeadsRoot, RootOnBoard, RootWins, root_arrivals, root_below, root_depth}
pub use Rattle.strategy_graph.specs.Same.{same_replies, same_replies_decides}
pub use Rattle.strategy_graph.specs.Tables.{Answers, AreDepths, IsNode, IsStart, IsTable, IsTableWithDepths, NamesLower, NamesOnBoard}
pub use Rattle.strategy_graph.specs.Tables.{RepliesOn, TableOnBoard, answer, answer_at, answers_of, depth, greatest, is_rising, is_winning}
pub use Rattle.strategy_graph.specs.Tables.{listed_node, named, names_below, rest_node, start_depth}
unfoldable pub use Rattle.strategy_graph.specs.Tables.{depth_within}
pub use Rattle.strategy_graph.specs.declared.Node.{Node}
pub use Rattle.strategy_graph.specs.declared.Reply.{Reply}
pub use Rattle.strategy_graph.specs.declared.Rest.{Rest}
pub use Rattle.strategy_graph.specs.declared.Rest.TheVariants.{Nothing, To, Wins}
pub use Rattle.strategy_graph.specs.declared.TheConstants.{MAX_NODES}
pub use Rattle.strategy_graph.specs.declared.Why.{Why}
pub use Rattle.strategy_graph.specs.declared.roots.Root.{Root}

-- the node that a rest names, as a list
abbrev pub rest_nodes : Rest → List ℕ
rest_nodes r = option_to_list (rest_node r)

-- one more than the greatest depth of the nodes that a node names
abbrev pub node_depth : Option Node → (ℕ → ℕ) → ℕ
node_depth o depth_at = option_map_or (λ n. suc (greatest (map depth_at (named (answers_of n))))) o 0
