-- The words of the search for wins by threats, all in one place for the files of laws.
pub use Rattle.game_rules.specs.Games.{LosesOr, WinsByThreats, behind_replies, has_five, has_threat, if_goes_on, wins_by_threats}
pub use Rattle.game_rules.specs.Grid.{Grid, is_empty, points_of}
pub use Rattle.game_rules.specs.Play.{IsPosition, after, goes_on, mover, other}
unfoldable pub use Rattle.game_rules.specs.Play.{outcome}
pub use Rattle.game_rules.specs.Shapes.{is_same_point}
pub use Rattle.game_rules.specs.declared.Outcome.{Outcome}
pub use Rattle.game_rules.specs.declared.Outcome.TheVariants.{GoesOn}
pub use Rattle.game_rules.specs.declared.Point.{Point}
pub use Rattle.game_rules.specs.declared.RuleKind.{RuleKind}
pub use Rattle.position_table.specs.Packing.{packed}
pub use Rattle.position_table.specs.Remembering.{Remembered, looked_up, value_under}
pub use Rattle.proof_number.specs.Answers.{HasNoThreatWin, Leaves, OnWin, RootSays}
pub use Rattle.proof_number.specs.Children.{AreSettled, IsSettledChild, child_at, child_note, child_numbers, no_child, open_numbers}
pub use Rattle.proof_number.specs.Denials.{HasDenial, HasDenyingReply, IsDenied, IsLost, IsRefuted, WinsByFewFours}
pub use Rattle.proof_number.specs.GameTrees.{AreMet, AreTried, CanGrow, GameTree, HasTried, IsBare, IsDisproved, IsGameTree, IsLostAt}
pub use Rattle.proof_number.specs.GameTrees.{TellsTruly, WinsAt, among, board_at, board_of, left_at, left_before, moves_of, noted_tree}
unfoldable pub use Rattle.proof_number.specs.GameTrees.{board_within}
pub use Rattle.proof_number.specs.Looks.{AreChildrenOf, IsAdded, IsDeniedByFours, IsPart, IsTrueLook, LookMemory, part_of, table_in}
pub use Rattle.proof_number.specs.Notes.{all_notes, answer_of, no_note, note_at, note_for, noted_for, noted_win, or_first, win_of}
pub use Rattle.proof_number.specs.Remembered.{IsTrueMemo, IsTrueOf}
pub use Rattle.proof_number.specs.SearchTrees.{AtMostProving, HasDisproved, HasRunOut, IsCounted, IsSearchTree, PassesBudget, attack_nodes}
pub use Rattle.proof_number.specs.SearchTrees.{attacks_behind, behind_at, behind_leaves, defences_behind, is_attack, is_open_leaf, unproved}
pub use Rattle.proof_number.specs.SearchTrees.{wins_behind}
unfoldable pub use Rattle.proof_number.specs.SearchTrees.{sum_below}
pub use Rattle.proof_number.specs.Searches.{AreWritten, CanBegin, Grows, HasBegun, HasGrown, HasSpent, HasStayed, HasStepped, IsAbove}
pub use Rattle.proof_number.specs.Searches.{HasEnded, HasFollowed, HasSpare, IsOpenLeaf, IsOther, IsThere, one_more}
pub use Rattle.proof_number.specs.Searches.{IsAtLeaf, IsBack, IsExpandedAt, IsMet, IsNew, IsNotedWin, IsOverBudget, IsPassed, IsSameAim}
pub use Rattle.proof_number.specs.Searches.{IsSearching, IsSettledAt, IsStep, IsTried, KeepsTree, OnStep, Searches, StandsAt, closed_nodes}
pub use Rattle.proof_number.specs.Searches.{game_of, noted_won, unwritten, won_at}
unfoldable pub use Rattle.proof_number.specs.Searches.{most_nodes, nodes_so_far, room_in}
pub use Rattle.proof_number.specs.Searches.Grows.{known_grown}
pub use Rattle.proof_number.specs.Searches.Searches.{known_searching}
pub use Rattle.proof_number.specs.Searches.StandsAt.{known_at_leaf}
pub use Rattle.proof_number.specs.ThreatWins.{behind_threats}
unfoldable pub use Rattle.proof_number.specs.ThreatWins.{threat_wins}
pub use Rattle.proof_number.specs.Told.{IsTold, IsTrueAnswer}
pub use Rattle.proof_number.specs.declared.notes.Note.{Note}
pub use Rattle.proof_number.specs.declared.notes.Settled.{Settled}
pub use Rattle.proof_number.specs.declared.notes.Settled.TheVariants.{Lost, Won}
pub use Rattle.proof_number.specs.declared.search.Search.{Search}
pub use Rattle.proof_number.specs.declared.search.Step.{Step}
pub use Rattle.proof_number.specs.declared.search.Step.TheVariants.{Done}
pub use Rattle.proof_tree.specs.Combining.{combined, is_settled, least, no_numbers, other_kind, settled_numbers, total}
pub use Rattle.proof_tree.specs.Trees.{IsAlive, IsOnWayUp, IsTree, OthersStay, Tree, ancestor, children_of, leaf_sum, link_at, most_proving}
pub use Rattle.proof_tree.specs.Trees.{numbers_at}
pub use Rattle.proof_tree.specs.declared.Kind.{Kind}
pub use Rattle.proof_tree.specs.declared.Kind.TheVariants.{Attack, Defend}
pub use Rattle.proof_tree.specs.declared.Link.{Link}
pub use Rattle.proof_tree.specs.declared.Numbers.{Numbers}
pub use Rattle.strategy_compiler.specs.Forks.{WinsByAnswers}
pub use Rattle.strategy_compiler.specs.Growth.{GrowsBy, Writes}
pub use Rattle.strategy_compiler.specs.Nodes.{IsCompiled}
pub use Rattle.strategy_compiler.specs.Wins.{IsWrittenWin}
pub use Rattle.strategy_compiler.specs.declared.error.SearchError.{SearchError}
pub use Rattle.strategy_compiler.specs.declared.wins.WrittenWin.{WrittenWin}
pub use Rattle.strategy_graph.specs.Tables.{NamesLower, depth, greatest}
pub use Rattle.strategy_graph.specs.declared.Node.{Node}
pub use Rattle.threat_game.specs.Attacks.{IsDoubleWin, tried_moves}
unfoldable pub use Rattle.threat_game.specs.Attacks.{is_last_move}
pub use Rattle.threat_game.specs.Replies.{IsJudged, answer_nodes, is_open, moves_for, nodes_for, one_if}
pub use Rattle.threat_game.specs.ThreatGame.{LosesToThreats, move_at, nowhere}
unfoldable pub use Rattle.threat_game.specs.ThreatGame.{threat_tree}
pub use Rattle.threat_game.specs.Wins.{IsThreatWin}
pub use Rattle.threat_game.specs.declared.doubles.DoublePoint.{DoublePoint}
pub use Rattle.threat_game.specs.declared.replies.Child.{Child}
pub use Rattle.threat_game.specs.declared.replies.Children.{Children}
pub use Rattle.threat_game.specs.declared.replies.Judged.{Judged}
pub use Rattle.threat_game.specs.declared.replies.Judged.TheVariants.{Five, Last, Open}
