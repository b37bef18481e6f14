-- The words of strength_drill, all in one place for the files of laws.
pub use Rattle.brain_session.specs.States.{Game, InGame, State, board_of, empty_board, new_brain, new_game}
pub use Rattle.brain_session.specs.Steps.{Step, brain_step, rule_of}
pub use Rattle.brain_session.specs.declared.Reaction.TheVariants.{Says}
pub use Rattle.four_search.specs.declared.fewest.FourTable.{FourTable}
pub use Rattle.game_rules.specs.Grid.{Grid, empties_of, is_empty, points_of}
pub use Rattle.game_rules.specs.Play.{IsPosition, after, goes_on, mover}
unfoldable pub use Rattle.game_rules.specs.Play.{outcome}
pub use Rattle.game_rules.specs.declared.Outcome.{Outcome}
pub use Rattle.game_rules.specs.declared.Outcome.TheVariants.{GoesOn}
pub use Rattle.game_rules.specs.declared.Point.{Point}
pub use Rattle.game_rules.specs.declared.RuleKind.{RuleKind}
pub use Rattle.gomocup_text.specs.declared.Answer.TheVariants.{Error, Move}
pub use Rattle.gomocup_text.specs.declared.Command.TheVariants.{Done, Turn}
pub use Rattle.gomocup_text.specs.declared.ErrorText.TheVariants.{OpponentFoul}
pub use Rattle.strategy_checker.specs.HeldRoots.{HeldTable, IsHeld}
pub use Rattle.strategy_compiler.specs.Walks.{last}
pub use Rattle.strategy_graph.specs.declared.Node.{Node}
pub use Rattle.strategy_graph.specs.declared.roots.Root.TheVariants.{Attack}
pub use Rattle.strength_drill.specs.Counts.{AreOnlyCounts, AreWithin, ComesOf, Found, IsCounted, IsHoldable, IsNotHeld, IsShare, NoWin}
pub use Rattle.strength_drill.specs.Counts.{OverBudget, PlaysGame, WinIn, found_by, no_counts, together}
unfoldable pub use Rattle.strength_drill.specs.Counts.{AreCounts, found_within}
pub use Rattle.strength_drill.specs.Draws.{all_stones, draw_at, drawn, middle_point, next_number, position_drawn, rule_at}
unfoldable pub use Rattle.strength_drill.specs.Draws.{board_drawn, number_after, with_point}
pub use Rattle.strength_drill.specs.DrillGames.{IsGamePlayed, IsPlayedOut, board_now, board_point, drawn_move, drawn_turn, held_at}
pub use Rattle.strength_drill.specs.DrillGames.{is_ended, is_won, last_wins, move_said, moves_by, moves_of_brain, position_lines, says_foul}
pub use Rattle.strength_drill.specs.DrillGames.{state_begun, stone_line, stone_lines, told_all, wish_of}
unfoldable pub use Rattle.strength_drill.specs.DrillGames.{after_turns}
pub use Rattle.strength_drill.specs.declared.counts.Counts.{Counts}
pub use Rattle.strength_drill.specs.declared.drill.TheConstants.{BUDGET, DEPTH}
pub use Rattle.strength_drill.specs.declared.positions.TheConstants.{SIDE}
