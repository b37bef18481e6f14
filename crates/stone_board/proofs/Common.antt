-- The words of stone_board, all in one place for the files of laws.
pub use Rattle.game_rules.specs.Grid.{Grid, IsBoard, cell_at, holds, is_empty, is_on, is_stone_of, lift, place_of, put, stone_of}
pub use Rattle.game_rules.specs.Shapes.{stone_at}
pub use Rattle.game_rules.specs.Ways.{towards}
pub use Rattle.game_rules.specs.declared.Axis.{Axis}
pub use Rattle.game_rules.specs.declared.Axis.TheVariants.{Column, Down, Row, Up}
pub use Rattle.game_rules.specs.declared.Cell.{Cell}
pub use Rattle.game_rules.specs.declared.Cell.TheVariants.{Empty}
pub use Rattle.game_rules.specs.declared.Point.{Point}
pub use Rattle.game_rules.specs.declared.RuleKind.{RuleKind}
pub use Rattle.game_rules.specs.declared.Side.{Side}
pub use Rattle.game_rules.specs.declared.Side.TheVariants.{Black, White}
pub use Rattle.game_rules.specs.declared.TheConstants.{MAX_SIDE}
pub use Rattle.game_rules.specs.declared.Way.{Way}
pub use Rattle.game_rules.specs.declared.Way.TheVariants.{Ahead, Behind}
pub use Rattle.stone_board.specs.Kept.{IsKept}
pub use Rattle.stone_board.specs.Lines.{AreLines, HasPointOnLine, TellsLine, axis_number, index_of, line_of, place_on, place_towards}
pub use Rattle.stone_board.specs.Lines.{places_left, side_number, told}
unfoldable pub use Rattle.stone_board.specs.Lines.{all_turned, turned}
pub use Rattle.stone_board.specs.Order.{following, points_left}
pub use Rattle.stone_board.specs.Steps.{holds_stone, kept_empty, kept_on}
pub use Rattle.stone_board.specs.Walks.{steps_left}
