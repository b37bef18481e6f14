-- Steps along an axis that stay on the board.
use Rattle.std.specs.Prelude.{Bool, ◌&&◌, not, if◌then◌else◌, Option, Some, None}
use Rattle.game_rules.specs.Grid.{Grid, is_on, is_empty, is_empty_cell, cell_at}
use Rattle.game_rules.specs.declared.Point.{Point}

-- the point, if there is one and it is on the board
abbrev pub kept_on : Grid → Option Point → Option Point
kept_on b None = None
kept_on b (Some q) = if is_on b q then Some q else None

-- the point, if there is one and it is empty
abbrev pub kept_empty : Grid → Option Point → Option Point
kept_empty b None = None
kept_empty b (Some q) = if is_empty b q then Some q else None

-- whether the point is on the board and holds a stone
abbrev pub holds_stone : Grid → Point → Bool
holds_stone b p = is_on b p && not (is_empty_cell (cell_at b p))
