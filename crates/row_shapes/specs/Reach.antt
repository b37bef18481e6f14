-- Stones within reach of a point: those that a stone there would stand in a row with, if one empty point were filled.
use Rattle.std.specs.Prelude.{ℕ, ◌+◌, max, if◌then◌else◌, Option, Some, None}
use Rattle.game_rules.specs.Grid.{Grid, is_empty}
use Rattle.game_rules.specs.Ways.{opposite, stones_towards, run_end}
use Rattle.game_rules.specs.declared.Side.{Side}
use Rattle.game_rules.specs.declared.Axis.{Axis}
use Rattle.game_rules.specs.declared.Point.{Point}
use Rattle.game_rules.specs.declared.Way.{Way}
use Rattle.game_rules.specs.declared.Way.TheVariants.{Ahead, Behind}

-- how many stones of the side stand in an unbroken row past the point in that way, if there is such a point and it is empty
abbrev pub stones_past : Way → Grid → Side → Axis → Option Point → ℕ
stones_past way b s d None = 0
stones_past way b s d (Some q) = if is_empty b q then stones_towards way b s d q else 0

-- how many stones of the side stand next to the point on the axis, in both ways, and past one empty point in that way
abbrev pub reach_towards : Way → Grid → Side → Axis → Point → ℕ
reach_towards way b s d p =
    stones_towards way b s d p + stones_towards (opposite way) b s d p + stones_past way b s d (run_end b s d way p)

-- how many stones of the side are within reach of the point on the axis, over the better one of the two ways
abbrev pub stones_in_reach : Grid → Side → Axis → Point → ℕ
stones_in_reach b s d p = max (reach_towards Ahead b s d p) (reach_towards Behind b s d p)
