-- How far a walk along an axis stays on the board.
use Rattle.std.specs.Prelude.{ℕ, ◌-◌, min}
use Rattle.game_rules.specs.declared.Axis.{Axis}
use Rattle.game_rules.specs.declared.Axis.TheVariants.{Row, Column, Down, Up}
use Rattle.game_rules.specs.declared.Point.{Point}
use Rattle.game_rules.specs.declared.Way.{Way}
use Rattle.game_rules.specs.declared.Way.TheVariants.{Ahead, Behind}

-- how many steps from a point of a board of this width and height stay on it, in that way along the axis
abbrev pub steps_left : Way → Axis → ℕ → ℕ → Point → ℕ
steps_left Ahead Row width height p = width - 1 - p.x
steps_left Ahead Column width height p = height - 1 - p.y
steps_left Ahead Down width height p = min (width - 1 - p.x) (height - 1 - p.y)
steps_left Ahead Up width height p = min (width - 1 - p.x) p.y
steps_left Behind Row width height p = p.x
steps_left Behind Column width height p = p.y
steps_left Behind Down width height p = min p.x p.y
steps_left Behind Up width height p = min p.x (height - 1 - p.y)
