-- Points of one line.
use Rattle.std.specs.Prelude.{◌+◌, ◌==◌, Bool}
use Rattle.std.specs.List.{list_any}
use Rattle.game_rules.specs.Grid.{axes}
use Rattle.game_rules.specs.declared.Axis.{Axis}
use Rattle.game_rules.specs.declared.Axis.TheVariants.{Row, Column, Down, Up}
use Rattle.game_rules.specs.declared.Point.{Point}

-- whether q is on the line of the axis through p
abbrev pub same_line : Axis → Point → Point → Bool
same_line Row p q = q.y == p.y
same_line Column p q = q.x == p.x
same_line Down p q = q.x + p.y == p.x + q.y
same_line Up p q = q.x + q.y == p.x + p.y

-- whether two points are on one line of some axis
abbrev pub is_aligned : Point → Point → Bool
is_aligned p q = list_any (λ d. same_line d p q) axes
