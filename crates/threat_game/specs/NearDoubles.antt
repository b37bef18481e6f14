-- Where a stone can make new double points.
use Rattle.std.specs.Prelude.{◌≡◌, ℕ, ◌+◌, ◌≤◌, nat_le, Bool, true, false, ◌&&◌, if◌then◌else◌, length, List, Option, Some, None}
use Rattle.std.specs.List.{list_any, filter, range_with_len}
use Rattle.game_rules.specs.Grid.{Grid, is_empty, put, points_of}
use Rattle.game_rules.specs.Games.{five_points, is_double_point}
use Rattle.game_rules.specs.Shapes.{stone_at}
use Rattle.game_rules.specs.Lines.{same_line}
use Rattle.game_rules.specs.Ways.{towards}
use Rattle.game_rules.specs.declared.RuleKind.{RuleKind}
use Rattle.game_rules.specs.declared.Side.{Side}
use Rattle.game_rules.specs.declared.Axis.{Axis}
use Rattle.game_rules.specs.declared.Axis.TheVariants.{Row, Column, Down, Up}
use Rattle.game_rules.specs.declared.Way.{Way}
use Rattle.game_rules.specs.declared.Way.TheVariants.{Ahead, Behind}
use Rattle.game_rules.specs.declared.Point.{Point}
use Rattle.row_shapes.specs.FivePoints.{in_short}
use Rattle.row_shapes.specs.FiveEnds.{with_axis}
use Rattle.row_shapes.specs.declared.fives.FivePoints.{FivePoints}
use Rattle.row_shapes.specs.declared.fives.FivePoints.TheVariants.{None as NoPoint, One, Several}
use Rattle.row_shapes.specs.FivePoints.{is_several}
use Rattle.open_windows.specs.PointSets.{has_point}
use Rattle.threat_game.specs.declared.near_stones.NearStones.{NearStones}

-- whether there is a five point
abbrev pub is_some_point : FivePoints → Bool
is_some_point NoPoint = false
is_some_point (One w) = true
is_some_point Several = true

-- whether the point is empty and a stone of the side on it leaves the side two five points or more
abbrev pub makes_two : RuleKind → Grid → Side → Point → Bool
makes_two rule b s q = is_empty b q && is_several (in_short (five_points rule (put b s q) s))

-- the points that do, in reading order
abbrev pub points_of_two : RuleKind → Grid → Side → List Point
points_of_two rule b s = filter (makes_two rule b s) (points_of b)

-- how many stones of the side stand within four steps of the point in that way
abbrev pub stones_within : Way → Grid → Side → Axis → Point → ℕ
stones_within w b s d p = length (filter (λ k. stone_at b s (towards w d p k)) (range_with_len 1 4))

-- how many do in both ways
abbrev pub stones_around : Grid → Side → Axis → Point → ℕ
stones_around b s d p = stones_within Ahead b s d p + stones_within Behind b s d p

-- on each axis at most so many stones of the side stand within four steps of the point
pub record AreNearStones (b : Grid) (s : Side) (p : Point) (near : NearStones) : Type 0 where
  pub row : stones_around b s Row p ≤ near.row
  pub column : stones_around b s Column p ≤ near.column
  pub down : stones_around b s Down p ≤ near.down
  pub up : stones_around b s Up p ≤ near.up

-- how many steps from a new stone a new double point may be on an axis on which so many others stand within four steps of it: none
-- with fewer than two, four with two, and with more as many as a line has
abbrev pub reach : ℕ → ℕ
reach stones = if nat_le 3 stones then 31 else if nat_le 2 stones then 4 else 0

-- whether a stone of the side on the point makes a five point on the axis, as the ends of its run there tell
unfoldable pub makes_on : RuleKind → Grid → Side → Axis → Point → Bool
makes_on rule b s d q = is_some_point (with_axis rule b s q NoPoint d)

-- the point q is as near to p as that, and a stone on it makes a five point on the axis of both
pub record IsInReach (rule : RuleKind) (b : Grid) (s : Side) (p q : Point) : Type 0 where
  pub axis : Axis
  pub way : Way
  pub steps : ℕ
  pub some : 1 ≤ steps
  pub near : steps ≤ reach (stones_around b s axis p)
  pub at : towards way axis p steps ≡ Some q
  pub made : makes_on rule b s axis q ≡ true

-- each double point of the side is as near to p as that, where none of the points is one
pub record DoublesAreNear (rule : RuleKind) (b : Grid) (s : Side) (p : Point) (points : List Point) : Type 0 where
  pub near : list_any (is_double_point rule b s) points ≡ false → (q : Point) → is_double_point rule b s q ≡ true → IsInReach rule b s p q

-- a point on a line with p that the set doesn't have is no double point of the side where its stone makes fewer than two five points on
-- the line
pub record AreCrossings (rule : RuleKind) (b : Grid) (s : Side) (p : Point) (rows : List ℕ) : Type 0 where
  pub alone : (d : Axis) (q : Point) → same_line d p q ≡ true → has_point rows q ≡ false
      → is_several (with_axis rule b s q NoPoint d) ≡ false → is_double_point rule b s q ≡ false

-- whether there is such a point, a stone of the side on it makes a five point on the axis, and it is a double point of the side
abbrev pub is_double_on : RuleKind → Grid → Side → Axis → Option Point → Bool
is_double_on rule b s d None = false
is_double_on rule b s d (Some q) = makes_on rule b s d q && is_double_point rule b s q
