-- The five points that a new stone makes, found at the ends of its runs: a second way to say where they are, from which
-- the code reads.
use Rattle.std.specs.Prelude.{ℕ, ◌+◌, Bool, ◌&&◌, if◌then◌else◌, Option, Some, None}
use Rattle.game_rules.specs.Grid.{Grid, is_empty, put}
use Rattle.game_rules.specs.Shapes.{row_wins, wins_on, is_same_point}
use Rattle.game_rules.specs.Ways.{stones_towards, run_end}
use Rattle.game_rules.specs.declared.RuleKind.{RuleKind}
use Rattle.game_rules.specs.declared.Side.{Side}
use Rattle.game_rules.specs.declared.Axis.{Axis}
use Rattle.game_rules.specs.declared.Point.{Point}
use Rattle.game_rules.specs.declared.Way.{Way}
use Rattle.game_rules.specs.declared.Way.TheVariants.{Ahead, Behind}
use Rattle.row_shapes.specs.declared.fives.FivePoints.{FivePoints}
use Rattle.row_shapes.specs.declared.fives.FivePoints.TheVariants.{None as NoPoint, One, Several}

-- the point, if there is one and a stone of the side on it makes a winning run on the axis
abbrev pub kept_five : RuleKind → Grid → Side → Axis → Option Point → Option Point
kept_five rule b s d None = None
kept_five rule b s d (Some q) = if wins_on rule b s d q then Some q else None

-- the end of the run of a new stone of the side on p in that way, if a further stone there wins on the axis: the end is the
-- first point in that way that holds no stone of the side
unfoldable pub end_five : RuleKind → Grid → Side → Axis → Point → Way → Option Point
end_five rule b s d p way = kept_five rule (put b s p) s d (run_end b s d way p)

-- whether the point is empty, and a stone on it wins where it joins a run of so many stones, which ends before it, to the
-- stones past it in that way
abbrev pub joins_to_win : RuleKind → Grid → Side → Axis → Way → Point → ℕ → Bool
joins_to_win rule b s d way q length = is_empty b q && row_wins rule s (1 + length + stones_towards way b s d q)

-- the five points told so far, and one more if there is one, which may be told already
abbrev pub with_more : FivePoints → Option Point → FivePoints
with_more found None = found
with_more NoPoint (Some q) = One q
with_more (One w) (Some q) = if is_same_point w q then One w else Several
with_more Several (Some q) = Several

-- the five points told so far, and those at the two ends of the run of a new stone on one axis
abbrev pub with_axis : RuleKind → Grid → Side → Point → FivePoints → Axis → FivePoints
with_axis rule b s p found d = with_more (with_more found (end_five rule b s d p Ahead)) (end_five rule b s d p Behind)
