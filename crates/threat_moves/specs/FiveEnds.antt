-- The points that fill a four, found at the two ends of its run, the places of a line where a three becomes a straight four, and those
-- where it is stopped: second ways to say where they are, from which the code reads.
use Rattle.std.specs.Prelude.{◌≡◌, ◌<◌, ℕ, Bool, true, false, ◌||◌, if◌then◌else◌, List, Option, Some, None, IfSome}
use Rattle.std.specs.List.{count_by}
use Rattle.game_rules.specs.Grid.{Grid, is_empty, put, axes}
use Rattle.game_rules.specs.Shapes.{is_at}
use Rattle.game_rules.specs.Play.{has_fouls}
use Rattle.game_rules.specs.Ways.{run_end}
use Rattle.game_rules.specs.declared.RuleKind.{RuleKind}
use Rattle.game_rules.specs.declared.Side.{Side}
use Rattle.game_rules.specs.declared.Side.TheVariants.{Black}
use Rattle.game_rules.specs.declared.Axis.{Axis}
use Rattle.game_rules.specs.declared.Point.{Point}
use Rattle.game_rules.specs.declared.Way.{Way}
use Rattle.game_rules.specs.declared.Way.TheVariants.{Ahead, Behind}
use Rattle.row_shapes.specs.FiveEnds.{kept_five}
use Rattle.foul_judge.specs.ShortCut.{has_line_three}
use Rattle.open_windows.specs.PointSets.{has_point}
use Rattle.threat_moves.specs.FreePoints.{StaysFree}
use Rattle.threat_moves.specs.Threats.{is_straight_point, stops_three}

-- the first point in that way from the side's stone on g that holds no stone of the side, if a stone of the side there wins on
-- the axis
abbrev pub five_end : RuleKind → Grid → Side → Axis → Point → Way → Option Point
five_end rule b s d g way = kept_five rule b s d (run_end b s d way g)

-- whether c is such an end in one of the two ways
abbrev pub is_five_end : RuleKind → Grid → Side → Axis → Point → Point → Bool
is_five_end rule b s d g c = is_at c (five_end rule b s d g Ahead) || is_at c (five_end rule b s d g Behind)

-- whether there is such a point, and it gives a straight four
abbrev pub is_straight_at : RuleKind → Grid → Side → Axis → Point → Option Point → Bool
is_straight_at rule b s d g None = false
is_straight_at rule b s d g (Some q) = is_straight_point rule b s d g q

-- fewer than two axes have three points of the side's stone on q, as far as each axis decides, or the side has no fouls
abbrev pub IsSure : RuleKind → Grid → Side → Point → Type 0
IsSure rule b s q = has_fouls rule s ≡ true → count_by (λ d. has_line_three rule (put b Black q) d q) axes < 2

-- there is such a point, the side's stone on it gives a straight four with that on p, and it stays no foul wherever the other side puts a
-- stone
pub record IsSureAt (rule : RuleKind) (b : Grid) (s : Side) (d : Axis) (p : Point) (o : Option Point) : Type 0 where
  pub straight : is_straight_at rule b s d p o ≡ true
  pub stays : IfSome o (StaysFree rule b s)

-- the first point in that way past an empty one that holds no stone of the side
abbrev pub end_past : Grid → Side → Axis → Way → Option Point → Option Point
end_past b s d way None = None
end_past b s d way (Some q) = if is_empty b q then run_end b s d way q else None

-- whether z is the first point in that way from the side's stone on p that holds no stone of the side, or the next one, if the first is
-- empty
abbrev pub is_past : Grid → Side → Axis → Point → Way → Point → Bool
is_past b s d p way z = is_at z (run_end b s d way p) || is_at z (end_past b s d way (run_end b s d way p))

-- the set has each cost of the three of the side's stone on p
abbrev pub HasCosts : RuleKind → Grid → Side → Axis → Point → List ℕ → Type 0
HasCosts rule b s d p set = (z : Point) → stops_three rule b s d p z ≡ true → has_point set z ≡ true
