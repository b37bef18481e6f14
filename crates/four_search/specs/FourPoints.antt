-- The points at which a stone of the side to move makes a five point.
use Rattle.std.specs.Prelude.{◌≡◌, ◌<◌, ℕ, suc, Bool, true, false, ◌&&◌, if◌then◌else◌, List, [], ◌∷◌, map}
use Rattle.std.specs.List.{filter, list_any}
use Rattle.game_rules.specs.Grid.{Grid, is_empty, empties_of, points_of}
use Rattle.game_rules.specs.Shapes.{is_same_point}
use Rattle.game_rules.specs.Play.{IsPosition, outcome, mover, other, has_fouls, after}
use Rattle.game_rules.specs.Games.{has_five, five_points}
use Rattle.game_rules.specs.Points.{precedes}
use Rattle.game_rules.specs.declared.RuleKind.{RuleKind}
use Rattle.game_rules.specs.declared.Outcome.TheVariants.{GoesOn}
use Rattle.game_rules.specs.declared.Point.{Point}
use Rattle.row_shapes.specs.FivePoints.{in_short}
use Rattle.row_shapes.specs.declared.fives.FivePoints.{FivePoints}
use Rattle.row_shapes.specs.declared.fives.FivePoints.TheVariants.{None, One, Several}
use Rattle.four_search.specs.declared.four_points.FourPoint.{FourPoint}

-- whether the point is empty, and with a stone on it the side to move has a five point
abbrev pub makes : RuleKind → Grid → Point → Bool
makes rule b q = is_empty b q && has_five rule (after b q) (mover b)

-- the point, and the five points of the side to move with a stone on it
abbrev pub four_point_at : RuleKind → Grid → Point → FourPoint
four_point_at rule b q = record { at = q; made = in_short (five_points rule (after b q) (mover b)) }

-- the points that pass a test, in reading order
abbrev pub four_points_by : RuleKind → Grid → (Point → Bool) → List FourPoint
four_points_by rule b f = map (four_point_at rule b) (filter f (points_of b))

-- the points that make a five point, in reading order
abbrev pub four_points_of : RuleKind → Grid → List FourPoint
four_points_of rule b = four_points_by rule b (makes rule b)

-- the point, if it makes a five point
abbrev pub still_at : RuleKind → Grid → Point → List FourPoint
still_at rule b q = if makes rule b q then four_point_at rule b q ∷ [] else []

-- the points of a list that make a five point
abbrev pub still_of : RuleKind → Grid → List FourPoint → List FourPoint
still_of rule b ms = map (four_point_at rule b) (filter (makes rule b) (map (λ m. m.at) ms))

-- whether the point is one of the list
abbrev pub has_four_point : List FourPoint → Point → Bool
has_four_point ms q = list_any (λ m. is_same_point m.at q) ms

-- how many of the list stand before the first that does not precede q
abbrev pub place_in : Point → List FourPoint → ℕ
place_in q [] = 0
place_in q (m ∷ ms) = if precedes m.at q then suc (place_in q ms) else 0

-- some of the points that make a five point, in reading order
pub record AreFourPoints (rule : RuleKind) (b : Grid) (ms : List FourPoint) : Type 0 where
  pub has : Point → Bool
  pub are : ms ≡ four_points_by rule b has
  pub make : (q : Point) → has q ≡ true → makes rule b q ≡ true

-- the new list has all points of the old one, and each that is wanted, if it makes a five point
pub record Joins (rule : RuleKind) (b : Grid) (old new : List FourPoint) (wanted : Point → Type 0) : Type 0 where
  pub four_points : AreFourPoints rule b new
  pub kept : (q : Point) → has_four_point old q ≡ true → has_four_point new q ≡ true
  pub joined : (q : Point) → wanted q → makes rule b q ≡ true → has_four_point new q ≡ true

-- c comes by the move p from a lawful position without a five point, and these are the points that made a five point there
pub record AfterFour (rule : RuleKind) (ms : List FourPoint) (p : Point) (c : Grid) : Type 0 where
  pub first : Grid
  pub lawful : IsPosition rule first
  pub none : has_five rule first (mover first) ≡ false
  pub on : outcome rule first p ≡ GoesOn
  pub is : c ≡ after first p
  pub four_points : ms ≡ four_points_of rule first

-- b comes from such a position by the reply w
pub record AfterReply (rule : RuleKind) (ms : List FourPoint) (p w : Point) (b : Grid) : Type 0 where
  pub four : Grid
  pub from : AfterFour rule ms p four
  pub on : outcome rule four w ≡ GoesOn
  pub is : b ≡ after four w

-- m is one of the points that made a five point in the lawful position from which b comes by the moves p and w
pub record WasFourPoint (rule : RuleKind) (p w : Point) (b : Grid) (m : FourPoint) : Type 0 where
  pub first : Grid
  pub lawful : IsPosition rule first
  pub none : has_five rule first (mover first) ≡ false
  pub on : outcome rule first p ≡ GoesOn
  pub reply : outcome rule (after first p) w ≡ GoesOn
  pub is : b ≡ after (after first p) w
  pub made : makes rule first m.at ≡ true
  pub told : m ≡ four_point_at rule first m.at

-- with these five points of the other side no stone takes all of them and makes a five point
abbrev pub RulesOut : RuleKind → Grid → FivePoints → Type 0
RulesOut rule b None = ⊥
RulesOut rule b (One w) = has_five rule (after b w) (mover b) ≡ false
RulesOut rule b Several = Unit {0}

-- with these five points of the side to move after a four it has one block, its defender has no fouls, and more than two points are empty
abbrev pub HasCalmBlock : RuleKind → Grid → FivePoints → Type 0
HasCalmBlock rule b None = ⊥
HasCalmBlock rule b (One w) = (has_fouls rule (other (mover b)) ≡ false) × (2 < empties_of b)
HasCalmBlock rule b Several = ⊥
