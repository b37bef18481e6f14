-- A double point on a line with a new stone: its own stone makes two five points on the line, or one on another, where the new stone has
-- no part, so that it lies in a window with three stones that stand already.
use Rattle.std.proofs.Common.{◌≡◌, ◌⊎◌, inl, inr, ℕ, true, false, List, refl, sym, ap, ◌∙◌, Option, Some, None}
use Rattle.std.proofs.Common.{rules}
use Rattle.std.proofs.lemmas.Bool.{false_from_ne_true, both_ways}
use Rattle.game_rules.proofs.Common.{Grid, IsBoard, is_empty, put, same_line, towards, run_end, has_five}
use Rattle.game_rules.proofs.Common.{five_points}
use Rattle.game_rules.specs.declared.RuleKind.{RuleKind}
use Rattle.game_rules.specs.declared.Side.{Side}
use Rattle.game_rules.specs.declared.Axis.{Axis}
use Rattle.game_rules.specs.declared.Axis.TheVariants.{Row, Column, Down, Up}
use Rattle.game_rules.specs.declared.Way.{Way}
use Rattle.game_rules.specs.declared.Way.TheVariants.{Ahead, Behind}
use Rattle.game_rules.specs.declared.Point.{Point}
use Rattle.game_rules.proofs.Boards.{Apart, is_empty-on}
use Rattle.game_rules.proofs.OneLine.{empty-before, line_here}
use Rattle.game_rules.proofs.Positions.{IsBoard-put}
use Rattle.game_rules.proofs.Wins.{no_five}
use Rattle.stone_board.specs.Steps.{kept_on}
use Rattle.row_shapes.specs.FivePoints.{in_short, is_several}
use Rattle.row_shapes.specs.FiveEnds.{end_five, with_axis, with_more}
use Rattle.row_shapes.specs.declared.fives.FivePoints.{FivePoints}
use Rattle.row_shapes.specs.declared.fives.FivePoints.TheVariants.{None as NoPoint}
use Rattle.row_shapes.proofs.NewFives.{end_fives, ends_short, kept_five-Some}
use Rattle.open_windows.specs.OpenWindows.{in_window}
use Rattle.open_windows.specs.PointSets.{TellsWindows}
use Rattle.open_windows.proofs.NewFives.{five-in}
use Rattle.threat_moves.proofs.GainLaws.{few-double, double-empty}
use Rattle.threat_game.specs.NearDoubles.{AreCrossings}
use Rattle.threat_game.proofs.NearDoubles.{one_line}
use Rattle.threat_game.proofs.OpenThrees.{kept-is}

-- two points that are not one have one line
cross : (d e : Axis) (p q : Point) → same_line d p q ≡ true → same_line e p q ≡ true
    → (d ≡ e) ⊎ ((p.x ≡ q.x) × (p.y ≡ q.y))
cross d e p q h k = search rules

-- a point some steps away is on the line
pub step-same : (b : Grid) (w : Way) (d : Axis) (p q : Point) (k : ℕ) → kept_on b (towards w d p k) ≡ Some q → same_line d p q ≡ true
step-same b w d p q k there = by_way w (kept-is b _ q there).0 where
  by_way : (v : Way) → towards v d p k ≡ Some q → same_line d p q ≡ true
  by_way Ahead at = line_here d p q k 0 at
  by_way Behind at = line_here d p q 0 k at

-- a stone on p, and then one on q on a line with it, which makes no five point alone
module _ (rule : RuleKind) (b : Grid) (s : Side) (p q : Point) (ok : IsBoard b) (empty : is_empty b p ≡ true)
    (none : has_five rule (put b s p) s ≡ false) (free_q : is_empty (put b s p) q ≡ true)
    (quiet : has_five rule (put b s q) s ≡ false) (apart : Apart p q) (d : Axis) (line : same_line d p q ≡ true) where
  abbrev with_p : Grid
  with_p = put b s p

  -- no end of its run on another axis is a five point
  other_end : (e : Axis) → (d ≡ e → ⊥) → (v : Way) (o : Option Point) → end_five rule with_p s e q v ≡ o
      → end_five rule with_p s e q v ≡ None
  unfolding end_five
  other_end e differ v None at = at
  other_end e differ v (Some w) at =
      let wins = (kept_five-Some rule (put with_p s q) s e (run_end with_p s e v q) w at).1 in
      let on_line = one_line rule b s p q ok empty none free_q w e wins (no_five rule (put b s q) s w quiet) in
      elim (cross d e p q line on_line) [ inl same ↦ absurd (differ same) | inr both ↦ absurd (apart.apart both.0 both.1) ]

  no_end : (e : Axis) → (d ≡ e → ⊥) → (v : Way) → end_five rule with_p s e q v ≡ None
  no_end e differ v = other_end e differ v (end_five rule with_p s e q v) refl

  idle : (e : Axis) → (d ≡ e → ⊥) → (found : FivePoints) → with_axis rule with_p s q found e ≡ found
  idle e differ found =
      ap (λ (o : Option Point). with_more (with_more found o) (end_five rule with_p s e q Behind)) (no_end e differ Ahead)
      ∙ ap (λ (o : Option Point). with_more found o) (no_end e differ Behind)

-- so all five points are on the line
module _ (rule : RuleKind) (b : Grid) (s : Side) (p q : Point) (ok : IsBoard b) (empty : is_empty b p ≡ true)
    (none : has_five rule (put b s p) s ≡ false) (free_q : is_empty (put b s p) q ≡ true)
    (quiet : has_five rule (put b s q) s ≡ false) (apart : Apart p q) where
  abbrev found : FivePoints → Axis → FivePoints
  found f d = with_axis rule (put b s p) s q f d

  abbrev by_row : FivePoints
  by_row = found NoPoint Row

  abbrev by_column : FivePoints
  by_column = found by_row Column

  abbrev by_down : FivePoints
  by_down = found by_column Down

  on_line : (d : Axis) → same_line d p q ≡ true → end_fives rule (put b s p) s q ≡ with_axis rule (put b s p) s q NoPoint d
  on_line Row line =
      let by = idle rule b s p q ok empty none free_q quiet apart Row line in
      by Up (λ e. cc) by_down ∙ by Down (λ e. cc) by_column ∙ by Column (λ e. cc) by_row
  on_line Column line =
      let by = idle rule b s p q ok empty none free_q quiet apart Column line in
      by Up (λ e. cc) by_down ∙ by Down (λ e. cc) by_column ∙ ap (λ (f : FivePoints). found f Column) (by Row (λ e. cc) NoPoint)
  on_line Down line =
      let by = idle rule b s p q ok empty none free_q quiet apart Down line in
      by Up (λ e. cc) by_down ∙ ap (λ (f : FivePoints). found f Down) (by Column (λ e. cc) by_row ∙ by Row (λ e. cc) NoPoint)
  on_line Up line =
      let by = idle rule b s p q ok empty none free_q quiet apart Up line in
      ap (λ (f : FivePoints). found f Up) (by Down (λ e. cc) by_column ∙ by Column (λ e. cc) by_row ∙ by Row (λ e. cc) NoPoint)

-- a double point after a stone on p, on a line with it on which it makes no two five points, lay in a window with three stones before
pub crossings-of : (rule : RuleKind) (b : Grid) (s : Side) (p : Point) (rows : List ℕ) → IsBoard b → is_empty b p ≡ true
    → has_five rule b s ≡ false → has_five rule (put b s p) s ≡ false → TellsWindows b s 3 rows → AreCrossings rule (put b s p) s p rows
crossings-of rule b s p rows ok empty before none tells = record {
  alone = λ d q line out few. false_from_ne_true _ (λ double.
      let free_q = double-empty rule (put b s p) s q double in
      let beside = empty-before b s p q ok (is_empty-on b p empty) free_q in
      let off : in_window b s 3 q ≡ false = sym (tells.points q (is_empty-on b q beside.1)) ∙ out in
      let quiet : has_five rule (put b s q) s ≡ false = false_from_ne_true _
      (λ five. both_ways _ off (five-in rule b s q ok beside.1 before five)) in
      let short : in_short (five_points rule (put (put b s p) s q) s) ≡ with_axis rule (put b s p) s q NoPoint d =
      sym (ends_short (put b s p) s q (IsBoard-put b s p ok) free_q rule none)
      ∙ on_line rule b s p q ok empty none free_q quiet beside.0 d line in
      both_ways _ (few-double rule (put b s p) s q (ap is_several short ∙ few)) double);
}
