-- What a stone outside the open windows of its side does not make.
use Rattle.std.proofs.Common.{◌≡◌, ◌∙◌, refl, Bool, true, false, [], arith, ap, sym}
use Rattle.std.proofs.lemmas.Bool.{false_from_ne_true, both_ways}
use Rattle.game_rules.proofs.Common.{Grid, IsBoard, is_empty, put, has_five, has_threat, is_double_point}
use Rattle.game_rules.proofs.Boards.{and_left, and_right}
use Rattle.game_rules.specs.declared.RuleKind.{RuleKind}
use Rattle.game_rules.specs.declared.Side.{Side}
use Rattle.game_rules.specs.declared.Point.{Point}
use Rattle.row_shapes.specs.FivePoints.{is_several}
use Rattle.row_shapes.proofs.FiveLaws.{none-short}
use Rattle.open_windows.specs.OpenWindows.{in_window}
use Rattle.open_windows.proofs.Fewer.{in-fewer}
use Rattle.open_windows.proofs.NewFives.{five-in}
use Rattle.threat_moves.proofs.GainLaws.{double-empty, threat-by_double}
use Rattle.threat_game.proofs.Common.{makes_two, points_of_two}
use Rattle.threat_game.proofs.NearDoubles.{no_five-no_double, outside-no_new_double}

-- outside windows with three stones
module _ (rule : RuleKind) (b : Grid) (s : Side) (p : Point) (ok : IsBoard b) (none : has_five rule b s ≡ false)
    (out : in_window b s 3 p ≡ false) where
  pub outside-no_five : is_empty b p ≡ true → has_five rule (put b s p) s ≡ false
  outside-no_five empty = false_from_ne_true _ (λ h. both_ways _ out (five-in rule b s p ok empty none h))

-- a double point lies in one, and so does a point that makes two five points
module _ (rule : RuleKind) (b : Grid) (s : Side) (p : Point) (ok : IsBoard b) (none : has_five rule b s ≡ false) where
  pub double-in : is_double_point rule b s p ≡ true → in_window b s 3 p ≡ true
  double-in h = by_five (has_five rule (put b s p) s) refl where
    by_five : (r : Bool) → has_five rule (put b s p) s ≡ r → in_window b s 3 p ≡ true
    by_five true made = five-in rule b s p ok (double-empty rule b s p h) none made
    by_five false quiet = absurd (both_ways _ (no_five-no_double rule b s p quiet) h)

  pub two-in : makes_two rule b s p ≡ true → in_window b s 3 p ≡ true
  two-in h = by_five (has_five rule (put b s p) s) refl where
    by_five : (r : Bool) → has_five rule (put b s p) s ≡ r → in_window b s 3 p ≡ true
    by_five true made = five-in rule b s p ok (and_left (is_empty b p) _ h) none made
    by_five false quiet = absurd (both_ways _ (ap is_several (none-short rule (put b s p) s quiet)) (and_right (is_empty b p) _ h))

-- outside windows with two, where no point makes two five points
pub outside-no_threat : (rule : RuleKind) (b : Grid) (s : Side) (p : Point) → IsBoard b → has_five rule b s ≡ false → is_empty b p ≡ true
    → in_window b s 2 p ≡ false → points_of_two rule b s ≡ [] → false ≡ has_threat rule (put b s p) s
outside-no_threat rule b s p ok none empty out quiet =
    let three : in_window b s 3 p ≡ false = false_from_ne_true _ (λ h. both_ways _ out (in-fewer b s 3 2 p (omega arith) h)) in
    let no_five = outside-no_five rule b s p ok none three empty in
    sym (outside-no_new_double rule b s p ok empty no_five out quiet) ∙ threat-by_double rule (put b s p) s no_five
