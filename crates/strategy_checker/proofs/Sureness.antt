-- A node that is sure wins after each reply that goes on elsewhere: its attack stays a five point.
use Rattle.std.proofs.Common.{◌≡◌, ℕ, ◌<◌, Bool, true, false, refl, sym, ap, subst, ◌∙◌, arith, List, nat_eq, rules, Option, Some, None}
use Rattle.std.proofs.Common.{IfSome, slice_get, option_map}
use Rattle.std.proofs.lemmas.Bool.Decides.{nat_tests}
use Rattle.std.proofs.lemmas.Bool.{not-true}
use Rattle.strategy_checker.proofs.Common.{Grid, lift, empties_of, has_five, IsPosition, outcome, mover, after, has_fouls, RuleKind, Wins}
use Rattle.strategy_checker.proofs.Common.{GoesOn, Point, Node, Accepted, arrivals, Sure, AreFives, HadNone, IsQuick, IsSure, TellsFives}
use Rattle.strategy_checker.proofs.Common.{fives_after, is_sure_after, leaves_none}
use Rattle.game_rules.proofs.Common.{holds, five_points, five, other}
use Rattle.game_rules.specs.declared.Side.{Side}
use Rattle.game_rules.proofs.Boards.{and_left, and_right, Apart}
use Rattle.game_rules.proofs.Points.{is_same_point-apart, is_same_point-same, taken_refused}
use Rattle.game_rules.proofs.Fives.{five-other}
use Rattle.game_rules.proofs.Positions.{GoesOn-empty, after-stone, lift-after, mover-other, mover-then}
use Rattle.game_rules.proofs.Outcomes.{five-outcome, outcome-more}
use Rattle.row_shapes.specs.FivePoints.{in_short}
use Rattle.row_shapes.specs.declared.fives.FivePoints.{FivePoints}
use Rattle.row_shapes.specs.declared.fives.FivePoints.TheVariants.{None as NoPoint, One, Several}
use Rattle.row_shapes.proofs.FiveLaws.{has_five-none, none-left as no-left, one-taken}
use Rattle.strategy_graph.proofs.Filling.{IsTable-lower}
use Rattle.strategy_graph.proofs.Steps.{accepted-by-win, arrivals-one}

module _ (rule : RuleKind) (t : List Node) (b : Grid) (q : Point) (lawful : IsPosition rule b) (on : outcome rule b q ≡ GoesOn) where
  -- a five point of the side that is not to move wins after a reply elsewhere
  outcome-after : (w : Point) → five rule b (other (mover b)) w ≡ true → Apart q w → outcome rule (after b q) w ≡ Wins
  outcome-after w h apart = five-outcome rule (after b q) w (ap (λ (s : Side). five rule (after b q) s w) (mover-then rule b q lawful on)
      ∙ five-other b (mover b) q lawful.board (GoesOn-empty rule b q on) rule w apart ∙ h)

  -- what is sure is accepted after such a reply, and is the one arrival there
  pub sure-accepted : (sure : Option Sure) (i : ℕ) → IfSome sure (IsSure rule t b) → is_sure_after sure i q ≡ true
      → Accepted rule t i (after b q) × (arrivals rule t i (after b q) ≡ 1)
  sure-accepted None i is h = cc
  sure-accepted (Some s) i is h = by_node (slice_get t s.node) refl is.attack where
    here : nat_eq s.node i ≡ true
    here = and_left (nat_eq s.node i) _ h

    apart : Apart q s.attack
    apart =
        let else = is_same_point-apart s.attack q (not-true _ (and_right (nat_eq s.node i) _ h)) in
        record { apart = λ x y. else.apart (sym x) (sym y) }

    by_node : (o : Option Node) → slice_get t s.node ≡ o → option_map (λ n. n.attack) o ≡ Some s.attack
        → Accepted rule t i (after b q) × (arrivals rule t i (after b q) ≡ 1)
    by_node None e k = cc
    by_node (Some n) e k =
        let same : s.node ≡ i = grind (arith, nat_tests, here) in
        let at : slice_get t i ≡ Some n = ap (slice_get t) (sym same) ∙ e in
        let attack : n.attack ≡ s.attack = cc in
        let wins : outcome rule (after b q) n.attack ≡ Wins =
        ap (outcome rule (after b q)) attack ∙ outcome-after s.attack is.five_point apart in
        let lower = IsTable-lower t is.table in
        (accepted-by-win rule t lower i (after b q) n at wins, arrivals-one rule t lower i (after b q) n at Wins wins (λ e. cc))

-- what is told of the five points of the side that moved last, with the move of the other side after it
pub none-left : (rule : RuleKind) (b : Grid) (p : Point) → IsPosition rule b → outcome rule b p ≡ GoesOn → (fives : Option FivePoints)
    → TellsFives rule b fives → leaves_none fives p ≡ true → has_five rule (after b p) (mover (after b p)) ≡ false
none-left rule b p lawful on fives told h = subst (λ (s : Side). has_five rule (after b p) s ≡ false)
    (sym (mover-then rule b p lawful on)) (has_five-none rule (after b p) (other (mover b)) (by_told fives told h)) where
      by_told : (fives : Option FivePoints) → TellsFives rule b fives → leaves_none fives p ≡ true
          → in_short (five_points rule (after b p) (other (mover b))) ≡ NoPoint
      by_told None told h = cc
      by_told (Some NoPoint) told h = no-left rule b (mover b) p lawful.board (GoesOn-empty rule b p on) (sym told)
      by_told (Some (One w)) told h = one-taken rule b (mover b) p lawful.board (GoesOn-empty rule b p on) w (sym told)
          (sym (is_same_point-same w p h))
      by_told (Some Several) told h = cc

-- what is known of the five points of the side that moved last, once it has moved
pub had_none : (rule : RuleKind) (b : Grid) (q : Point) → IsPosition rule b → outcome rule b q ≡ GoesOn
    → (free : Bool) → (free ≡ true → has_five rule b (mover b) ≡ false) → (c : Grid) → c ≡ after b q → AreFives rule c (fives_after free q)
had_none rule b q lawful on free none c there = search (rules, lift-after)

-- where the side to move has no five point and no fouls, each reply on an empty point goes on, unless that is the last
pub quick-going : (rule : RuleKind) (b : Grid) → has_five rule b (mover b) ≡ false → has_fouls rule (mover b) ≡ false → 1 < empties_of b
    → (p : Point) → IsQuick rule b p
quick-going rule b free calm more p = search (rules, outcome-more, taken_refused)

-- the five points that the last stone made
module _ (rule : RuleKind) (b : Grid) (q : Point) (had : HadNone rule b q) where
  pub last-stone : holds b (other (mover b)) q ≡ true
  last-stone = subst (λ (w : Grid). holds w (other (mover w)) q ≡ true) had.back (after-stone rule (lift b q) q had.lawful had.on)

  pub made-fives : (f : FivePoints) (u : Grid) → u ≡ lift b q → f ≡ in_short (five_points rule (after u q) (mover u))
      → f ≡ in_short (five_points rule b (other (mover b)))
  made-fives f u undone made = search (rules, mover-other)
