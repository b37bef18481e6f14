-- Four moves: what they are, and what their lists hold.
use Rattle.std.proofs.Common.{◌≡◌, Bool, true, false, cond, refl, sym, ap, ◌∙◌, List, [], ◌∷◌, zero}
use Rattle.std.specs.List.{list_any}
use Rattle.game_rules.proofs.Common.{Grid, is_empty, outcome, mover, after, other, goes_on_with, has_five, five_points, wins_under}
use Rattle.game_rules.proofs.Common.{is_same_point}
use Rattle.game_rules.specs.declared.RuleKind.{RuleKind}
use Rattle.game_rules.specs.declared.Outcome.{Outcome}
use Rattle.game_rules.specs.declared.Outcome.TheVariants.{GoesOn}
use Rattle.game_rules.specs.declared.Point.{Point}
use Rattle.game_rules.proofs.Outcomes.{goes_on_with-parts, goes_on_with-false}
use Rattle.game_rules.proofs.Points.{taken_refused, is_same_point-itself, is_same_point-same}
use Rattle.game_rules.proofs.Tests.{or_false}
use Rattle.threat_moves.specs.declared.block.BlockAnswer.TheVariants.{Lost, One, Won}
use Rattle.threat_moves.proofs.Common.{by_block, by_fives, fate, is_four_move, all_foul, block_wins}
use Rattle.threat_moves.specs.declared.block.BlockAnswer.{BlockAnswer}

-- a four move goes on
pub four-goes_on : (rule : RuleKind) (b : Grid) (p : Point) → is_four_move rule b p ≡ true → outcome rule b p ≡ GoesOn
unfolding is_four_move
four-goes_on rule b p h = (goes_on_with-parts (outcome rule b p) (has_five rule (after b p) (mover b)) h).0

-- after a four move its side has a five point
pub four-five : (rule : RuleKind) (b : Grid) (p : Point) → is_four_move rule b p ≡ true → has_five rule (after b p) (mover b) ≡ true
unfolding is_four_move
four-five rule b p h = (goes_on_with-parts (outcome rule b p) (has_five rule (after b p) (mover b)) h).1

one_by_block : (v w : Point) (o : Outcome) → One w ≡ by_block v o → (v ≡ w) × (o ≡ GoesOn)
one_by_block v w GoesOn h = (let same : v ≡ w = cc in same, refl)
one_by_block v w _ h = cc

one_by_fives : (rule : RuleKind) (c : Grid) (w : Point) (xs : List Point) → One w ≡ by_fives rule c xs → outcome rule c w ≡ GoesOn
one_by_fives rule c w [] h = cc
one_by_fives rule c w (v ∷ []) h =
    let parts = one_by_block v w (outcome rule c v) h in
    ap (outcome rule c) (sym parts.0) ∙ parts.1
one_by_fives rule c w (v ∷ u ∷ more) h = cc

-- the one block of a four goes on
pub one-goes_on : (rule : RuleKind) (c : Grid) (w : Point) → One w ≡ fate rule c → outcome rule c w ≡ GoesOn
unfolding fate
one-goes_on rule c w h = by_test (has_five rule c (mover c)) h where
  by_test : (r : Bool) → One w ≡ cond r Lost (by_fives rule c (five_points rule c (other (mover c)))) → outcome rule c w ≡ GoesOn
  by_test true h = cc
  by_test false h = one_by_fives rule c w (five_points rule c (other (mover c))) h

pub no_last-win : (rule : RuleKind) (c : Grid) (a : BlockAnswer) → all_foul rule c ≡ false → block_wins rule zero c a ≡ false
unfolding wins_under
no_last-win rule c Won h = h
no_last-win rule c _ h = refl

-- a move that makes no five point is no four
pub none-no_four : (rule : RuleKind) (b : Grid) (p : Point) → has_five rule (after b p) (mover b) ≡ false → is_four_move rule b p ≡ false
unfolding is_four_move
none-no_four rule b p h = ap (goes_on_with (outcome rule b p)) h ∙ goes_on_with-false (outcome rule b p)

pub taken-no_four : (rule : RuleKind) (b : Grid) (p : Point) → is_empty b p ≡ false → is_four_move rule b p ≡ false
unfolding is_four_move
taken-no_four rule b p h = ap (λ o. goes_on_with o (has_five rule (after b p) (mover b))) (taken_refused rule b p h)

pub two-won : (rule : RuleKind) (c : Grid) (w v : Point) (xs : List Point) → list_any (is_same_point w) xs ≡ true
    → list_any (is_same_point v) xs ≡ true → is_same_point w v ≡ false → by_fives rule c xs ≡ Won
two-won rule c w v [] first second apart = cc
two-won rule c w v (x ∷ []) first second apart =
    let one : w ≡ x = is_same_point-same w x (or_false (is_same_point w x) first) in
    let two : v ≡ x = is_same_point-same v x (or_false (is_same_point v x) second) in
    let yes : is_same_point w v ≡ true = ap (λ (p : Point). is_same_point p v) (one ∙ sym two) ∙ is_same_point-itself v in
    let bad : false ≡ true = sym apart ∙ yes in
    cc
two-won rule c w v (x ∷ y ∷ more) first second apart = refl
