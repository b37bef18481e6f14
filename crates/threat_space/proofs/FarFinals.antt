-- Stones put on points one after another, and what is needed of threats one after another. Where a side without fouls has no five point, a
-- final point depends on a gain only if both are on one line: the stone on the gain plays no part in the runs through any other point. A
-- threat keeps the lines on which its gain is not, but for what it fills. So where a point makes two five points after it, and is on no
-- line with its gain, it did so before.
use Rattle.std.proofs.Common.{rules, ◌≡◌, ℕ, ◌+◌, ◌<◌, false, ◌||◌, List, ◌∷◌, drop, length, get_or, sym, ap}
use Rattle.std.proofs.Common.{◌∙◌, add-one, drop-cons, suc, ◌-◌, Bool, true, cond, ◌&&◌, not, [], refl, arith, nat_le}
use Rattle.std.proofs.Common.{is_none, ◌++◌, Result, IfOk, filter, inl, inr}
use Rattle.std.proofs.lemmas.Bool.{false_from_ne_true, and_from, or_right, or_cases}
use Rattle.std.proofs.lemmas.Bool.Decides.{nat_tests}
use Rattle.threat_space.proofs.Common.{RuleKind, Side, Point, Grid, has_five, IsBoard, is_empty, points_of, other, Threat, with_stone}
use Rattle.threat_space.proofs.Common.{with_stones, is_final_point, played, played_all, final_depends, all_needed, is_sequence, has_point}
use Rattle.threat_space.proofs.Common.{may_make_two, set_has, HasPairsAfter, EndsNear, HasPairsOf, HasFarPairs, MayMakePairs}
use Rattle.game_rules.proofs.Common.{is_double_point, is_on, is_stone_of, cell_at, put, lift, five, foul_of, has_fouls, five_points}
use Rattle.game_rules.proofs.Common.{is_aligned}
use Rattle.game_rules.proofs.Wins.{no_five}
use Rattle.game_rules.proofs.Fives.{five-empty}
use Rattle.game_rules.proofs.Boards.{and_left, and_right, is_empty-on}
use Rattle.game_rules.proofs.Positions.{IsBoard-lift, put-lift}
use Rattle.game_rules.proofs.OneLine.{KeepsLines, put-kept, open_kept, no_five_kept, more_fives, keeps_itself, keeps-then, others-kept}
use Rattle.game_rules.proofs.Cells.{side_there}
use Rattle.game_rules.proofs.Points.{points-found, is_same_point-itself, is_same_point-same}
use Rattle.stone_board.specs.Steps.{holds_stone}
use Rattle.row_shapes.specs.FivePoints.{in_short}
use Rattle.stone_board.proofs.LineBits.{board-near}
use Rattle.open_windows.specs.PointSets.{TellsWindows}
use Rattle.threat_moves.proofs.GainLaws.{several, several-in, double-empty}
use Rattle.threat_moves.proofs.ThreatLists.{last_added}
use Rattle.threat_moves.proofs.Common.{is_several}

-- the point that stands where there is none
abbrev pub zero_point : Point
zero_point = record { x = 0; y = 0 }

pub put-next : (b : Grid) (s : Side) (ps : List Point) (i : ℕ) → i < length ps
    → with_stones b s (drop i ps) ≡ with_stones (with_stone b s (get_or ps i zero_point)) s (drop (i + 1) ps)
put-next b s ps i low = search (rules, drop-cons, add-one)

-- where the side has no five point, a final point is a double point
pub new-final : (rule : RuleKind) (b : Grid) (s : Side) (p : Point) → has_five rule b s ≡ false
    → is_final_point rule b s p ≡ is_double_point rule b s p
unfolding is_final_point
new-final rule b s p none = ap (λ r. r || is_double_point rule b s p) (no_five rule b s p none)

all_four : (a b c d : Bool) → a ≡ true → b ≡ false → c ≡ true → d ≡ true → (a && not b && c && d) ≡ true
all_four a b c d e f g h = rw (e, f, g, h) refl

-- ---- the board without the stone on the gain g

module _ (rule : RuleKind) (b : Grid) (s : Side) (g f : Point) (ok : IsBoard b) (there : holds_stone b g ≡ true)
    (off : is_aligned g f ≡ false) (free : has_fouls rule s ≡ false) (none : has_five rule b s ≡ false) (open_f : is_empty b f ≡ true) where
  abbrev less : Grid
  less = lift b g

  on_g : is_on b g ≡ true
  on_g = and_left (is_on b g) _ there

  keeps : KeepsLines b less s f
  keeps =
      let stone = side_there (cell_at b g) (and_right (is_on b g) _ there) in
      let again : put less stone.0 g ≡ b = put-lift b stone.0 g (ap (λ r. r && is_stone_of stone.0 (cell_at b g)) on_g ∙ stone.1) in
      rw again at (put-kept less stone.0 s g f (IsBoard-lift b g ok) on_g off)

  double_kept : is_double_point rule b s f ≡ true → is_double_point rule less s f ≡ true
  unfolding is_double_point
  double_kept h =
      let two : nat_le 2 (length (five_points rule (put b s f) s)) ≡ true = and_right
      (is_empty b f && not (five rule b s f) && is_none (foul_of rule b s f)) _ h in
      let more = more_fives rule b less s f keeps none open_f in
      let still : nat_le 2 (length (five_points rule (put less s f) s)) ≡ true = grind (arith, nat_tests) in
      let no_foul : is_none (foul_of rule less s f) ≡ true = rw free refl in
      all_four (is_empty less f) (five rule less s f) (is_none (foul_of rule less s f))
      (nat_le 2 (length (five_points rule (put less s f) s))) (open_kept rule b less s f keeps none open_f)
      (no_five_kept rule b less s f keeps none open_f) no_foul still

  final_less : is_final_point rule b s f ≡ true → is_final_point rule less s f ≡ true
  unfolding is_final_point
  final_less h = search (rules, new-final, double_kept)

-- ---- the final point of a list

final_empty : (rule : RuleKind) (b : Grid) (s : Side) (f : Point) → has_five rule b s ≡ false → is_final_point rule b s f ≡ true
    → is_empty b f ≡ true
unfolding is_double_point
final_empty rule b s f none h = search (rules, new-final, and_left)

-- a final point that is on no line with a gain does not depend on it
far_final : (rule : RuleKind) (b : Grid) (s : Side) (g f : Point) → IsBoard b → is_aligned g f ≡ false → has_fouls rule s ≡ false
    → has_five rule b s ≡ false → is_final_point rule b s f ≡ true → final_depends rule b s g f ≡ false
unfolding final_depends
far_final rule b s g f ok off free none h = ap not (by_stone (holds_stone b g) refl) where
  by_stone : (r : Bool) → holds_stone b g ≡ r → is_final_point rule (cond r (lift b g) b) s f ≡ true
  by_stone false e = h
  by_stone true e = final_less rule b s g f ok e off free none (final_empty rule b s f none h) h

module _ (rule : RuleKind) (s : Side) (f : Point) where
  -- the last gain is needed by the final point alone
  last_needed : (b : Grid) (ts : List Threat) (t : Threat) → 0 < length ts → t ≡ get_or ts (length ts - 1) t
      → all_needed rule s f b ts ≡ true → final_depends rule (played_all b s ts) s t.gain f ≡ true
  last_needed b [] t some is h = absurd (omega (arith, some))
  last_needed b (u ∷ []) t some is h = search rules
  last_needed b (u ∷ v ∷ us) t some is h =
      let place : length (u ∷ v ∷ us) - 1 ≡ suc (length (v ∷ us) - 1) = omega arith in
      last_needed (played b s u) (v ∷ us) t (omega arith) (is ∙ ap (λ k. get_or (u ∷ v ∷ us) k t) place) (and_right _ _ h)

-- so where the side has no fouls, a list whose final point is on no line with its last gain is no sequence
ends-aligned : (rule : RuleKind) (s : Side) (start b : Grid) (ts : List Threat) (t : Threat) → IsBoard b → b ≡ played_all start s ts
    → 0 < length ts → t ≡ get_or ts (length ts - 1) t → has_fouls rule s ≡ false → has_five rule b s ≡ false → (f : Point)
    → is_aligned t.gain f ≡ false → is_sequence rule s start ts f ≡ false
unfolding is_sequence
ends-aligned rule s start b ts t ok is some last free none f off = false_from_ne_true _ (λ h.
    let final : is_final_point rule b s f ≡ true = ap (λ (c : Grid). is_final_point rule c s f) is
    ∙ and_left (is_final_point rule (played_all start s ts) s f) _ h in
    let needed : final_depends rule b s t.gain f ≡ true =
    ap (λ (c : Grid). final_depends rule c s t.gain f) is
    ∙ last_needed rule s f start ts t some last (and_right (is_final_point rule (played_all start s ts) s f) _ h) in
    let no : final_depends rule b s t.gain f ≡ false = far_final rule b s t.gain f ok off free none final in
    let bad : true ≡ false = sym needed ∙ no in
    cc)

-- and where it has some, such a final point is one at which a stone makes two five points
final-pair : (rule : RuleKind) (b : Grid) (s : Side) (f : Point) → has_five rule b s ≡ false → is_final_point rule b s f ≡ true
    → may_make_two rule b s f ≡ true
unfolding is_double_point
final-pair rule b s f none h = search (rules, new-final, and_right, final_empty, several)

-- so is each final point of a side with a five point
pub final-two : (rule : RuleKind) (b : Grid) (s : Side) (f : Point) → is_final_point rule b s f ≡ true → may_make_two rule b s f ≡ true
unfolding is_final_point
final-two rule b s f h = by_five (has_five rule b s) refl where
  empty : is_empty b f ≡ true
  empty = elim (or_cases (five rule b s f) _ h) [
    | inl five ↦ five-empty rule b s f five
    | inr double ↦ double-empty rule b s f double
  ]

  by_five : (r : Bool) → has_five rule b s ≡ r → may_make_two rule b s f ≡ true
  by_five true some = rw (empty, some) refl
  by_five false none = final-pair rule b s f none h

-- a list with a final point that is on no line with its last gain, and is none of the pairs, is no sequence
pub ends-near : (rule : RuleKind) (s : Side) (start b : Grid) (ts : List Threat) (t : Threat) (far : List Point) → IsBoard b
    → b ≡ played_all start s ts → 0 < length ts → t ≡ get_or ts (length ts - 1) t → has_five rule b s ≡ false
    → (has_fouls rule s ≡ true → HasFarPairs rule b s t.gain far) → EndsNear rule s start ts t.gain far
unfolding is_sequence
ends-near rule s start b ts t far ok is some last none pairs f off not_far =
    search (rules, ends-aligned, false_from_ne_true, and_left, final-pair)

-- ---- the board after a threat

module _ (s : Side) (f : Point) where
  gain-kept : (b : Grid) (g : Point) → IsBoard b → is_aligned g f ≡ false → KeepsLines (with_stone b s g) b s f
  gain-kept b g ok off = by_cell (is_empty b g) refl where
    by_cell : (e : Bool) → is_empty b g ≡ e → KeepsLines (cond e (put b s g) b) b s f
    by_cell false h = keeps_itself b s f ok
    by_cell true h = put-kept b s s g f ok (is_empty-on b g h) off

  cost-kept : (b : Grid) (p : Point) → IsBoard b → KeepsLines (with_stone b (other s) p) b s f
  cost-kept b p ok = by_cell (is_empty b p) refl where
    by_cell : (e : Bool) → is_empty b p ≡ e → KeepsLines (cond e (put b (other s) p) b) b s f
    by_cell false h = keeps_itself b s f ok
    by_cell true h = others-kept b s p f ok h

  costs-kept : (b : Grid) (ps : List Point) → IsBoard b → KeepsLines (with_stones b (other s) ps) b s f
  costs-kept b [] ok = keeps_itself b s f ok
  costs-kept b (p ∷ ps) ok =
      let one = cost-kept b p ok in
      keeps-then (with_stones (with_stone b (other s) p) (other s) ps) (with_stone b (other s) p) b s f
      (costs-kept (with_stone b (other s) p) ps one.board) one

  played-kept : (b : Grid) (t : Threat) → IsBoard b → is_aligned t.gain f ≡ false → KeepsLines (played b s t) b s f
  unfolding played
  played-kept b t ok off =
      let one = gain-kept b t.gain ok off in
      keeps-then (with_stones (with_stone b s t.gain) (other s) t.costs) (with_stone b s t.gain) b s f
      (costs-kept (with_stone b s t.gain) t.costs one.board) one

-- so a point that makes two five points after a threat, and is on no line with its gain, did so before it
pair_kept : (rule : RuleKind) (b c : Grid) (s : Side) (f : Point) → KeepsLines c b s f → has_five rule c s ≡ false → is_empty c f ≡ true
    → is_several (in_short (five_points rule (put c s f) s)) ≡ true → may_make_two rule b s f ≡ true
pair_kept rule b c s f keeps none open_f h = search (rules, several, more_fives, and_from, open_kept, or_right)

-- ---- lists of such points

-- what a list has of the board before a threat, it has far from the gain of the board after it
pub far-pairs : (rule : RuleKind) (b : Grid) (s : Side) (t : Threat) (far : List Point) → IsBoard b → has_fouls rule s ≡ true
    → HasPairsOf rule b s far → HasFarPairs rule (played b s t) s t.gain far
far-pairs rule b s t far ok fouls pairs none p off two = search (rules, and_left, and_right, pair_kept, played-kept)

pub pairs-after : (rule : RuleKind) (b : Grid) (s : Side) (path longer : List Threat) (t : Threat) (far : List Point) → IsBoard b
    → HasPairsOf rule b s far → longer ≡ path ++ t ∷ [] → HasPairsAfter rule (played b s t) s longer far
pairs-after rule b s path longer t far ok pairs is fouls u some last =
    let same : u ≡ t = last ∙ ap (λ (ts : List Threat). get_or ts (length ts - 1) u) is ∙ last_added path t u in
    rw same (far-pairs rule b s t far ok fouls pairs)

-- where the side has no five point, such points lie in open windows with three stones
pub window-pairs : (rule : RuleKind) (b : Grid) (s : Side) (set : List ℕ) → TellsWindows b s 3 set → has_five rule b s ≡ false
    → MayMakePairs rule b s set
window-pairs rule b s set tells none p two =
    let empty = and_left (is_empty b p) _ two in
    let several : is_several (in_short (five_points rule (put b s p) s)) ≡ true = sym (ap (λ r. r || is_several (in_short
    (five_points rule (put b s p) s))) none) ∙ and_right (is_empty b p) _ two in
    tells.points p (is_empty-on b p empty) ∙ several-in rule b s p tells.board none empty several

pub all-pairs : (rule : RuleKind) (b : Grid) (s : Side) (set : List ℕ) → IsBoard b
    → ((p : Point) → p.x < 32 → p.y < 32 → set_has set p ≡ true) → MayMakePairs rule b s set
all-pairs rule b s set ok all p two =
    let near = board-near b p ok (is_empty-on b p (and_left (is_empty b p) _ two)) in all p near.column near.row

-- a point that passes a test and is one of a list is one of those that pass it
passes_too : (h : Point → Bool) (xs : List Point) (p : Point) → h p ≡ true → has_point xs p ≡ true → has_point (filter h xs) p ≡ true
passes_too h [] p pass there = there
passes_too h (x ∷ xs) p pass there = search (rules, is_same_point-same, passes_too h xs p pass)

-- so the points of a board that pass the test are all pairs
pub filtered-pairs : {E : Type 0} (rule : RuleKind) (b : Grid) (s : Side) (r : Result (List Point) E)
    → IfOk r (λ found. found ≡ filter (may_make_two rule b s) (points_of b)) → IfOk r (λ found. HasPairsOf rule b s found)
filtered-pairs rule b s r h = search (rules, is_empty-on, and_left, passes_too, points-found, is_same_point-itself)
