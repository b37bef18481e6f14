-- The codes of lines.
use Rattle.std.proofs.Common.{◌≡◌, ℕ, zero, suc, ◌+◌, ◌-◌, ◌*◌, ◌^◌, ◌≤◌, ◌<◌, Bool, true, false, cond}
use Rattle.std.proofs.Common.{refl, sym, ap, ◌∙◌, arith, nat_lt, drop, ◌⊎◌, inl, inr, lit≤}
use Rattle.std.proofs.Common.{Option, Some, None, map, bit_and, min}
use Rattle.std.specs.Int.{bit_at}
use Rattle.std.proofs.lemmas.Nat.Bits.{bit_at_and, bit_at-lt, bit_at_ones}
use Rattle.game_rules.proofs.Common.{Grid, is_on, along, IsBoard, is_empty, has_fouls}
use Rattle.game_rules.specs.declared.Side.{Side}
use Rattle.game_rules.specs.declared.Point.{Point}
use Rattle.game_rules.specs.declared.RuleKind.{RuleKind}
use Rattle.game_rules.specs.declared.Axis.{Axis}
use Rattle.game_rules.specs.declared.RuleKind.TheVariants.{Freestyle, Exact, Renju}
use Rattle.game_rules.specs.declared.Side.TheVariants.{Black}
use Rattle.stone_board.specs.Steps.{kept_on}
use Rattle.row_shapes.proofs.Common.{digit_at, from_digits, places_beside, line_code, reach_of, shape_of, shape_at, IsShape}
use Rattle.row_shapes.proofs.ReachLaw.{digit_low, reach_law}

-- ---- digits

kept_by : (b : Grid) (s : Side) (q : Point) (r : Bool) → is_on b q ≡ r → digit_at b s (cond r (Some q) None) ≡ digit_at b s (Some q)
unfolding digit_at
kept_by b s q true h = refl
kept_by b s q false h = rw h refl

digit-kept : (b : Grid) (s : Side) (o : Option Point) → digit_at b s (kept_on b o) ≡ digit_at b s o
digit-kept b s None = refl
digit-kept b s (Some q) = kept_by b s q (is_on b q) refl

off : (b : Grid) (s : Side) → digit_at b s None ≡ 2
unfolding digit_at
off b s = refl

pub digit_none : (b : Grid) (s : Side) (o : Option Point) → kept_on b o ≡ None → digit_at b s o ≡ 2
digit_none b s o h = sym (digit-kept b s o) ∙ ap (digit_at b s) h ∙ off b s

pub digit_some : (b : Grid) (s : Side) (o : Option Point) (q : Point) → kept_on b o ≡ Some q → digit_at b s o ≡ digit_at b s (Some q)
digit_some b s o q h = sym (digit-kept b s o) ∙ ap (digit_at b s) h

-- ---- codes, digit by digit from the last one

-- the place of neighbour j
abbrev pub beside : ℕ → ℕ → ℕ
beside reach j = cond (nat_lt j reach) j (j + 1)

-- the code of the last k neighbours
abbrev pub last_digits : (ℕ → ℕ) → ℕ → ℕ → ℕ
last_digits f reach k = from_digits (drop (2 * reach - k) (map f (places_beside reach)))

four_step : (f : ℕ → ℕ) (k : ℕ) → k < 8 → last_digits f 4 (k + 1) ≡ f (beside 4 (8 - 1 - k)) + 3 * last_digits f 4 k
four_step f zero h = refl
four_step f (suc zero) h = refl
four_step f (suc (suc zero)) h = refl
four_step f (suc (suc (suc zero))) h = refl
four_step f (suc (suc (suc (suc zero)))) h = refl
four_step f (suc (suc (suc (suc (suc zero))))) h = refl
four_step f (suc (suc (suc (suc (suc (suc zero)))))) h = refl
four_step f (suc (suc (suc (suc (suc (suc (suc zero))))))) h = refl
four_step f (suc (suc (suc (suc (suc (suc (suc (suc k)))))))) h = absurd (omega arith)

five_step : (f : ℕ → ℕ) (k : ℕ) → k < 10 → last_digits f 5 (k + 1) ≡ f (beside 5 (10 - 1 - k)) + 3 * last_digits f 5 k
five_step f zero h = refl
five_step f (suc zero) h = refl
five_step f (suc (suc zero)) h = refl
five_step f (suc (suc (suc zero))) h = refl
five_step f (suc (suc (suc (suc zero)))) h = refl
five_step f (suc (suc (suc (suc (suc zero))))) h = refl
five_step f (suc (suc (suc (suc (suc (suc zero)))))) h = refl
five_step f (suc (suc (suc (suc (suc (suc (suc zero))))))) h = refl
five_step f (suc (suc (suc (suc (suc (suc (suc (suc zero)))))))) h = refl
five_step f (suc (suc (suc (suc (suc (suc (suc (suc (suc zero))))))))) h = refl
five_step f (suc (suc (suc (suc (suc (suc (suc (suc (suc (suc k)))))))))) h = absurd (omega arith)

pub code_step : (f : ℕ → ℕ) (reach k : ℕ) → 4 ≤ reach → reach ≤ 5 → k < 2 * reach
    → last_digits f reach (k + 1) ≡ f (beside reach (2 * reach - 1 - k)) + 3 * last_digits f reach k
code_step f zero k low high h = absurd (omega arith)
code_step f (suc zero) k low high h = absurd (omega arith)
code_step f (suc (suc zero)) k low high h = absurd (omega arith)
code_step f (suc (suc (suc zero))) k low high h = absurd (omega arith)
code_step f (suc (suc (suc (suc zero)))) k low high h = four_step f k h
code_step f (suc (suc (suc (suc (suc zero))))) k low high h = five_step f k h
code_step f (suc (suc (suc (suc (suc (suc reach)))))) k low high h = absurd (omega arith)

pub code_start : (f : ℕ → ℕ) (reach : ℕ) → 4 ≤ reach → reach ≤ 5 → last_digits f reach 0 ≡ 0
code_start f zero low high = absurd (omega arith)
code_start f (suc zero) low high = absurd (omega arith)
code_start f (suc (suc zero)) low high = absurd (omega arith)
code_start f (suc (suc (suc zero))) low high = absurd (omega arith)
code_start f (suc (suc (suc (suc zero)))) low high = refl
code_start f (suc (suc (suc (suc (suc zero))))) low high = refl
code_start f (suc (suc (suc (suc (suc (suc reach)))))) low high = absurd (omega arith)

pub code_end : (f : ℕ → ℕ) (reach : ℕ) → last_digits f reach (2 * reach) ≡ from_digits (map f (places_beside reach))
code_end f reach = let all : 2 * reach - 2 * reach ≡ 0 = omega arith in rw all refl

-- ---- bounds

-- one more digit
pub pow_step : (k c x : ℕ) → k < 10 → c < 3 ^ k → x < 3 → 3 * c + x < 3 ^ (k + 1)
pow_step zero c x h low few = omega arith
pow_step (suc zero) c x h low few = omega arith
pow_step (suc (suc zero)) c x h low few = omega arith
pow_step (suc (suc (suc zero))) c x h low few = omega arith
pow_step (suc (suc (suc (suc zero)))) c x h low few = omega arith
pow_step (suc (suc (suc (suc (suc zero))))) c x h low few = omega arith
pow_step (suc (suc (suc (suc (suc (suc zero)))))) c x h low few = omega arith
pow_step (suc (suc (suc (suc (suc (suc (suc zero))))))) c x h low few = omega arith
pow_step (suc (suc (suc (suc (suc (suc (suc (suc zero)))))))) c x h low few = omega arith
pow_step (suc (suc (suc (suc (suc (suc (suc (suc (suc zero))))))))) c x h low few = omega arith
pow_step (suc (suc (suc (suc (suc (suc (suc (suc (suc (suc k)))))))))) c x h low few = absurd (omega arith)

pub pow_low : (k : ℕ) → k < 10 → 3 ^ k ≤ 19683
pow_low zero h = omega arith
pow_low (suc zero) h = omega arith
pow_low (suc (suc zero)) h = omega arith
pow_low (suc (suc (suc zero))) h = omega arith
pow_low (suc (suc (suc (suc zero)))) h = omega arith
pow_low (suc (suc (suc (suc (suc zero))))) h = omega arith
pow_low (suc (suc (suc (suc (suc (suc zero)))))) h = omega arith
pow_low (suc (suc (suc (suc (suc (suc (suc zero))))))) h = omega arith
pow_low (suc (suc (suc (suc (suc (suc (suc (suc zero)))))))) h = omega arith
pow_low (suc (suc (suc (suc (suc (suc (suc (suc (suc zero))))))))) h = omega arith
pow_low (suc (suc (suc (suc (suc (suc (suc (suc (suc (suc k)))))))))) h = absurd (omega arith)

pub reach_five : (rule : RuleKind) → has_fouls rule Black ≡ true → reach_of rule Black ≡ 5
reach_five Freestyle f = cc
reach_five Exact f = cc
reach_five Renju f = refl

-- the same digits make the same code
same_digits : (f g : ℕ → ℕ) (r : ℕ) → (r ≡ 4) ⊎ (r ≡ 5) → ((i : ℕ) → i ≤ 2 * r → f i ≡ g i)
    → from_digits (map f (places_beside r)) ≡ from_digits (map g (places_beside r))
same_digits f g r (inl four) h =
    let e : (i : ℕ) → i ≤ 8 → f i ≡ g i = λ i low. h i (omega arith) in
    rw four (omega (
      arith,
      e 0 (lit≤ tt),
      e 1 (lit≤ tt),
      e 2 (lit≤ tt),
      e 3 (lit≤ tt),
      e 5 (lit≤ tt),
      e 6 (lit≤ tt),
      e 7 (lit≤ tt),
      e 8 (lit≤ tt),
    ))
same_digits f g r (inr five) h =
    let e : (i : ℕ) → i ≤ 10 → f i ≡ g i = λ i low. h i (omega arith) in
    rw five (omega (
      arith,
      e 0 (lit≤ tt),
      e 1 (lit≤ tt),
      e 2 (lit≤ tt),
      e 3 (lit≤ tt),
      e 4 (lit≤ tt),
      e 6 (lit≤ tt),
      e 7 (lit≤ tt),
      e 8 (lit≤ tt),
      e 9 (lit≤ tt),
      e 10 (lit≤ tt),
    ))

-- a number of digits below 3 is below the power of their number
digits_low : (f : ℕ → ℕ) → ((i : ℕ) → f i < 3) → (r : ℕ) → (r ≡ 4) ⊎ (r ≡ 5) → from_digits (map f (places_beside r)) < 3 ^ (2 * r)
digits_low f h r (inl four) = rw four (omega (arith, h 0, h 1, h 2, h 3, h 5, h 6, h 7, h 8))
digits_low f h r (inr five) = rw five (omega (arith, h 0, h 1, h 2, h 3, h 4, h 6, h 7, h 8, h 9, h 10))

pub code_low : (b : Grid) (s : Side) (d : Axis) (q : Point) (r : ℕ) → (r ≡ 4) ⊎ (r ≡ 5) → line_code r b s d q < 3 ^ (2 * r)
unfolding line_code
code_low b s d q r reach = digits_low (λ i. digit_at b s (along d q i r)) (λ i. digit_low b s (along d q i r)) r reach

-- bits that tell the digits of the places tell the code
pub code_of_places : (b : Grid) (s : Side) (d : Axis) (p : Point) (r own taken : ℕ) → (r ≡ 4) ⊎ (r ≡ 5)
    → ((i : ℕ) → i ≤ 2 * r → bit_at own i + 2 * bit_at taken i ≡ digit_at b s (along d p i r))
    → from_digits (map (λ i. bit_at own i + 2 * bit_at taken i) (places_beside r)) ≡ line_code r b s d p
unfolding line_code
code_of_places b s d p r own taken reach h =
    same_digits (λ i. bit_at own i + 2 * bit_at taken i) (λ i. digit_at b s (along d p i r)) r reach h

-- the shape that the code tells is the one that a stone makes
pub told_shape : (rule : RuleKind) (b : Grid) (s : Side) (d : Axis) (p : Point) → IsBoard b → is_empty b p ≡ true
    → IsShape (reach_of rule s) (shape_of (reach_of rule s) (line_code (reach_of rule s) b s d p)) (shape_at rule b s d p)
told_shape rule b s d p ok empty = reach_law rule b s d p ok empty

-- ---- the first bits of a number

pub first_bit : (n r i : ℕ) → i < r → bit_at (bit_and n (2 ^ r - 1)) i ≡ bit_at n i
first_bit n r i low =
    let bit = bit_at-lt n i in
    bit_at_and n (2 ^ r - 1) i ∙ ap (min (bit_at n i)) (bit_at_ones r i low) ∙ omega (arith, bit)
