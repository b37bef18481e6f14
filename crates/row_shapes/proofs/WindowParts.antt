-- Each place that is told as the first of a window begins one.
use Rattle.std.proofs.Common.{◌≡◌, ◌≢◌, ◌⊎◌, inl, inr, ℕ, zero, suc, ◌+◌, ◌/◌, ◌^◌, ◌<◌, refl, sym, ap, ◌∙◌, arith}
use Rattle.std.specs.Prelude.{bit_and, bit_or}
use Rattle.std.specs.Int.{bit_at, bit_not, w32}
use Rattle.std.proofs.lemmas.Bool.{cases_eq, cases_lt}
use Rattle.std.proofs.lemmas.Nat.Bits.{bit_at_and, bit_at_or, bit_at_not, bit_at-lt, bit_at_above}
use Rattle.stone_board.proofs.Ones.{bit_shr}
use Rattle.row_shapes.specs.Windows.{IsWindow}
use Rattle.row_shapes.proofs.WindowLaws.{gap_first, gap_second, gap_third, gap_fourth, gap_fifth, window_bits}

either : (a b i : ℕ) → bit_at (bit_or a b) i ≡ 1 → (bit_at a i ≡ 1) ⊎ (bit_at b i ≡ 1)
either a b i h =
    let sum = bit_at_or a b i in
    let low = bit_at-lt a i in
    let high = bit_at-lt b i in
    elim (cases_eq (bit_at a i) 1) [
      | inl one ↦ inl one
      | inr none ↦ inr (omega (arith, h, sum, low, high, none))
    ]

each : (a b i : ℕ) → bit_at (bit_and a b) i ≡ 1 → (bit_at a i ≡ 1) × (bit_at b i ≡ 1)
each a b i h =
    let least = bit_at_and a b i in
    let low = bit_at-lt a i in
    let high = bit_at-lt b i in
    (omega (arith, h, least, low, high), omega (arith, h, least, low, high))

-- four stones and a free place, told by one bit
record AreFive (a c e f g i : ℕ) : Type 0 where
  first : bit_at a i ≡ 1
  second : bit_at c i ≡ 1
  third : bit_at e i ≡ 1
  fourth : bit_at f i ≡ 1
  free : bit_at g i ≡ 1

five_parts : (a c e f g i : ℕ) → bit_at (bit_and (bit_and (bit_and (bit_and a c) e) f) g) i ≡ 1 → AreFive a c e f g i
five_parts a c e f g i h =
    let last = each (bit_and (bit_and (bit_and a c) e) f) g i h in
    let four = each (bit_and (bit_and a c) e) f i last.0 in
    let three = each (bit_and a c) e i four.0 in
    let two = each a c i three.0 in
    record { first = two.0; second = two.1; third = three.1; fourth = four.1; free = last.1 }

-- the stones of a window, place by place
stones_but : (own i j : ℕ) → (0 ≢ j → bit_at own i ≡ 1) → (1 ≢ j → bit_at own (i + 1) ≡ 1) → (2 ≢ j → bit_at own (i + 2) ≡ 1)
    → (3 ≢ j → bit_at own (i + 3) ≡ 1) → (4 ≢ j → bit_at own (i + 4) ≡ 1) → (k : ℕ) → k < 5 → k ≢ j → bit_at own (i + k) ≡ 1
stones_but own i j a c e f g zero h differ = let here : i + 0 ≡ i = omega arith in ap (bit_at own) here ∙ a differ
stones_but own i j a c e f g (suc zero) h differ = c differ
stones_but own i j a c e f g (suc (suc zero)) h differ = e differ
stones_but own i j a c e f g (suc (suc (suc zero))) h differ = f differ
stones_but own i j a c e f g (suc (suc (suc (suc zero)))) h differ = g differ
stones_but own i j a c e f g (suc (suc (suc (suc (suc k))))) h differ = absurd (omega (arith, h))

module _ (own theirs i : ℕ) (fits : bit_or own theirs < 2 ^ 32) where
  abbrev free : ℕ
  free = bit_not w32 (bit_or own theirs)

  free_within : (m : ℕ) → bit_at free m ≡ 1 → m < 32
  free_within m h = elim (cases_lt m 32) [
    | inl low ↦ low
    | inr high ↦ let none = bit_at_above free 32 m (omega arith) high in absurd (omega (arith, none, h))
  ]

  -- a free place holds no stone of either side
  free_parts : (m : ℕ) → bit_at free m ≡ 1 → (bit_at own m ≡ 0) × (bit_at theirs m ≡ 0)
  free_parts m h =
      let turn = bit_at_not w32 (bit_or own theirs) m fits (free_within m h) in
      let sum = bit_at_or own theirs m in
      (omega (arith, h, turn, sum), omega (arith, h, turn, sum))

  window : (j : ℕ) → j < 5 → bit_at free (i + j) ≡ 1 → ((k : ℕ) → k < 5 → k ≢ j → bit_at own (i + k) ≡ 1) → IsWindow own theirs i j
  window j near gap stones =
      let none = free_parts (i + j) gap in
      record { near = near; within = free_within (i + j) gap; stones = stones; gap = none.0; free = none.1 }

  -- a place so many on, by the number shifted down
  on : (n k : ℕ) → bit_at (n / 2 ^ k) i ≡ 1 → bit_at n (i + k) ≡ 1
  on n k h = sym (bit_shr n k i) ∙ h

  first_window : bit_at (gap_first own free) i ≡ 1 → IsWindow own theirs i 0
  first_window h =
      let five = five_parts (own / 2 ^ 1) (own / 2 ^ 2) (own / 2 ^ 3) (own / 2 ^ 4) free i h in
      let here : i + 0 ≡ i = omega arith in
      window 0 (omega arith) (ap (bit_at free) here ∙ five.free) (stones_but own i 0 (λ differ. absurd (differ refl))
      (λ differ. on own 1 five.first) (λ differ. on own 2 five.second) (λ differ. on own 3 five.third) (λ differ. on own 4 five.fourth))

  second_window : bit_at (gap_second own free) i ≡ 1 → IsWindow own theirs i 1
  second_window h =
      let five = five_parts own (own / 2 ^ 2) (own / 2 ^ 3) (own / 2 ^ 4) (free / 2 ^ 1) i h in
      window 1 (omega arith) (on free 1 five.free) (stones_but own i 1 (λ differ. five.first) (λ differ. absurd (differ refl))
      (λ differ. on own 2 five.second) (λ differ. on own 3 five.third) (λ differ. on own 4 five.fourth))

  third_window : bit_at (gap_third own free) i ≡ 1 → IsWindow own theirs i 2
  third_window h =
      let five = five_parts own (own / 2 ^ 1) (own / 2 ^ 3) (own / 2 ^ 4) (free / 2 ^ 2) i h in
      window 2 (omega arith) (on free 2 five.free) (stones_but own i 2 (λ differ. five.first) (λ differ. on own 1 five.second)
      (λ differ. absurd (differ refl)) (λ differ. on own 3 five.third) (λ differ. on own 4 five.fourth))

  fourth_window : bit_at (gap_fourth own free) i ≡ 1 → IsWindow own theirs i 3
  fourth_window h =
      let five = five_parts own (own / 2 ^ 1) (own / 2 ^ 2) (own / 2 ^ 4) (free / 2 ^ 3) i h in
      window 3 (omega arith) (on free 3 five.free) (stones_but own i 3 (λ differ. five.first) (λ differ. on own 1 five.second)
      (λ differ. on own 2 five.third) (λ differ. absurd (differ refl)) (λ differ. on own 4 five.fourth))

  fifth_window : bit_at (gap_fifth own free) i ≡ 1 → IsWindow own theirs i 4
  fifth_window h =
      let five = five_parts own (own / 2 ^ 1) (own / 2 ^ 2) (own / 2 ^ 3) (free / 2 ^ 4) i h in
      window 4 (omega arith) (on free 4 five.free) (stones_but own i 4 (λ differ. five.first) (λ differ. on own 1 five.second)
      (λ differ. on own 2 five.third) (λ differ. on own 3 five.fourth) (λ differ. absurd (differ refl)))

  pub bit-window : bit_at (window_bits own free) i ≡ 1 → (j : ℕ) × IsWindow own theirs i j
  bit-window h = elim (either _ (gap_fifth own free) i h) [
    | inr fifth ↦ (4, fifth_window fifth)
    | inl four ↦ elim (either _ (gap_fourth own free) i four) [
      | inr fourth ↦ (3, fourth_window fourth)
      | inl three ↦ elim (either _ (gap_third own free) i three) [
        | inr third ↦ (2, third_window third)
        | inl two ↦ elim (either (gap_first own free) (gap_second own free) i two) [
          | inr second ↦ (1, second_window second)
          | inl first ↦ (0, first_window first)
        ]
      ]
    ]
  ]
