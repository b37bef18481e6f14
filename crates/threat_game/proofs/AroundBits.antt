-- How many stones stand around a point, by the bits of its line: each of them sets one of the nine bits around the point's place.
use Rattle.std.proofs.Common.{◌≡◌, ℕ, zero, suc, ◌+◌, ◌-◌, ◌*◌, ◌/◌, ◌%◌, ◌^◌, ◌≤◌, ◌<◌, Bool, true}
use Rattle.std.proofs.Common.{cond, length, refl, sym, ap, subst, ◌∙◌, arith, Option, Some, None, bit_and, count_ones, filter, rules}
use Rattle.std.specs.Int.{bit_at}
use Rattle.std.specs.List.{range_with_len}
use Rattle.std.proofs.Math.Nat.{div-div-eq-div-mul}
use Rattle.std.proofs.lemmas.Nat.{pow-add, pow_pos}
use Rattle.std.proofs.lemmas.Nat.Bits.{bit_at_and, bit_at_cat_high, bit_at_ones, bit_at-lt, bit_at-zero}
use Rattle.std.proofs.lemmas.List.Sums.{length-filter}
use lib.Count.{ones_step}
use Rattle.game_rules.proofs.Common.{Grid, IsBoard, is_on, along, stone_at, towards}
use Rattle.game_rules.specs.declared.Side.{Side}
use Rattle.game_rules.specs.declared.Axis.{Axis}
use Rattle.game_rules.specs.declared.Point.{Point}
use Rattle.game_rules.specs.declared.Way.TheVariants.{Ahead, Behind}
use Rattle.game_rules.proofs.Boards.{and_left}
use Rattle.stone_board.specs.Lines.{line_of, place_on, TellsLine}
use Rattle.stone_board.proofs.LineBits.{board-near}
use Rattle.stone_board.proofs.LineStones.{along-places, stone_bit}
use Rattle.stone_board.proofs.Ones.{bit_shr}
use Rattle.threat_game.proofs.Common.{stones_around}

-- ---- some bits of a number are no more than all that are set

bits_from : ℕ → ℕ → ℕ → ℕ
bits_from zero i n = 0
bits_from (suc m) i n = bit_at n i + bits_from m (suc i) n

some-bits : (m i n : ℕ) → bits_from m i n ≤ count_ones (n / 2 ^ i)
unfolding bits_from
some-bits zero i n = omega arith
some-bits (suc m) i n =
    let rest = some-bits m (suc i) n in
    let more : 2 ^ suc i ≡ 2 ^ i * 2 ^ 1 = ap (λ m. 2 ^ m) (omega arith) ∙ pow-add 2 i 1 in
    let half : n / 2 ^ i / 2 ≡ n / 2 ^ suc i = div-div-eq-div-mul n (2 ^ i) 2 ∙ ap (λ k. n / k) (sym more) in
    let step : count_ones (n / 2 ^ i) ≡ bit_at n i + count_ones (n / 2 ^ suc i) =
    ones_step (n / 2 ^ i) ∙ ap (λ k. n / 2 ^ i % 2 + count_ones k) half in
    omega (arith, rest, step)

-- ---- the nine bits around a place, the lowest first

module _ (bits place : ℕ) where
  abbrev pub nine : ℕ
  nine = bits * 2 ^ 4 / 2 ^ place

  nine_bit : (j : ℕ) → 4 ≤ j + place → bit_at nine j ≡ bit_at bits (j + place - 4)
  nine_bit j high =
      let same : bits * 2 ^ 4 ≡ bits * 2 ^ 4 + 0 = omega arith in
      bit_shr (bits * 2 ^ 4) place j ∙ ap (λ m. bit_at m (j + place)) same ∙ bit_at_cat_high bits 4 0 (j + place) (pow_pos 4) high

  kept : (j : ℕ) → bit_at 511 j ≡ 1 → bit_at (bit_and nine 511) j ≡ bit_at nine j
  kept j one = let low = bit_at-lt nine j in bit_at_and nine 511 j ∙ omega (arith, one, low)

  abbrev told : ℕ → ℕ
  told x = bit_at x 0 + (bit_at x 1
      + (bit_at x 2 + (bit_at x 3 + (bit_at x 4 + (bit_at x 5 + (bit_at x 6 + (bit_at x 7 + (bit_at x 8 + 0))))))))

  pub most : bit_at nine 0 + bit_at nine 1 + bit_at nine 2 + bit_at nine 3 + bit_at nine 5 + bit_at nine 6 + bit_at nine 7 + bit_at nine 8
      ≤ count_ones (bit_and nine 511)
  unfolding bits_from
  most =
      let whole : bit_and nine 511 / 2 ^ 0 ≡ bit_and nine 511 = omega arith in
      let all : told (bit_and nine 511) ≤ count_ones (bit_and nine 511) =
      subst (λ (m : ℕ). told (bit_and nine 511) ≤ count_ones m) whole (some-bits 9 0 (bit_and nine 511)) in
      let k0 = kept 0 refl in let k1 = kept 1 refl in let k2 = kept 2 refl in let k3 = kept 3 refl in
      let k5 = kept 5 refl in let k6 = kept 6 refl in let k7 = kept 7 refl in let k8 = kept 8 refl in
      omega (arith, all, k0, k1, k2, k3, k5, k6, k7, k8)

  -- where the first five of them are clear, so are the place and the four before it
  pub none_before : bit_and nine 31 ≡ 0 → (i back : ℕ) → back < 5 → i + back ≡ place → bit_at bits i ≡ 0
  none_before none i back near at =
      let j : ℕ = 4 - back in
      let here : j + place - 4 ≡ i = omega (arith, near, at) in
      let whole : bit_at (bit_and nine 31) j ≡ 0 = ap (λ m. bit_at m j) none ∙ bit_at-zero j in
      let both = bit_at_and nine 31 j in
      let one : bit_at 31 j ≡ 1 = bit_at_ones 5 j (omega arith) in
      let zero : bit_at nine j ≡ 0 = omega (arith, whole, both, one) in
      ap (bit_at bits) (sym here) ∙ sym (nine_bit j (omega (arith, near, at))) ∙ zero

-- ---- the stones around a point

module _ (b : Grid) (s : Side) (d : Axis) (p : Point) (bits : ℕ) (ok : IsBoard b) (on : is_on b p ≡ true)
    (tells : TellsLine b s d (line_of d p) bits) where
  -- a stone so many steps along is the bit so many places on
  stone_along : (ahead back : ℕ) (o : Option Point) → along d p ahead back ≡ o → stone_at b s o ≡ true
      → (r : Point) × (place_on d r + back ≡ place_on d p + ahead) × (bit_at bits (place_on d r) ≡ 1)
  stone_along ahead back None there mine = cc
  stone_along ahead back (Some r) there mine =
      let near = board-near b p ok on in
      let close = board-near b r ok (and_left (is_on b r) _ mine) in
      let steps = along-places d p r ahead back near close there in
      (r, steps.place, stone_bit b s d (line_of d p) bits ok tells r steps.line mine)

  one_at_most : (r : Bool) (m : ℕ) → (r ≡ true → m ≡ 1) → cond r 1 0 ≤ m
  one_at_most r m h = search rules

  ahead : (k : ℕ) → cond (stone_at b s (towards Ahead d p k)) 1 0 ≤ bit_at (nine bits (place_on d p)) (4 + k)
  ahead k = one_at_most _ _ (λ mine.
      let stone = stone_along k 0 (towards Ahead d p k) refl mine in
      let place : 4 + k + place_on d p - 4 ≡ place_on d stone.0 = let h = stone.1 in omega (arith, h) in
      nine_bit bits (place_on d p) (4 + k) (omega arith) ∙ ap (bit_at bits) place ∙ stone.2)

  behind : (j k : ℕ) → j + k ≡ 4 → cond (stone_at b s (towards Behind d p k)) 1 0 ≤ bit_at (nine bits (place_on d p)) j
  behind j k sum = one_at_most _ _ (λ mine.
      let stone = stone_along 0 k (towards Behind d p k) refl mine in
      let h = stone.1 in
      let place : j + place_on d p - 4 ≡ place_on d stone.0 = omega (arith, h, sum) in
      nine_bit bits (place_on d p) j (omega (arith, h, sum)) ∙ ap (bit_at bits) place ∙ stone.2)

  four : (f : ℕ → Bool) → length (filter f (range_with_len 1 4)) ≡ 0 + cond (f 1) 1 0 + cond (f 2) 1 0 + cond (f 3) 1 0 + cond (f 4) 1 0
  four f = length-filter f (range_with_len 1 4)

  pub around-bits : stones_around b s d p ≤ count_ones (bit_and (nine bits (place_on d p)) 511)
  around-bits =
      let fore = four (λ k. stone_at b s (towards Ahead d p k)) in
      let back = four (λ k. stone_at b s (towards Behind d p k)) in
      let a1 = ahead 1 in let a2 = ahead 2 in let a3 = ahead 3 in let a4 = ahead 4 in
      let b1 = behind 3 1 (omega arith) in let b2 = behind 2 2 (omega arith) in
      let b3 = behind 1 3 (omega arith) in let b4 = behind 0 4 (omega arith) in
      let all = most bits (place_on d p) in
      omega (arith, fore, back, a1, a2, a3, a4, b1, b2, b3, b4, all)
