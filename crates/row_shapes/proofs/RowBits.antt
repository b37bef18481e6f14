-- Five places in a row, told by shifts.
use Rattle.std.proofs.Common.{◌≡◌, ◌↔◌, ℕ, zero, suc, ◌+◌, ◌/◌, ◌^◌, ◌<◌, min, not, nat_eq, true, IsTrue, sym, ap, ◌∙◌, arith}
use Rattle.std.specs.Prelude.{bit_and}
use Rattle.std.specs.Int.{bit_at, trailing_zeros, w32}
use Rattle.std.proofs.lemmas.Nat.{and_le_l}
use Rattle.std.proofs.lemmas.Nat.Bits.{bit_at_and, bit_at-lt, bit_at-zero, bit_at-trailing_zeros}
use Rattle.std.proofs.lemmas.Bool.Decides.{nat_tests}
use Rattle.stone_board.proofs.Ones.{bit_shr}
use Rattle.row_shapes.specs.Windows.{HasRow}

module _ (bits : ℕ) where
  abbrev two : ℕ
  two = bit_and bits (bits / 2 ^ 1)

  abbrev four : ℕ
  four = bit_and two (two / 2 ^ 2)

  -- the places from which five in a row are set
  abbrev pub row_bits : ℕ
  row_bits = bit_and four (bits / 2 ^ 4)

  two_bit : (i : ℕ) → bit_at two i ≡ min (bit_at bits i) (bit_at bits (i + 1))
  two_bit i = bit_at_and bits (bits / 2 ^ 1) i ∙ ap (λ n. min (bit_at bits i) n) (bit_shr bits 1 i)

  four_bit : (i : ℕ) → bit_at four i ≡ min (bit_at two i) (bit_at two (i + 2))
  four_bit i = bit_at_and two (two / 2 ^ 2) i ∙ ap (λ n. min (bit_at two i) n) (bit_shr two 2 i)

  row_bit : (i : ℕ) → bit_at row_bits i ≡ min (bit_at four i) (bit_at bits (i + 4))
  row_bit i = bit_at_and four (bits / 2 ^ 4) i ∙ ap (λ n. min (bit_at four i) n) (bit_shr bits 4 i)

  row-bit : (h : HasRow bits) → bit_at row_bits h.first ≡ 1
  row-bit h =
      let i : ℕ = h.first in
      let here : i + 0 ≡ i = omega arith in
      let first = sym (ap (bit_at bits) here) ∙ h.set 0 (omega arith) in
      let second = h.set 1 (omega arith) in
      let third = h.set 2 (omega arith) in
      let last_place : i + 2 + 1 ≡ i + 3 = omega arith in
      let fourth = ap (bit_at bits) last_place ∙ h.set 3 (omega arith) in
      let fifth = h.set 4 (omega arith) in
      let low = two_bit i in
      let high = two_bit (i + 2) in
      let both = four_bit i in
      row_bit i ∙ omega (arith, first, second, third, fourth, fifth, low, high, both)

  module _ (i : ℕ) (bit : bit_at row_bits i ≡ 1) where
    row_set : (k : ℕ) → k < 5 → bit_at bits (i + k) ≡ 1
    row_set k h =
        let low = two_bit i in
        let high = two_bit (i + 2) in
        let both = four_bit i in
        let all = row_bit i in
        let first = bit_at-lt bits i in
        let second = bit_at-lt bits (i + 1) in
        let third = bit_at-lt bits (i + 2) in
        let fourth = bit_at-lt bits (i + 2 + 1) in
        let fifth = bit_at-lt bits (i + 4) in
        by_place k h (omega (arith, bit, low, high, both, all, first, second, third, fourth, fifth))
        (omega (arith, bit, low, high, both, all, first, second, third, fourth, fifth))
        (omega (arith, bit, low, high, both, all, first, second, third, fourth, fifth))
        (omega (arith, bit, low, high, both, all, first, second, third, fourth, fifth))
        (omega (arith, bit, low, high, both, all, first, second, third, fourth, fifth)) where
          by_place : (k : ℕ) → k < 5 → bit_at bits i ≡ 1 → bit_at bits (i + 1) ≡ 1 → bit_at bits (i + 2) ≡ 1 → bit_at bits (i + 2 + 1) ≡ 1
              → bit_at bits (i + 4) ≡ 1 → bit_at bits (i + k) ≡ 1
          by_place zero h a b c d e = let here : i + 0 ≡ i = omega arith in ap (bit_at bits) here ∙ a
          by_place (suc zero) h a b c d e = b
          by_place (suc (suc zero)) h a b c d e = c
          by_place (suc (suc (suc zero))) h a b c d e = let here : i + 3 ≡ i + 2 + 1 = omega arith in ap (bit_at bits) here ∙ d
          by_place (suc (suc (suc (suc zero)))) h a b c d e = e
          by_place (suc (suc (suc (suc (suc k))))) h a b c d e = absurd (omega (arith, h))

  -- some place is told exactly where five in a row are set
  pub row_decides : bits < 2 ^ 32 → IsTrue (not (nat_eq row_bits 0)) ↔ HasRow bits
  row_decides fits = (found, told) where
    some : not (nat_eq row_bits 0) ≡ true → 0 < row_bits
    some h = grind (arith, nat_tests)

    found : IsTrue (not (nat_eq row_bits 0)) → HasRow bits
    found h =
        let first = and_le_l four (bits / 2 ^ 4) in
        let second = and_le_l two (two / 2 ^ 2) in
        let third = and_le_l bits (bits / 2 ^ 1) in
        let low = bit_at-trailing_zeros w32 row_bits (some h) (omega (arith, first, second, third, fits)) in
        record { first = trailing_zeros w32 row_bits; set = row_set (trailing_zeros w32 row_bits) low.1 }

    other : (n i : ℕ) → bit_at n i ≡ 1 → 0 < n
    other zero i h = let none = bit_at-zero i in absurd (omega (arith, none, h))
    other (suc n) i h = omega arith

    told : HasRow bits → IsTrue (not (nat_eq row_bits 0))
    told h = let more = other row_bits h.first (row-bit h) in grind (arith, nat_tests)
