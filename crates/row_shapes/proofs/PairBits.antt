-- Four of five places in a row have two pairs of neighbours, one or three places apart.
use Rattle.std.proofs.Common.{◌≡◌, ◌≢◌, ℕ, zero, suc, ◌+◌, ◌/◌, ◌^◌, ◌<◌, ap, ◌∙◌, sym, arith}
use Rattle.std.specs.Prelude.{bit_and, bit_or}
use Rattle.std.specs.Int.{bit_at}
use Rattle.std.proofs.lemmas.Nat.Bits.{bit_at-zero}
use Rattle.stone_board.proofs.Ones.{bit_shr}
use Rattle.row_shapes.specs.Windows.{IsWindow}
use Rattle.row_shapes.proofs.WindowLaws.{both, left, right}

module _ (own : ℕ) where
  abbrev pub pairs : ℕ
  pairs = bit_and own (own / 2 ^ 1)

  abbrev pub pair_bits : ℕ
  pair_bits = bit_and pairs (bit_or (pairs / 2 ^ 1) (pairs / 2 ^ 3))

  one_apart : (i : ℕ) → bit_at pairs i ≡ 1 → bit_at pairs (i + 1) ≡ 1 → bit_at pair_bits i ≡ 1
  one_apart i h k = both pairs (bit_or (pairs / 2 ^ 1) (pairs / 2 ^ 3)) i h (left (pairs / 2 ^ 1) (pairs / 2 ^ 3) i (bit_shr pairs 1 i ∙ k))

  three_apart : (i : ℕ) → bit_at pairs i ≡ 1 → bit_at pairs (i + 3) ≡ 1 → bit_at pair_bits i ≡ 1
  three_apart i h k = both pairs (bit_or (pairs / 2 ^ 1) (pairs / 2 ^ 3)) i h
      (right (pairs / 2 ^ 1) (pairs / 2 ^ 3) i (bit_shr pairs 3 i ∙ k))

  module _ (theirs i : ℕ) where
    pair : (j k : ℕ) → IsWindow own theirs i j → k < 4 → k ≢ j → k + 1 ≢ j → bit_at pairs (i + k) ≡ 1
    pair j k h low here next =
        let step : i + (k + 1) ≡ i + k + 1 = omega arith in
        both own (own / 2 ^ 1) (i + k) (h.stones k (omega (arith, low)) here)
        (bit_shr own 1 (i + k) ∙ sym (ap (bit_at own) step) ∙ h.stones (k + 1) (omega (arith, low)) next)

    apart_one : (j k : ℕ) → IsWindow own theirs i j → k < 3 → k ≢ j → k + 1 ≢ j → k + 2 ≢ j → bit_at pair_bits (i + k) ≡ 1
    apart_one j k h low first second third =
        let step : i + (k + 1) ≡ i + k + 1 = omega arith in
        one_apart (i + k) (pair j k h (omega (arith, low)) first second)
        (sym (ap (bit_at pairs) step) ∙ pair j (k + 1) h (omega (arith, low)) second (λ e. third (omega (arith, e))))

    -- some place is told
    pub some-pair : (j : ℕ) → IsWindow own theirs i j → (m : ℕ) × (bit_at pair_bits m ≡ 1)
    some-pair zero h = (
      i + 1,
      apart_one 0 1 h (omega arith) (λ e. absurd (omega (arith, e))) (λ e. absurd (omega (arith, e)))
          (λ e. absurd (omega (arith, e))),
    )
    some-pair (suc zero) h = (
      i + 2,
      apart_one 1 2 h (omega arith) (λ e. absurd (omega (arith, e))) (λ e. absurd (omega (arith, e)))
          (λ e. absurd (omega (arith, e))),
    )
    some-pair (suc (suc zero)) h = (
      i + 0,
      three_apart (i + 0)
          (pair 2 0 h (omega arith) (λ e. absurd (omega (arith, e))) (λ e. absurd (omega (arith, e))))
          (let here : i + 3 ≡ i + 0 + 3 = omega arith in sym (ap (bit_at pairs) here)
          ∙ pair 2 3 h (omega arith) (λ e. absurd (omega (arith, e))) (λ e. absurd (omega (arith, e)))),
    )
    some-pair (suc (suc (suc zero))) h = (
      i + 0,
      apart_one 3 0 h (omega arith) (λ e. absurd (omega (arith, e)))
          (λ e. absurd (omega (arith, e))) (λ e. absurd (omega (arith, e))),
    )
    some-pair (suc (suc (suc (suc zero)))) h = (
      i + 0,
      apart_one 4 0 h (omega arith) (λ e. absurd (omega (arith, e)))
          (λ e. absurd (omega (arith, e))) (λ e. absurd (omega (arith, e))),
    )
    some-pair (suc (suc (suc (suc (suc j))))) h = absurd (let near = h.near in omega (arith, near))

  pub no_pairs : pair_bits ≡ 0 → (theirs i j : ℕ) → IsWindow own theirs i j → ⊥
  no_pairs none theirs i j h =
      let some = some-pair theirs i j h in
      let bit : 0 ≡ 1 = sym (bit_at-zero some.0) ∙ ap (λ m. bit_at m some.0) (sym none) ∙ some.1 in
      absurd (omega (arith, bit))
