-- Sets that are made point by point.
use Rattle.std.proofs.Common.{◌≡◌, ◌||◌, inl, inr, ℕ, ◌^◌, ◌<◌, true, false, nat_eq, List, replicate, set, length, refl, sym, ap, ◌∙◌}
use Rattle.std.proofs.Common.{arith}
use Rattle.std.proofs.Common.{bit_or}
use Rattle.std.specs.Prelude.{slice_index_or}
use Rattle.std.specs.Int.{bit_at}
use Rattle.std.proofs.lemmas.Bool.{cases_eq}
use Rattle.std.proofs.lemmas.Bool.Decides.{nat_tests}
use Rattle.std.proofs.lemmas.List.{get_or-set_same, get_or-set_other, get_or-replicate}
use Rattle.std.proofs.lemmas.Nat.Bits.{bit_at_or, bit_at-lt, bit_at-zero, bit_at_ones, bit_at-pow_same, bit_at-pow_other}
use Rattle.std.proofs.Math.Bool.{and-false}
use Rattle.game_rules.specs.Shapes.{is_same_point}
use Rattle.game_rules.specs.declared.Point.{Point}
use Rattle.open_windows.specs.PointSets.{has_point}
use Rattle.open_windows.proofs.RowBits.{zeros}

pub no-point : (p : Point) → has_point (replicate 32 0) p ≡ false
no-point p = ap (λ n. nat_eq (bit_at n p.x) 1) (zeros 32 p.y) ∙ ap (λ m. nat_eq m 1) (bit_at-zero p.x)

pub each-point : (p : Point) → p.x < 32 → p.y < 32 → has_point (replicate 32 4294967295) p ≡ true
each-point p column row =
    ap (λ n. nat_eq (bit_at n p.x) 1) (get_or-replicate 32 p.y 4294967295 0 row) ∙ ap (λ m. nat_eq m 1) (bit_at_ones 32 p.x column)

-- with a point more
pub one-more : (rows : List ℕ) (p q : Point) (power : ℕ) → length rows ≡ 32 → p.y < 32 → power ≡ 2 ^ p.x
    → has_point (set rows p.y (bit_or (slice_index_or rows p.y 0) power)) q ≡ (is_same_point q p || has_point rows q)
one-more rows p q power all row is =
    let old : ℕ = slice_index_or rows p.y 0 in
    elim (cases_eq q.y p.y) [
      | inr other ↦
          let away : nat_eq q.y p.y ≡ false = grind (arith, nat_tests) in
          ap (λ n. nat_eq (bit_at n q.x) 1) (get_or-set_other rows p.y q.y (bit_or old power) 0 other)
          ∙ rw (away, and-false (nat_eq q.x p.x)) refl
      | inl same ↦
          let there : nat_eq q.y p.y ≡ true = grind (arith, nat_tests) in
          let row_is : slice_index_or (set rows p.y (bit_or old power)) q.y 0 ≡ bit_or old power =
          ap (λ k. slice_index_or (set rows p.y (bit_or old power)) k 0) same
          ∙ get_or-set_same rows p.y (bit_or old power) 0 (omega (arith, all, row)) in
          let either = bit_at_or old power q.x in
          let small = bit_at-lt old q.x in
          let bit : bit_at power q.x ≡ bit_at (2 ^ p.x) q.x = ap (λ n. bit_at n q.x) is in
          ap (λ n. nat_eq (bit_at n q.x) 1) row_is ∙ elim (cases_eq q.x p.x) [
            | inl at ↦
                let here : nat_eq q.x p.x ≡ true = grind (arith, nat_tests) in
                let set_bit : bit_at (2 ^ p.x) q.x ≡ 1 = ap (bit_at (2 ^ p.x)) at ∙ bit_at-pow_same p.x in
                let one : bit_at (bit_or old power) q.x ≡ 1 = omega (arith, either, small, bit, set_bit) in
                ap (λ m. nat_eq m 1) one ∙ rw (here, there) refl
            | inr off ↦
                let apart : nat_eq q.x p.x ≡ false = grind (arith, nat_tests) in
                let clear = bit_at-pow_other p.x q.x off in
                let kept : bit_at (bit_or old power) q.x ≡ bit_at old q.x = omega (arith, either, bit, clear) in
                ap (λ m. nat_eq m 1) kept ∙ ap (λ k. nat_eq (bit_at (slice_index_or rows k 0) q.x) 1) (sym same) ∙ rw apart refl
          ]
    ]
