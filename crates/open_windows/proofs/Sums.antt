-- Sums of five bits.
use Rattle.std.proofs.Common.{◌≡◌, inl, inr, ℕ, ◌+◌, ◌*◌, ◌≤◌, ◌<◌, true, false, cond, nat_le, ap, sym, ◌∙◌, arith, bit_and, bit_or}
use Rattle.std.specs.Prelude.{bit_xor}
use Rattle.std.specs.Int.{bit_at}
use Rattle.std.proofs.lemmas.Bool.{cases_lt}
use Rattle.std.proofs.lemmas.Bool.Decides.{nat_tests}
use Rattle.std.proofs.lemmas.Nat.Bits.{bit_at_and, bit_at_or, bit_at_xor, bit_at-lt}

pub three-added : (a b c x : ℕ) → bit_at (bit_xor (bit_xor a b) c) x + 2 * bit_at (bit_or (bit_and a b) (bit_and (bit_xor a b) c)) x
    ≡ bit_at a x + bit_at b x + bit_at c x
three-added a b c x =
    let la = bit_at-lt a x in let lb = bit_at-lt b x in let lc = bit_at-lt c x in
    let odd = bit_at_xor a b x in let ones = bit_at_xor (bit_xor a b) c x in
    let low = bit_at_and a b x in let high = bit_at_and (bit_xor a b) c x in
    let twos = bit_at_or (bit_and a b) (bit_and (bit_xor a b) c) x in
    omega (arith, la, lb, lc, odd, ones, low, high, twos)

test : (n m r : ℕ) → (n ≤ m → r ≡ 1) → (m < n → r ≡ 0) → r ≡ cond (nat_le n m) 1 0
test n m r holds fails = elim (cases_lt m n) [
  | inl less ↦ let e : nat_le n m ≡ false = grind (arith, nat_tests) in fails less ∙ sym (ap (λ t. cond t 1 0) e)
  | inr enough ↦ let e : nat_le n m ≡ true = grind (arith, nat_tests) in holds enough ∙ sym (ap (λ t. cond t 1 0) e)
]

-- the ones and two times the twos of five bits are their sum
module _ (ones twos more x sum : ℕ) (all : bit_at ones x + 2 * bit_at twos x + 2 * bit_at more x ≡ sum) where
  low_ones : bit_at ones x < 2
  low_ones = bit_at-lt ones x

  low_twos : bit_at twos x < 2
  low_twos = bit_at-lt twos x

  low_more : bit_at more x < 2
  low_more = bit_at-lt more x

  pub two-set : bit_at (bit_or twos more) x ≡ cond (nat_le 2 sum) 1 0
  two-set =
      let l = low_ones in let m = low_twos in let n = low_more in
      bit_at_or twos more x ∙ test 2 sum _ (λ h. omega (arith, all, l, m, n, h)) (λ h. omega (arith, all, l, m, n, h))

  pub three-set : bit_at (bit_or (bit_and twos more) (bit_and (bit_or twos more) ones)) x ≡ cond (nat_le 3 sum) 1 0
  three-set =
      let l = low_ones in let m = low_twos in let n = low_more in
      let or = bit_at_or twos more x in let both = bit_at_and twos more x in let one = bit_at_and (bit_or twos more) ones x in
      bit_at_or (bit_and twos more) (bit_and (bit_or twos more) ones) x
      ∙ test 3 sum _ (λ h. omega (arith, all, l, m, n, or, both, one, h)) (λ h. omega (arith, all, l, m, n, or, both, one, h))

  pub four-set : bit_at (bit_and twos more) x ≡ cond (nat_le 4 sum) 1 0
  four-set =
      let l = low_ones in let m = low_twos in let n = low_more in
      bit_at_and twos more x ∙ test 4 sum _ (λ h. omega (arith, all, l, m, n, h)) (λ h. omega (arith, all, l, m, n, h))
