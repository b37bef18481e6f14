-- A number is the sum of its bits.
use Rattle.std.proofs.Common.{◌≡◌, ℕ, zero, suc, ◌+◌, ◌*◌, ◌/◌, ◌%◌, ◌^◌, ◌<◌, Bool, true, false, cond, sym, ap, ◌∙◌, arith}
use Rattle.std.specs.List.{sum_by, range_with_len}
use Rattle.std.specs.Int.{bit_at}
use Rattle.std.proofs.Math.Nat.{pow-succ'}
use Rattle.std.proofs.lemmas.Nat.Bits.{bit_at_lowest, bit_at-suc}

double : (a : ℕ) → 2 ^ (a + 1) ≡ 2 * 2 ^ a
double a = let next : a + 1 ≡ suc a = omega arith in ap (λ j. 2 ^ j) next ∙ pow-succ' 2 a

half_below : (n k : ℕ) → n < 2 ^ (suc k) → n / 2 < 2 ^ k
half_below n k h = omega arith

sum_step : (t : Bool) (power n q s : ℕ) → n ≡ cond t 1 0 + 2 * q → 2 * power * q ≡ s → power * n ≡ cond t power 0 + s
sum_step true power n q s e f = let h : power * n ≡ power * (1 + 2 * q) = ap (λ m. power * m) e in omega arith
sum_step false power n q s e f = let h : power * n ≡ power * (0 + 2 * q) = ap (λ m. power * m) e in omega arith

-- the bits from a on that a test tells, so many of them
abbrev bits_from : (ℕ → Bool) → ℕ → ℕ → ℕ
bits_from t zero a = 0
bits_from t (suc k) a = cond (t a) (2 ^ a) 0 + bits_from t k (a + 1)

sum_bits : (t : ℕ → Bool) (k a n : ℕ) → n < 2 ^ k → ((i : ℕ) → i < k → bit_at n i ≡ cond (t (a + i)) 1 0) → 2 ^ a * n ≡ bits_from t k a
sum_bits t zero a n low bits = let none : n ≡ 0 = omega arith in rw none (omega arith)
sum_bits t (suc k) a n low bits =
    let here : a + 0 ≡ a = omega arith in
    let bit : n % 2 ≡ cond (t a) 1 0 = sym (bit_at_lowest n) ∙ bits 0 (omega arith) ∙ ap (λ j. cond (t j) 1 0) here in
    let rest : 2 ^ (a + 1) * (n / 2) ≡ bits_from t k (a + 1) =
    sum_bits t k (a + 1) (n / 2) (half_below n k low) (λ i l.
    let next : a + suc i ≡ a + 1 + i = omega arith in
    sym (bit_at-suc n i) ∙ bits (suc i) (omega arith) ∙ ap (λ j. cond (t j) 1 0) next) in
    let power = double a in
    sum_step (t a) (2 ^ a) n (n / 2) _ (omega (arith, bit)) (ap (λ p. p * (n / 2)) (sym power) ∙ rest)

-- a number below 2 ^ 11 whose bits are told by a test
pub eleven_bits : (t : ℕ → Bool) (n : ℕ) → n < 2 ^ 11 → ((i : ℕ) → i < 11 → bit_at n i ≡ cond (t i) 1 0)
    → n ≡ sum_by (λ i. cond (t i) (2 ^ i) 0) (range_with_len 0 11)
eleven_bits t n low bits =
    let all = sum_bits t 11 0 n low (λ i l. let same : i ≡ 0 + i = omega arith in bits i l ∙ ap (λ j. cond (t j) 1 0) same) in
    omega (arith, all)
