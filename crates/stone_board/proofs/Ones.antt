-- How many bits next to a place are set one after another.
use Rattle.std.proofs.Common.{◌≡◌, ℕ, suc, ◌+◌, ◌-◌, ◌*◌, ◌/◌, ◌%◌, ◌^◌, ◌≤◌, ◌<◌, sym, ap, ◌∙◌, arith}
use Rattle.std.specs.Int.{bit_at, bit_not, leading_ones, trailing_ones, w32}
use Rattle.std.proofs.lemmas.Nat.{pow-add, pow_pos, shr_le, leading_top, mul-mod_first, div-add-mod'}
use Rattle.std.proofs.Math.Nat.{div-div-eq-div-mul, mul_assoc}
use Rattle.std.proofs.lemmas.Nat.Bits.{bit_at_not, bit_at-trailing_ones, bit_at-lt, bit_at-zero, bit_at_lowest, bit_at_above}
use Rattle.std.proofs.lemmas.Nat.Bits.{bit_at_cat_low, bit_at_cat_high}

-- the bits of a number that is shifted down, and up in 32 bits
pub bit_shr : (n k i : ℕ) → bit_at (n / 2 ^ k) i ≡ bit_at n (i + k)
bit_shr n k i =
    let sum : k + i ≡ i + k = omega arith in
    ap (λ m. m % 2) (div-div-eq-div-mul n (2 ^ k) (2 ^ i) ∙ ap (λ m. n / m) (sym (pow-add 2 k i) ∙ ap (λ m. 2 ^ m) sum))

bit_low : (n k i : ℕ) → i < k → bit_at (n % 2 ^ k) i ≡ bit_at n i
bit_low n k i low = sym (bit_at_cat_low (n / 2 ^ k) k (n % 2 ^ k) i low) ∙ ap (λ m. bit_at m i) (div-add-mod' n (2 ^ k))

bit_shl_low : (n k i : ℕ) → i < k → bit_at (n * 2 ^ k) i ≡ 0
bit_shl_low n k i low =
    let same : n * 2 ^ k ≡ n * 2 ^ k + 0 = omega arith in
    ap (λ m. bit_at m i) same ∙ bit_at_cat_low n k 0 i low ∙ bit_at-zero i

bit_shl_high : (n k i : ℕ) → k ≤ i → bit_at (n * 2 ^ k) i ≡ bit_at n (i - k)
bit_shl_high n k i high =
    let same : n * 2 ^ k ≡ n * 2 ^ k + 0 = omega arith in
    ap (λ m. bit_at m i) same ∙ bit_at_cat_high n k 0 i (pow_pos k) high

-- ---- ahead of a place

module _ (bits place : ℕ) (fits : bits < 2 ^ 32) where
  abbrev ahead : ℕ
  ahead = bits / 2 ^ place / 2

  ahead_bit : (k : ℕ) → bit_at ahead k ≡ bit_at bits (place + (1 + k))
  ahead_bit k = bit_shr (bits / 2 ^ place) 1 k ∙ bit_shr bits place (k + 1) ∙ ap (bit_at bits) (omega arith)

  ones : (trailing_ones w32 ahead < 32) × (bit_at ahead (trailing_ones w32 ahead) ≡ 0)
      × ((i : ℕ) → i < trailing_ones w32 ahead → bit_at ahead i ≡ 1)
  ones = let low = shr_le bits place in bit_at-trailing_ones w32 ahead (omega (arith, low, fits))

  pub ahead_set : (k : ℕ) → 1 ≤ k → k ≤ trailing_ones w32 ahead → bit_at bits (place + k) ≡ 1
  ahead_set k low high =
      let same : place + k ≡ place + (1 + (k - 1)) = omega (arith, low) in
      ap (bit_at bits) same ∙ sym (ahead_bit (k - 1)) ∙ ones.2 (k - 1) (omega (arith, low, high))

  pub ahead_clear : bit_at bits (place + (1 + trailing_ones w32 ahead)) ≡ 0
  ahead_clear = sym (ahead_bit (trailing_ones w32 ahead)) ∙ ones.1

-- ---- behind it

-- the highest bit of a number
top_bit : (n j : ℕ) → 2 ^ j ≤ n → n < 2 ^ suc j → bit_at n j ≡ 1
top_bit n j least below =
    let more : 2 ^ suc j ≡ 2 ^ j * 2 ^ 1 = ap (λ m. 2 ^ m) (omega arith) ∙ pow-add 2 j 1 in
    let rest : n - 2 ^ j < 2 ^ j = omega (arith, least, below, more) in
    let same : n ≡ 1 * 2 ^ j + (n - 2 ^ j) = omega (arith, least) in
    let none : j - j ≡ 0 = omega arith in
    ap (λ m. bit_at m j) same ∙ bit_at_cat_high 1 j (n - 2 ^ j) j rest (omega arith) ∙ ap (bit_at 1) none

module _ (bits place : ℕ) (near : place < 32) where
  abbrev moved : ℕ
  moved = bits * 2 ^ (31 - place) % 4294967296 * 2 % 4294967296

  moved_is : moved ≡ bits * 2 ^ (32 - place) % 2 ^ 32
  moved_is =
      let one : 31 - place + 1 ≡ 32 - place = omega (arith, near) in
      mul-mod_first (bits * 2 ^ (31 - place)) 2 4294967296 ∙ ap
      (λ m. m % 2 ^ 32) (mul_assoc bits (2 ^ (31 - place)) 2 ∙ ap (λ m. bits * m) (sym (pow-add 2 (31 - place) 1) ∙ ap (λ m. 2 ^ m) one))

  moved_bit : (i : ℕ) → i < 32 → bit_at moved i ≡ bit_at (bits * 2 ^ (32 - place)) i
  moved_bit i low = ap (λ m. bit_at m i) moved_is ∙ bit_low (bits * 2 ^ (32 - place)) 32 i low

  moved_fits : moved < 2 ^ 32
  moved_fits = omega arith

  -- some bit is clear, since the lowest is
  some : 0 < bit_not w32 moved
  some =
      let even : moved % 2 ≡ 0 = sym (bit_at_lowest moved) ∙ moved_bit 0 (omega arith)
      ∙ bit_shl_low bits (32 - place) 0 (omega (arith, near)) in
      let fits = moved_fits in
      omega (arith, even, fits)

  top : (j : ℕ) × (leading_ones w32 moved + suc j ≡ 32) × (2 ^ j ≤ bit_not w32 moved) × (bit_not w32 moved < 2 ^ suc j)
  top = let fits = moved_fits in leading_top 32 (bit_not w32 moved) some (omega arith)

  -- a place behind is a bit of the number that was moved up
  behind_bit : (k : ℕ) → 1 ≤ k → k ≤ place → bit_at bits (place - k) ≡ bit_at moved (32 - k)
  behind_bit k low high =
      let same : 32 - k - (32 - place) ≡ place - k = omega (arith, low, high, near) in
      sym (moved_bit (32 - k) (omega (arith, low)) ∙ bit_shl_high bits (32 - place) (32 - k) (omega (arith, high)) ∙ ap (bit_at bits) same)

  pub behind_set : (k : ℕ) → 1 ≤ k → k ≤ leading_ones w32 moved → k ≤ place → bit_at bits (place - k) ≡ 1
  behind_set k low high within =
      let sum = top.1 in
      let none : bit_at (bit_not w32 moved) (32 - k) ≡ 0 =
      bit_at_above (bit_not w32 moved) (suc top.0) (32 - k) top.3 (omega (arith, sum, high)) in
      let turn = bit_at_not w32 moved (32 - k) moved_fits (omega (arith, low)) in
      let bit = bit_at-lt moved (32 - k) in
      behind_bit k low within ∙ omega (arith, none, turn, bit)

  pub behind_clear : leading_ones w32 moved < place → bit_at bits (place - (1 + leading_ones w32 moved)) ≡ 0
  behind_clear short =
      let sum = top.1 in
      let here : 32 - (1 + leading_ones w32 moved) ≡ top.0 = omega (arith, sum) in
      let one = top_bit (bit_not w32 moved) top.0 top.2 top.3 in
      let turn = bit_at_not w32 moved top.0 moved_fits (omega (arith, sum)) in
      let bit = bit_at-lt moved top.0 in
      behind_bit (1 + leading_ones w32 moved) (omega arith) (omega (arith, short)) ∙ ap (bit_at moved) here ∙ omega (arith, one, turn, bit)
