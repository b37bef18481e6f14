-- The halves of a line that bits tell: those of its code.
use Rattle.std.proofs.Common.{◌≡◌, ◌⊎◌, inl, inr, ℕ, zero, suc, ◌+◌, ◌-◌, ◌*◌, ◌/◌, ◌%◌, ◌^◌, ◌≤◌, ◌<◌, max, Bool, true, false, not, nat_eq}
use Rattle.std.proofs.Common.{refl, sym, subst, ap, ◌∙◌, arith, map, get_or, bit_and, ◌++◌, replicate, reverse}
use Rattle.std.specs.Int.{bit_at}
use Rattle.std.specs.List.{list_any, range_with_len}
use Rattle.std.proofs.Math.Nat.{pow-succ'}
use Rattle.std.proofs.lemmas.Bool.Decides.{nat_tests}
use Rattle.std.proofs.lemmas.Nat.{and_le_r}
use Rattle.std.proofs.lemmas.Nat.Bits.{bit_at-lt, bit_at_above}
use Rattle.game_rules.proofs.Common.{Grid}
use Rattle.game_rules.proofs.Rows.{any_found}
use Rattle.game_rules.specs.declared.Cell.TheVariants.{White as WhiteStone}
use Rattle.game_rules.specs.declared.Point.{Point}
use Rattle.game_rules.specs.declared.Side.TheVariants.{Black}
use Rattle.game_rules.specs.declared.Axis.TheVariants.{Row}
use Rattle.game_rules.specs.declared.Way.TheVariants.{Ahead, Behind}
use Rattle.stone_board.proofs.Ones.{bit_shr}
use Rattle.row_shapes.specs.declared.shapes.Shape.{Shape}
use Rattle.row_shapes.specs.declared.places.TheConstants.{REVERSED}
use Rattle.row_shapes.proofs.Common.{SeesLine, cell_of_bits, cell_of_digit, cells_of, first_digits, from_digits, half_cells, places_beside}
use Rattle.row_shapes.proofs.Common.{rule_by, shape_of, stone_shape}
use Rattle.row_shapes.proofs.CodeDigits.{first_bit}
use Rattle.row_shapes.proofs.HalfBits.{bits_of, same_five}
use Rattle.row_shapes.proofs.HalfTables.{halves_shape}

-- ---- five bits in the other order

turned : ℕ → ℕ
turned n = bit_at n 4 + 2 * bit_at n 3 + 4 * bit_at n 2 + 8 * bit_at n 1 + 16 * bit_at n 0

differs : ℕ → Bool
differs n = not (nat_eq (get_or REVERSED n 0) (turned n))

none_differs : list_any differs (range_with_len 0 32) ≡ false
unfolding differs turned
none_differs = refl

turned_is : (n : ℕ) → n < 32 → get_or REVERSED n 0 ≡ turned n
unfolding differs
turned_is n low = by_test (nat_eq (get_or REVERSED n 0) (turned n)) refl where
  by_test : (r : Bool) → nat_eq (get_or REVERSED n 0) (turned n) ≡ r → get_or REVERSED n 0 ≡ turned n
  by_test true h = grind (arith, nat_tests)
  by_test false h =
      let differ : true ≡ false = sym (any_found differs 32 0 n (omega arith) (omega arith) (ap not h)) ∙ none_differs in
      cc

turned_bits : (n : ℕ) → (bit_at (turned n) 0 ≡ bit_at n 4) × (bit_at (turned n) 1 ≡ bit_at n 3) × (bit_at (turned n) 2 ≡ bit_at n 2)
    × (bit_at (turned n) 3 ≡ bit_at n 1) × (bit_at (turned n) 4 ≡ bit_at n 0)
unfolding turned
turned_bits n = bits_of (bit_at n 4) (bit_at n 3) (bit_at n 2) (bit_at n 1) (bit_at n 0) (bit_at-lt n 4) (bit_at-lt n 3) (bit_at-lt n 2)
    (bit_at-lt n 1) (bit_at-lt n 0)

turned_bit : (n i : ℕ) → i < 5 → bit_at (turned n) i ≡ bit_at n (4 - i)
turned_bit n zero h = (turned_bits n).0
turned_bit n (suc zero) h = (turned_bits n).1
turned_bit n (suc (suc zero)) h = (turned_bits n).2
turned_bit n (suc (suc (suc zero))) h = (turned_bits n).3
turned_bit n (suc (suc (suc (suc zero)))) h = (turned_bits n).4
turned_bit n (suc (suc (suc (suc (suc i))))) h = absurd (omega arith)

turned_low : (n : ℕ) → turned n < 32
unfolding turned
turned_low n = omega (arith, bit_at-lt n 0, bit_at-lt n 1, bit_at-lt n 2, bit_at-lt n 3, bit_at-lt n 4)

-- ---- the bits of both halves

pub ahead_bit : (r n m i : ℕ) → m ≡ 2 ^ r → i < r → bit_at (bit_and (n / 2 ^ (r + 1)) (m - 1)) i ≡ bit_at n (r + 1 + i)
ahead_bit r n m i e low = ap (λ k. bit_at (bit_and (n / 2 ^ (r + 1)) (k - 1)) i) e ∙ first_bit (n / 2 ^ (r + 1)) r i low
    ∙ bit_shr n (r + 1) i ∙ ap (bit_at n) (omega arith)

module _ (r n : ℕ) where
  low : bit_and n 31 < 32
  low = let most = and_le_r n 31 in omega (arith, most)

  pub behind_bit : (i : ℕ) → r ≤ 5 → i < r → bit_at (get_or REVERSED (bit_and n 31) 0 / 2 ^ (5 - r)) i ≡ bit_at n (r - 1 - i)
  behind_bit i few near =
      let place : 4 - (i + (5 - r)) ≡ r - 1 - i = omega (arith, few, near) in
      bit_shr (get_or REVERSED (bit_and n 31) 0) (5 - r) i ∙ ap (λ m. bit_at m (i + (5 - r))) (turned_is (bit_and n 31) low)
      ∙ turned_bit (bit_and n 31) (i + (5 - r)) (omega (arith, few, near)) ∙ ap (bit_at (bit_and n 31)) place
      ∙ first_bit n 5 (r - 1 - i) (omega (arith, few, near))

  pub behind_low : (r ≡ 4) ⊎ (r ≡ 5) → get_or REVERSED (bit_and n 31) 0 / 2 ^ (5 - r) < 2 ^ r
  behind_low (inl e) = let all = turned_low (bit_and n 31) in rw (e, turned_is (bit_and n 31) low) (omega (arith, all))
  behind_low (inr e) = let all = turned_low (bit_and n 31) in rw (e, turned_is (bit_and n 31) low) (omega (arith, all))

-- ---- digits of a number made of digits

module _ (f : ℕ → ℕ) where
  kept_digits : (n a : ℕ) → ((i : ℕ) → i < n → f (a + i) < 3)
      → first_digits n (from_digits (map f (range_with_len a n))) ≡ map f (range_with_len a n)
  kept_digits zero a h = refl
  kept_digits (suc n) a h =
      let here : f a < 3 = let same : a + 0 ≡ a = omega arith in rw same at (h 0 (omega arith)) in
      let rest = kept_digits n (a + 1) (λ i low. let same : a + suc i ≡ a + 1 + i = omega arith in rw same at (h (suc i) (omega arith))) in
      let m : ℕ = from_digits (map f (range_with_len (a + 1) n)) in
      let last : (f a + 3 * m) % 3 ≡ f a = omega (arith, here) in
      let more : (f a + 3 * m) / 3 ≡ m = omega (arith, here) in
      rw (last, more, rest) refl

  low_digits : (n a : ℕ) → ((i : ℕ) → i < n → f (a + i) < 3) → from_digits (map f (range_with_len a n)) < 3 ^ n
  low_digits zero a h = omega arith
  low_digits (suc n) a h =
      let here : f a < 3 = let same : a + 0 ≡ a = omega arith in rw same at (h 0 (omega arith)) in
      let rest = low_digits n (a + 1) (λ i low. let same : a + suc i ≡ a + 1 + i = omega arith in rw same at (h (suc i) (omega arith))) in
      let power = pow-succ' 3 n in
      omega (arith, here, rest, power)

  four_sum : from_digits (map f (range_with_len 0 4)) + 3 ^ 4 * from_digits (map f (range_with_len 5 4))
      ≡ from_digits (map f (places_beside 4))
  four_sum = omega arith

  five_sum : from_digits (map f (range_with_len 0 5)) + 3 ^ 5 * from_digits (map f (range_with_len 6 5))
      ≡ from_digits (map f (places_beside 5))
  five_sum = omega arith

-- ---- the cells of both halves

cell_same : (x own taken free : ℕ) → x ≡ own → own < 2 → taken < 2 → own + 2 * taken < 3 → free ≡ 1 - max own taken
    → cell_of_bits x free ≡ cell_of_digit (own + 2 * taken)
cell_same x zero zero free e a b h f = rw (e, f) refl
cell_same x zero (suc zero) free e a b h f = rw (e, f) refl
cell_same x (suc zero) zero free e a b h f = rw e refl
cell_same x (suc zero) (suc taken) free e a b h f = absurd (omega arith)
cell_same x zero (suc (suc taken)) free e a b h f = absurd (omega arith)
cell_same x (suc (suc own)) taken free e a b h f = absurd (omega arith)

cell_none : (x free : ℕ) → x ≡ 0 → free ≡ 0 → cell_of_bits x free ≡ WhiteStone
cell_none x free e f = rw (e, f) refl

-- the four numbers are the halves of the places, of Black's stones and of what is empty
pub record AreHalves (r own taken free ahead ahead_free behind behind_free : ℕ) : Type 0 where
  pub digits : (i : ℕ) → i ≤ 2 * r → bit_at own i + 2 * bit_at taken i < 3
  pub frees : (i : ℕ) → i ≤ 2 * r → bit_at free i ≡ 1 - max (bit_at own i) (bit_at taken i)
  pub ahead_low : ahead < 2 ^ r
  pub free_low : ahead_free < 2 ^ r
  pub behind_low : behind < 2 ^ r
  pub last_low : behind_free < 2 ^ r
  pub forth : (i : ℕ) → i < r → bit_at ahead i ≡ bit_at own (r + 1 + i)
  pub forth_free : (i : ℕ) → i < r → bit_at ahead_free i ≡ bit_at free (r + 1 + i)
  pub back : (i : ℕ) → i < r → bit_at behind i ≡ bit_at own (r - 1 - i)
  pub back_free : (i : ℕ) → i < r → bit_at behind_free i ≡ bit_at free (r - 1 - i)

module _ (own taken : ℕ) where
  abbrev digit : ℕ → ℕ
  digit i = bit_at own i + 2 * bit_at taken i

  module _ (r free a f c g : ℕ) (are : AreHalves r own taken free a f c g) where
    ahead_cell : (k : ℕ) → k < r → cell_of_bits (bit_at a k) (bit_at f k) ≡ cell_of_digit (digit (r + 1 + k))
    ahead_cell k low = cell_same (bit_at a k) (bit_at own (r + 1 + k)) (bit_at taken (r + 1 + k)) (bit_at f k) (are.forth k low)
        (bit_at-lt own _) (bit_at-lt taken _) (are.digits (r + 1 + k) (omega arith))
        (are.forth_free k low ∙ are.frees (r + 1 + k) (omega arith))

    behind_cell : (k : ℕ) → k < r → cell_of_bits (bit_at c k) (bit_at g k) ≡ cell_of_digit (digit (r - 1 - k))
    behind_cell k low = cell_same (bit_at c k) (bit_at own (r - 1 - k)) (bit_at taken (r - 1 - k)) (bit_at g k) (are.back k low)
        (bit_at-lt own _) (bit_at-lt taken _) (are.digits (r - 1 - k) (omega arith))
        (are.back_free k low ∙ are.frees (r - 1 - k) (omega arith))

  module _ (free a f c g : ℕ) (are : AreHalves 4 own taken free a f c g) where
    four_ahead : cells_of a f ≡ half_cells Ahead 4 (from_digits (map digit (range_with_len 5 4)))
    unfolding cells_of
    four_ahead =
        let cell = ahead_cell 4 free a f c g are in
        same_five _ _ _ _ _ _ _ _ _ _ (cell 0 (omega arith)) (cell 1 (omega arith)) (cell 2 (omega arith)) (cell 3 (omega arith))
        (cell_none _ _ (bit_at_above a 4 4 are.ahead_low (omega arith)) (bit_at_above f 4 4 are.free_low (omega arith)))
        ∙ ap (λ ds. map cell_of_digit ds ++ replicate 1 WhiteStone)
        (sym (kept_digits digit 4 5 (λ i low. are.digits (5 + i) (omega arith))))

    four_behind : cells_of c g ≡ half_cells Behind 4 (from_digits (map digit (range_with_len 0 4)))
    unfolding cells_of
    four_behind =
        let cell = behind_cell 4 free a f c g are in
        same_five _ _ _ _ _ _ _ _ _ _ (cell 0 (omega arith)) (cell 1 (omega arith)) (cell 2 (omega arith)) (cell 3 (omega arith))
        (cell_none _ _ (bit_at_above c 4 4 are.behind_low (omega arith)) (bit_at_above g 4 4 are.last_low (omega arith)))
        ∙ ap (λ ds. map cell_of_digit (reverse ds) ++ replicate 1 WhiteStone)
        (sym (kept_digits digit 4 0 (λ i low. are.digits (0 + i) (omega arith))))

  module _ (free a f c g : ℕ) (are : AreHalves 5 own taken free a f c g) where
    five_ahead : cells_of a f ≡ half_cells Ahead 5 (from_digits (map digit (range_with_len 6 5)))
    unfolding cells_of
    five_ahead =
        let cell = ahead_cell 5 free a f c g are in
        same_five _ _ _ _ _ _ _ _ _ _ (cell 0 (omega arith)) (cell 1 (omega arith)) (cell 2 (omega arith)) (cell 3 (omega arith))
        (cell 4 (omega arith))
        ∙ ap (λ ds. map cell_of_digit ds ++ replicate 0 WhiteStone)
        (sym (kept_digits digit 5 6 (λ i low. are.digits (6 + i) (omega arith))))

    five_behind : cells_of c g ≡ half_cells Behind 5 (from_digits (map digit (range_with_len 0 5)))
    unfolding cells_of
    five_behind =
        let cell = behind_cell 5 free a f c g are in
        same_five _ _ _ _ _ _ _ _ _ _ (cell 0 (omega arith)) (cell 1 (omega arith)) (cell 2 (omega arith)) (cell 3 (omega arith))
        (cell 4 (omega arith))
        ∙ ap (λ ds. map cell_of_digit (reverse ds) ++ replicate 0 WhiteStone)
        (sym (kept_digits digit 5 0 (λ i low. are.digits (0 + i) (omega arith))))

-- ---- the shape

abbrev Told : ℕ → Type 0
Told r = (own taken free a f c g : ℕ) (shape : Shape) → AreHalves r own taken free a f c g
    → ((b : Grid) (p : Point) → SeesLine (cells_of a f) (cells_of c g) b p → shape ≡ stone_shape (rule_by (nat_eq r 4)) b Black Row p)
    → shape ≡ shape_of r (from_digits (map (λ i. bit_at own i + 2 * bit_at taken i) (places_beside r)))

told_four : Told 4
told_four own taken free a f c g shape are tells =
    halves_shape 4 _ _ (cells_of a f) (cells_of c g) shape (inl refl)
    (low_digits (digit own taken) 4 0 (λ i low. are.digits (0 + i) (omega arith))) (four_ahead own taken free a f c g are)
    (four_behind own taken free a f c g are) tells ∙ ap (shape_of 4) (four_sum (digit own taken))

told_five : Told 5
told_five own taken free a f c g shape are tells =
    halves_shape 5 _ _ (cells_of a f) (cells_of c g) shape (inr refl)
    (low_digits (digit own taken) 5 0 (λ i low. are.digits (0 + i) (omega arith))) (five_ahead own taken free a f c g are)
    (five_behind own taken free a f c g are) tells ∙ ap (shape_of 5) (five_sum (digit own taken))

-- halves of bits have the shape of the code of their places
pub told_places : (r : ℕ) → (r ≡ 4) ⊎ (r ≡ 5) → Told r
told_places r (inl e) = subst Told (sym e) told_four
told_places r (inr e) = subst Told (sym e) told_five
