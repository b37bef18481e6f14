-- Halves of lines kept as bits: what the bits tell, and the rows of stones by the ones next to a place.
use Rattle.std.proofs.Common.{◌≡◌, inl, inr, ℕ, ◌+◌, ◌-◌, ◌*◌, ◌/◌, ◌^◌, ◌≤◌, ◌<◌, Bool, true, false, cond, ◌&&◌, not, nat_eq, List, [], ◌∷◌}
use Rattle.std.proofs.Common.{refl, sym, ap, ◌∙◌, arith}
use Rattle.std.specs.Int.{bit_at, trailing_ones, w32}
use Rattle.std.proofs.lemmas.Bool.{cases_lt}
use Rattle.std.proofs.lemmas.Nat.{shr_le}
use Rattle.std.proofs.lemmas.Nat.Bits.{bit_at_above, bit_at-trailing_ones}
use Rattle.std.proofs.lemmas.List.{get_or_past}
use Rattle.std.proofs.lemmas.List.FromFn.{get_or-map-range_with_len}
use Rattle.game_rules.specs.Grid.{is_empty_cell, is_stone_of}
use Rattle.game_rules.specs.declared.Cell.{Cell}
use Rattle.game_rules.specs.declared.Cell.TheVariants.{Empty, Black as BlackStone, White as WhiteStone}
use Rattle.game_rules.specs.declared.Side.TheVariants.{Black}
use Rattle.game_rules.proofs.Runs.{Leads}
use Rattle.stone_board.proofs.Ones.{bit_shr}
use Rattle.row_shapes.proofs.Common.{cell_of_bits, cells_of, cell_off, is_free, owns, row_beyond, row_past}
use Rattle.row_shapes.proofs.Alike.{leads_alike}
use Rattle.row_shapes.proofs.HalfLines.{Leads-row, row_few}

black_by : (t u : Bool) → is_stone_of Black (cond t BlackStone (cond u Empty WhiteStone)) ≡ t
black_by true u = refl
black_by false true = refl
black_by false false = refl

empty_by : (t u : Bool) → is_empty_cell (cond t BlackStone (cond u Empty WhiteStone)) ≡ (not t && u)
empty_by true u = refl
empty_by false true = refl
empty_by false false = refl

module _ (own free : ℕ) where
  cell_told : (k : ℕ) → 1 ≤ k → k ≤ 5 → cell_off (cells_of own free) k ≡ cell_of_bits (bit_at own (k - 1)) (bit_at free (k - 1))
  unfolding cells_of
  cell_told k some near = get_or-map-range_with_len (λ i. cell_of_bits (bit_at own i) (bit_at free i)) 0 5 (k - 1) (k - 1) WhiteStone
      (omega arith) (omega arith)

  no_cell : (k : ℕ) → 5 < k → cell_off (cells_of own free) k ≡ WhiteStone
  unfolding cells_of
  no_cell k far = get_or_past (cells_of own free) (k - 1) WhiteStone (omega arith)

  pub owns_told : (k : ℕ) → 1 ≤ k → k ≤ 5 → owns (cells_of own free) k ≡ nat_eq (bit_at own (k - 1)) 1
  owns_told k some near = ap (is_stone_of Black) (cell_told k some near) ∙ black_by _ _

  pub free_told : (k : ℕ) → 1 ≤ k → k ≤ 5
      → is_free (cells_of own free) k ≡ (not (nat_eq (bit_at own (k - 1)) 1) && nat_eq (bit_at free (k - 1)) 1)
  free_told k some near = ap is_empty_cell (cell_told k some near) ∙ empty_by _ _

  module _ (low : own < 2 ^ 5) where
    owns_all : (k : ℕ) → 1 ≤ k → owns (cells_of own free) k ≡ nat_eq (bit_at own (k - 1)) 1
    owns_all k some = elim (cases_lt 5 k) [
      | inl far ↦
          let clear = bit_at_above own 5 (k - 1) low (omega arith) in
          ap (is_stone_of Black) (no_cell k far) ∙ rw clear refl
      | inr near ↦ owns_told k some near
    ]

    -- the stones past a place are the ones past it
    pub row_told : (k : ℕ) → row_past (cells_of own free) k ≡ trailing_ones w32 (own / 2 ^ k)
    row_told k =
        let m : ℕ = trailing_ones w32 (own / 2 ^ k) in
        let ones = let less = shr_le own k in bit_at-trailing_ones w32 (own / 2 ^ k) (omega (arith, less, low)) in
        let bits : Leads (λ j. owns (cells_of own free) (k + j)) m = record {
          holds = λ j some few. owns_all (k + j) (omega arith) ∙ ap (λ n. nat_eq n 1)
              (ap (bit_at own) (omega arith) ∙ sym (bit_shr own k (j - 1)) ∙ ones.2 (j - 1) (omega arith));
          stops = owns_all (k + (1 + m)) (omega arith) ∙ ap (λ n. nat_eq n 1)
              (ap (bit_at own) (omega arith) ∙ sym (bit_shr own k m) ∙ ones.1);
        } in
        let same = leads_alike _ _ (row_past (cells_of own free) k) m (row_past (cells_of own free) k + m)
        (Leads-row (cells_of own free) k) bits (λ j some few. refl) in
        omega (arith, same)

    pub near_told : row_past (cells_of own free) 0 ≡ trailing_ones w32 own
    near_told = row_told 0 ∙ ap (trailing_ones w32) (omega arith)

    few_past : (k : ℕ) → k ≤ 5 → row_past (cells_of own free) k + k ≤ 5
    unfolding cells_of
    few_past k near = row_few (cells_of own free) k refl near

    pub few_told : row_past (cells_of own free) 0 + row_beyond (cells_of own free) ≤ 5
    few_told = elim (cases_lt (row_past (cells_of own free) 0) 5) [
      | inl near ↦ by_free (is_free (cells_of own free) (1 + row_past (cells_of own free) 0)) refl near
      | inr far ↦
          let all = few_past 0 (omega arith) in
          let none : is_free (cells_of own free) (1 + row_past (cells_of own free) 0) ≡ false =
          ap is_empty_cell (no_cell (1 + row_past (cells_of own free) 0) (omega arith)) in
          rw none (omega (arith, all))
    ] where
      by_free : (t : Bool) → is_free (cells_of own free) (1 + row_past (cells_of own free) 0) ≡ t → row_past (cells_of own free) 0 < 5
          → row_past (cells_of own free) 0 + row_beyond (cells_of own free) ≤ 5
      by_free true h near = let more = few_past (1 + row_past (cells_of own free) 0) (omega arith) in rw h (omega (arith, more))
      by_free false h near = rw h (omega arith)

    module _ (small : free < 2 ^ 5) where
      -- the first place that holds no stone of Black is empty where its bit says so
      next_free : (n : ℕ) → n ≡ row_past (cells_of own free) 0 → is_free (cells_of own free) (1 + n) ≡ nat_eq (bit_at free n) 1
      next_free n e = elim (cases_lt n 5) [
        | inl near ↦
            let same : 1 + n - 1 ≡ n = omega arith in
            let row = Leads-row (cells_of own free) 0 in
            let stops : owns (cells_of own free) (1 + n) ≡ false = ap (owns (cells_of own free)) (omega (arith, e)) ∙ row.stops in
            let clear = sym (owns_told (1 + n) (omega arith) (omega arith)) ∙ stops in
            free_told (1 + n) (omega arith) (omega arith) ∙ rw (clear, same) refl
        | inr far ↦
            let clear = bit_at_above free 5 n small far in
            ap is_empty_cell (no_cell (1 + n) (omega arith)) ∙ rw clear refl
      ]

      pub beyond_told : (n : ℕ) → n ≡ row_past (cells_of own free) 0
          → row_beyond (cells_of own free) ≡ cond (nat_eq (bit_at free n) 1) (trailing_ones w32 (own / 2 ^ (1 + n))) 0
      beyond_told n e =
          let free_is = next_free n e in
          let row = row_told (1 + n) in
          rw (← e, free_is, row) refl

-- ---- five cells as bits

module _ (a b c d e : ℕ) where
  abbrev pub five_bits : ℕ
  five_bits = a + 2 * b + 4 * c + 8 * d + 16 * e

  pub bits_of : a < 2 → b < 2 → c < 2 → d < 2 → e < 2 → (bit_at five_bits 0 ≡ a) × (bit_at five_bits 1 ≡ b) × (bit_at five_bits 2 ≡ c)
      × (bit_at five_bits 3 ≡ d) × (bit_at five_bits 4 ≡ e)
  bits_of one two three four five = (omega arith, omega arith, omega arith, omega arith, omega arith)

-- the bits of a cell
abbrev black : Cell → ℕ
black c = cond (is_stone_of Black c) 1 0

abbrev none : Cell → ℕ
none c = cond (is_empty_cell c) 1 0

told_cell : (c : Cell) → (black c < 2) × (none c < 2) × (cell_of_bits (black c) (none c) ≡ c)
told_cell Empty = (omega arith, omega arith, refl)
told_cell BlackStone = (omega arith, omega arith, refl)
told_cell WhiteStone = (omega arith, omega arith, refl)

pub same_five : (a b c d e v w x y z : Cell) → a ≡ v → b ≡ w → c ≡ x → d ≡ y → e ≡ z
    → ◌≡◌ {A = List Cell} (a ∷ b ∷ c ∷ d ∷ e ∷ []) (v ∷ w ∷ x ∷ y ∷ z ∷ [])
same_five a b c d e v w x y z f g h i j = cc

pub bits_told : (a b c d e : Cell) (own free : ℕ) → own ≡ five_bits (black a) (black b) (black c) (black d) (black e)
    → free ≡ five_bits (none a) (none b) (none c) (none d) (none e) → cells_of own free ≡ a ∷ b ∷ c ∷ d ∷ e ∷ []
unfolding cells_of
bits_told a b c d e own free f g =
    let owned = bits_of (black a) (black b) (black c) (black d) (black e) (told_cell a).0 (told_cell b).0 (told_cell c).0 (told_cell d).0
    (told_cell e).0 in
    let freed = bits_of (none a) (none b) (none c) (none d) (none e) (told_cell a).1 (told_cell b).1 (told_cell c).1 (told_cell d).1
    (told_cell e).1 in
    let cell = λ (k : ℕ) (x : Cell) (p : bit_at own k ≡ black x) (q : bit_at free k ≡ none x).
    ap (λ n. cell_of_bits n (bit_at free k)) p ∙ ap (cell_of_bits (black x)) q ∙ (told_cell x).2 in
    same_five _ _ _ _ _ a b c d e
    (cell 0 a (ap (λ n. bit_at n 0) f ∙ owned.0) (ap (λ n. bit_at n 0) g ∙ freed.0))
    (cell 1 b (ap (λ n. bit_at n 1) f ∙ owned.1) (ap (λ n. bit_at n 1) g ∙ freed.1))
    (cell 2 c (ap (λ n. bit_at n 2) f ∙ owned.2) (ap (λ n. bit_at n 2) g ∙ freed.2))
    (cell 3 d (ap (λ n. bit_at n 3) f ∙ owned.3) (ap (λ n. bit_at n 3) g ∙ freed.3))
    (cell 4 e (ap (λ n. bit_at n 4) f ∙ owned.4) (ap (λ n. bit_at n 4) g ∙ freed.4))
