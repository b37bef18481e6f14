-- The law of reach: the shape of the code of a line is the one that a stone makes there.
use Rattle.std.proofs.Common.{◌≡◌, ◌≢◌, ℕ, zero, suc, ◌+◌, ◌-◌, ◌*◌, ◌/◌, ◌%◌, ◌≤◌, ◌<◌, Bool}
use Rattle.std.proofs.Common.{true, false, cond, List, [], ◌∷◌, ◌++◌, refl, sym, ap, subst, ◌∙◌, arith, nat_eq, length}
use Rattle.std.proofs.Common.{Option, Some, None, map, replicate}
use Rattle.game_rules.proofs.Common.{Grid, IsBoard, is_on, is_empty, is_empty_cell, is_stone_of, holds, put, along, row_wins, stone_at, go}
use Rattle.game_rules.specs.declared.RuleKind.{RuleKind}
use Rattle.game_rules.specs.declared.Side.{Side}
use Rattle.game_rules.specs.declared.Axis.{Axis}
use Rattle.game_rules.specs.declared.Point.{Point}
use Rattle.game_rules.specs.declared.Way.{Way}
use Rattle.game_rules.specs.declared.RuleKind.TheVariants.{Freestyle, Exact, Renju}
use Rattle.game_rules.specs.declared.Side.TheVariants.{Black, White}
use Rattle.game_rules.specs.declared.Axis.TheVariants.{Row}
use Rattle.game_rules.specs.declared.Cell.TheVariants.{Empty}
use Rattle.game_rules.specs.declared.Way.TheVariants.{Ahead, Behind}
use Rattle.game_rules.proofs.Boards.{is_empty-on, is_empty-put, empty_holds, holds-put_same}
use Rattle.game_rules.proofs.Positions.{IsBoard-put}
use Rattle.game_rules.proofs.Lines.{along-same}
use Rattle.game_rules.proofs.Ways.{go-zero, go-apart, else_at}
use Rattle.row_shapes.proofs.Common.{digit_at, from_digits, first_digits, places_beside, line_code, LawOfReach, IsShape, cell_of_digit}
use Rattle.row_shapes.proofs.Common.{line_cells, middle, stone_shape, shape_at, shape_of, free_at}
use Rattle.row_shapes.proofs.Alike.{wins_by, wins-reach, wins-line, Alike, Both, five-alike, over-alike, straight-alike, three-alike}
use Rattle.row_shapes.proofs.AlikeFours.{fours-alike}

-- ---- what a digit tells

free_by : (t u : Bool) → t ≡ nat_eq (cond t 0 (cond u 1 2)) 0
free_by true u = refl
free_by false true = refl
free_by false false = refl

stone_by : (t u : Bool) → (t ≡ true → u ≡ false) → u ≡ nat_eq (cond t 0 (cond u 1 2)) 1
stone_by true u h = h refl
stone_by false true h = refl
stone_by false false h = refl

low_by : (t u : Bool) → cond t 0 (cond u 1 2) < 3
low_by true u = omega arith
low_by false true = omega arith
low_by false false = omega arith

digit_free : (b : Grid) (s : Side) (o : Option Point) → free_at b o ≡ nat_eq (digit_at b s o) 0
unfolding digit_at
digit_free b s None = refl
digit_free b s (Some q) = free_by (is_empty b q) (holds b s q)

digit_stone : (b : Grid) (s : Side) (o : Option Point) → stone_at b s o ≡ nat_eq (digit_at b s o) 1
unfolding digit_at
digit_stone b s None = refl
digit_stone b s (Some q) = stone_by (is_empty b q) (holds b s q) (empty_holds b s q)

pub digit_low : (b : Grid) (s : Side) (o : Option Point) → digit_at b s o < 3
unfolding digit_at
digit_low b s None = omega arith
digit_low b s (Some q) = low_by (is_empty b q) (holds b s q)

-- ---- lines with the same digits

module _ (r : ℕ) (b c : Grid) (s t : Side) (d e : Axis) (p q : Point)
    (same : (i : ℕ) → i < 2 * r + 1 → i ≢ r → digit_at b s (along d p i r) ≡ digit_at c t (along e q i r)) where
  digits_at : (w : Way) (k : ℕ) → 1 ≤ k → k ≤ r → digit_at b s (go w d p k 0) ≡ digit_at c t (go w e q k 0)
  digits_at Ahead k low high = ap (digit_at b s) (along-same d p k 0 (r + k) r (omega arith))
      ∙ same (r + k) (omega arith) (λ f. absurd (omega arith)) ∙ ap (digit_at c t) (along-same e q (r + k) r k 0 (omega arith))
  digits_at Behind k low high = ap (digit_at b s) (along-same d p 0 k (r - k) r (omega arith))
      ∙ same (r - k) (omega arith) (λ f. absurd (omega arith)) ∙ ap (digit_at c t) (along-same e q (r - k) r 0 k (omega arith))

  digits-Alike : Alike r b c s t d e p q
  digits-Alike = record {
    stones = λ w k low high. digit_stone b s (go w d p k 0) ∙ ap (λ n. nat_eq n 1) (digits_at w k low high)
        ∙ sym (digit_stone c t (go w e q k 0));
    frees = λ w k low high. digit_free b s (go w d p k 0) ∙ ap (λ n. nat_eq n 0) (digits_at w k low high)
        ∙ sym (digit_free c t (go w e q k 0));
  }

-- a stone in the middle changes no neighbour
module _ (b : Grid) (s : Side) (d : Axis) (p : Point) (on : is_on b p ≡ true) (w : Way) (k : ℕ) (low : 1 ≤ k) where
  stone_beside : stone_at (put b s p) s (go w d p k 0) ≡ stone_at b s (go w d p k 0)
  stone_beside = else_at b s w d p p 0 0 k 0 on (go-zero w d p) (λ f. absurd (omega arith))

  free_beside : free_at (put b s p) (go w d p k 0) ≡ free_at b (go w d p k 0)
  free_beside = by_point (go w d p k 0) refl where
    by_point : (o : Option Point) → go w d p k 0 ≡ o → free_at (put b s p) o ≡ free_at b o
    by_point None h = refl
    by_point (Some x) h = is_empty-put b s p x on (go-apart w d p p x 0 0 k 0 (go-zero w d p) h (λ f. absurd (omega arith)))

Alike-put : (r : ℕ) (b c : Grid) (s t : Side) (d e : Axis) (p q : Point) → is_on b p ≡ true → is_on c q ≡ true → Alike r b c s t d e p q
    → Alike r (put b s p) (put c t q) s t d e p q
Alike-put r b c s t d e p q on on' alike = record {
  stones = λ w k low high. stone_beside b s d p on w k low ∙ alike.stones w k low high ∙ sym (stone_beside c t e q on' w k low);
  frees = λ w k low high. free_beside b s d p on w k low ∙ alike.frees w k low high ∙ sym (free_beside c t e q on' w k low);
}

same_shape : (r : ℕ) (rule kind : RuleKind) (b c : Grid) (s t : Side) (d e : Axis) (p q : Point) → Both r rule kind b c s t d e p q
    → IsShape r (stone_shape kind c t e q) (stone_shape rule b s d p)
same_shape r rule kind b c s t d e p q both = record {
  five = sym (five-alike r rule kind b c s t d e p q both);
  over = λ f. sym (over-alike r rule kind b c s t d e p q both f);
  fours = sym (fours-alike r rule kind b c s t d e p q both);
  straight = sym (straight-alike r rule kind b c s t d e p q both);
  three = sym (three-alike r rule kind b c s t d e p q both);
}

digits_shape : (r : ℕ) (rule kind : RuleKind) (b c : Grid) (s t : Side) (d e : Axis) (p q : Point) → 4 ≤ r → r ≤ 5 → IsBoard b → IsBoard c
    → is_empty b p ≡ true → is_empty c q ≡ true →
    ((n : ℕ) → row_wins rule s n ≡ wins_by r n) → ((n : ℕ) → row_wins kind t n ≡ wins_by r n) →
    ((i : ℕ) → i < 2 * r + 1 → i ≢ r → digit_at b s (along d p i r) ≡ digit_at c t (along e q i r)) →
    IsShape r (stone_shape kind (put c t q) t e q) (stone_shape rule (put b s p) s d p)
digits_shape r rule kind b c s t d e p q low high ok fine empty free reads tells same =
    same_shape r rule kind (put b s p) (put c t q) s t d e p q (record {
      low = low;
      high = high;
      ok = IsBoard-put b s p ok;
      fine = IsBoard-put c t q fine;
      mine = holds-put_same b s p ok (is_empty-on b p empty);
      own = holds-put_same c t q fine (is_empty-on c q free);
      reads = reads;
      tells = tells;
      alike = Alike-put r b c s t d e p q (is_empty-on b p empty) (is_empty-on c q free) (digits-Alike r b c s t d e p q same);
    })

-- ---- digits of a number

abbrev AllLow : List ℕ → Type 0
AllLow [] = Unit {0}
AllLow (x ∷ xs) = (x < 3) × AllLow xs

low_map : (f : ℕ → ℕ) → ((i : ℕ) → f i < 3) → (xs : List ℕ) → AllLow (map f xs)
low_map f low [] = tt
low_map f low (x ∷ xs) = (low x, low_map f low xs)

rem_three : (x m : ℕ) → x < 3 → (x + 3 * m) % 3 ≡ x
rem_three x m h = omega arith

div_three : (x m : ℕ) → x < 3 → (x + 3 * m) / 3 ≡ m
div_three x m h = omega arith

digits_back : (ds : List ℕ) → AllLow ds → first_digits (length ds) (from_digits ds) ≡ ds
digits_back [] h = refl
digits_back (x ∷ xs) h = rw (rem_three x (from_digits xs) h.0, div_three x (from_digits xs) h.0, digits_back xs h.1) refl

-- ---- the board of one line

cell_digit : (n : ℕ) → n < 3 → cond (is_empty_cell (cell_of_digit n)) 0 (cond (is_stone_of Black (cell_of_digit n)) 1 2) ≡ n
cell_digit zero h = refl
cell_digit (suc zero) h = refl
cell_digit (suc (suc zero)) h = refl
cell_digit (suc (suc (suc n))) h = absurd (omega arith)

abbrev board_of : ℕ → List ℕ → Grid
board_of r ds = record { width = 2 * r + 1; height = 5; cells = line_cells r ds ++ replicate (4 * (2 * r + 1)) Empty }

module _ (f : ℕ → ℕ) (low : (i : ℕ) → f i < 3) where
  line_four : (i : ℕ) → i < 9 → i ≢ 4 → digit_at (board_of 4 (map f (places_beside 4))) Black (along Row (middle 4) i 4) ≡ f i
  unfolding digit_at
  line_four zero x y = cell_digit (f 0) (low 0)
  line_four (suc zero) x y = cell_digit (f 1) (low 1)
  line_four (suc (suc zero)) x y = cell_digit (f 2) (low 2)
  line_four (suc (suc (suc zero))) x y = cell_digit (f 3) (low 3)
  line_four (suc (suc (suc (suc zero)))) x y = absurd (y refl)
  line_four (suc (suc (suc (suc (suc zero))))) x y = cell_digit (f 5) (low 5)
  line_four (suc (suc (suc (suc (suc (suc zero)))))) x y = cell_digit (f 6) (low 6)
  line_four (suc (suc (suc (suc (suc (suc (suc zero))))))) x y = cell_digit (f 7) (low 7)
  line_four (suc (suc (suc (suc (suc (suc (suc (suc zero)))))))) x y = cell_digit (f 8) (low 8)
  line_four (suc (suc (suc (suc (suc (suc (suc (suc (suc n))))))))) x y = absurd (omega arith)

  line_five : (i : ℕ) → i < 11 → i ≢ 5 → digit_at (board_of 5 (map f (places_beside 5))) Black (along Row (middle 5) i 5) ≡ f i
  unfolding digit_at
  line_five zero x y = cell_digit (f 0) (low 0)
  line_five (suc zero) x y = cell_digit (f 1) (low 1)
  line_five (suc (suc zero)) x y = cell_digit (f 2) (low 2)
  line_five (suc (suc (suc zero))) x y = cell_digit (f 3) (low 3)
  line_five (suc (suc (suc (suc zero)))) x y = cell_digit (f 4) (low 4)
  line_five (suc (suc (suc (suc (suc zero))))) x y = absurd (y refl)
  line_five (suc (suc (suc (suc (suc (suc zero)))))) x y = cell_digit (f 6) (low 6)
  line_five (suc (suc (suc (suc (suc (suc (suc zero))))))) x y = cell_digit (f 7) (low 7)
  line_five (suc (suc (suc (suc (suc (suc (suc (suc zero)))))))) x y = cell_digit (f 8) (low 8)
  line_five (suc (suc (suc (suc (suc (suc (suc (suc (suc zero))))))))) x y = cell_digit (f 9) (low 9)
  line_five (suc (suc (suc (suc (suc (suc (suc (suc (suc (suc zero)))))))))) x y = cell_digit (f 10) (low 10)
  line_five (suc (suc (suc (suc (suc (suc (suc (suc (suc (suc (suc n))))))))))) x y = absurd (omega arith)

  board_four : IsBoard (board_of 4 (map f (places_beside 4)))
  board_four = record { wide = omega arith; width_fits = omega arith; high = omega arith; height_fits = omega arith; filled = refl }

  board_five : IsBoard (board_of 5 (map f (places_beside 5)))
  board_five = record { wide = omega arith; width_fits = omega arith; high = omega arith; height_fits = omega arith; filled = refl }

module _ (rule : RuleKind) (b : Grid) (s : Side) (d : Axis) (p : Point) (ok : IsBoard b) (empty : is_empty b p ≡ true) where
  law_four : ((n : ℕ) → row_wins rule s n ≡ wins_by 4 n) → IsShape 4 (shape_of 4 (line_code 4 b s d p)) (shape_at rule b s d p)
  unfolding shape_of shape_at line_code
  law_four reads =
      let f : ℕ → ℕ = λ i. digit_at b s (along d p i 4) in
      let low : (i : ℕ) → f i < 3 = λ i. digit_low b s (along d p i 4) in
      let ds : List ℕ = map f (places_beside 4) in
      let P : List ℕ → Type 0 = λ ds. IsShape 4 (stone_shape Freestyle (put (board_of 4 ds) Black (middle 4)) Black Row (middle 4))
      (stone_shape rule (put b s p) s d p) in
      let told : P ds = digits_shape 4 rule Freestyle b (board_of 4 ds) s Black d Row p (middle 4) (omega arith) (omega arith) ok
      (board_four f low) empty refl reads (wins-line 4) (λ i x y. sym (line_four f low i x y)) in
      subst P (sym (digits_back ds (low_map f low (places_beside 4)))) told

  law_five : ((n : ℕ) → row_wins rule s n ≡ wins_by 5 n) → IsShape 5 (shape_of 5 (line_code 5 b s d p)) (shape_at rule b s d p)
  unfolding shape_of shape_at line_code
  law_five reads =
      let f : ℕ → ℕ = λ i. digit_at b s (along d p i 5) in
      let low : (i : ℕ) → f i < 3 = λ i. digit_low b s (along d p i 5) in
      let ds : List ℕ = map f (places_beside 5) in
      let P : List ℕ → Type 0 = λ ds. IsShape 5 (stone_shape Exact (put (board_of 5 ds) Black (middle 5)) Black Row (middle 5))
      (stone_shape rule (put b s p) s d p) in
      let told : P ds = digits_shape 5 rule Exact b (board_of 5 ds) s Black d Row p (middle 5) (omega arith) (omega arith) ok
      (board_five f low) empty refl reads (wins-line 5) (λ i x y. sym (line_five f low i x y)) in
      subst P (sym (digits_back ds (low_map f low (places_beside 5)))) told

pub reach_law : LawOfReach
reach_law Freestyle b s d p ok empty = law_four Freestyle b s d p ok empty (wins-reach Freestyle s)
reach_law Exact b s d p ok empty = law_five Exact b s d p ok empty (wins-reach Exact s)
reach_law Renju b Black d p ok empty = law_five Renju b Black d p ok empty (wins-reach Renju Black)
reach_law Renju b White d p ok empty = law_four Renju b White d p ok empty (wins-reach Renju White)
