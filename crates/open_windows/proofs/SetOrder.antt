-- The points of a set row by row, and by the lowest bit of a row.
use Rattle.std.proofs.Common.{rules, ◌≡◌, ◌≢◌, ◌&&◌, inl, inr, ℕ, zero, suc, ◌+◌, ◌-◌, ◌^◌, ◌≤◌, ◌<◌, min, Bool, true, false, nat_eq}
use Rattle.std.proofs.Common.{refl, sym, ap, subst, ◌∙◌, arith, List, [], ◌∷◌, ◌++◌, bit_and}
use Rattle.std.specs.Prelude.{slice_index_or, bit_xor}
use Rattle.std.specs.Int.{bit_at, trailing_zeros, w32}
use Rattle.std.specs.List.{filter, flat_map, range_with_len}
use Rattle.std.proofs.lemmas.Bool.{cases_eq, cases_lt}
use Rattle.std.proofs.lemmas.Bool.Decides.{nat_tests}
use Rattle.std.proofs.lemmas.List.Elements.{filter-append}
use Rattle.std.proofs.lemmas.Nat.{and_le_r, pow_below, pow_pos, xor_lt}
use Rattle.std.proofs.lemmas.Nat.Bits.{bit_at_and, bit_at_xor, bit_at-lt, bit_at-zero, bit_at_ones, bit_at_above, bit_at-pow_same}
use Rattle.std.proofs.lemmas.Nat.Bits.{bit_at-pow_other}
use Rattle.std.proofs.lemmas.Nat.Bits.{bit_at-trailing_zeros}
use Rattle.game_rules.proofs.Common.{Grid, IsBoard, is_on, row_from, points_of}
use Rattle.game_rules.specs.declared.Point.{Point}
use Rattle.game_rules.specs.declared.Side.{Side}
use Rattle.game_rules.proofs.PointLists.{filter-both}
use Rattle.game_rules.proofs.ReadingOrder.{rows_from-first}
use Rattle.open_windows.specs.OpenWindows.{in_window}
use Rattle.open_windows.specs.PointSets.{has_point, points_from, set_points, IsRowLeft, IsFirstRow, TellsWindows}

abbrev is_set : ℕ → Point → Bool
is_set bits p = nat_eq (bit_at bits p.x) 1

-- two tests that are the same in a part of a row
row-same : (f g : Point → Bool) (y a n : ℕ) → ((x : ℕ) → a ≤ x → x < a + n → f (record { x = x; y = y }) ≡ g (record { x = x; y = y }))
    → filter f (row_from y a n) ≡ filter g (row_from y a n)
row-same f g y a zero h = refl
row-same f g y a (suc n) h =
    let head = h a (omega arith) (omega arith) in
    let rest = row-same f g y (a + 1) n (λ x low high. h x (omega (arith, low)) (omega (arith, high))) in
    rw (head, rest) refl

is_one : (m : ℕ) → m ≡ 1 → nat_eq m 1 ≡ true
is_one m h = rw h refl

is_none : (m : ℕ) → m ≡ 0 → nat_eq m 1 ≡ false
is_none m h = rw h refl

-- the first point of a row is that of its lowest bit, and the others are those of the number without it
module _ (y bits x : ℕ) (one : bit_at bits x ≡ 1) (low : (j : ℕ) → j < x → bit_at bits j ≡ 0) where
  abbrev rest : ℕ
  rest = bit_xor bits (2 ^ x)

  else_same : (j : ℕ) → j ≢ x → bit_at rest j ≡ bit_at bits j
  else_same j differ =
      let other = bit_at-pow_other x j differ in let small = bit_at-lt bits j in
      bit_at_xor bits (2 ^ x) j ∙ omega (arith, other, small)

  gone : bit_at rest x ≡ 0
  gone = let same = bit_at-pow_same x in bit_at_xor bits (2 ^ x) x ∙ omega (arith, same, one)

  pub row-lowest : (a n : ℕ) → a ≤ x → x < a + n
      → filter (is_set bits) (row_from y a n) ≡ record { x = x; y = y } ∷ filter (is_set rest) (row_from y a n)
  row-lowest a zero before after = absurd (omega (arith, before, after))
  row-lowest a (suc n) before after = elim (cases_eq a x) [
    | inl here ↦
        let head : is_set bits (record { x = a; y = y }) ≡ true = is_one _ (ap (bit_at bits) here ∙ one) in
        let dropped : is_set rest (record { x = a; y = y }) ≡ false = is_none _ (ap (bit_at rest) here ∙ gone) in
        let others = row-same (is_set bits) (is_set rest) y (a + 1) n (λ j above below. ap (λ m. nat_eq m 1)
        (sym (else_same j (λ same. absurd (omega (arith, above, same, here)))))) in
        let point : record { x = a; y = y } ≡ record { x = x; y = y } = ap (λ m. record { x = m; y = y }) here in
        rw (head, dropped, others) (ap (λ (p : Point). p ∷ filter (is_set rest) (row_from y (a + 1) n)) point)
    | inr differ ↦
        let none = low a (omega (arith, before, differ)) in
        let head : is_set bits (record { x = a; y = y }) ≡ false = is_none _ none in
        let dropped : is_set rest (record { x = a; y = y }) ≡ false = is_none _ (else_same a differ ∙ none) in
        rw (head, dropped) (row-lowest (a + 1) n (omega (arith, before, differ)) (omega (arith, after)))
  ]

-- ---- rows

-- a row by the bits of its number that are on the board has the points of the set
row_is : (rows : List ℕ) (width y a n : ℕ) → a + n ≤ width
    → filter (is_set (bit_and (slice_index_or rows y 0) (2 ^ width - 1))) (row_from y a n) ≡ filter (has_point rows) (row_from y a n)
row_is rows width y a n within = row-same _ _ y a n (λ x low high.
    let mask = bit_at_ones width x (omega (arith, high, within)) in
    let small = bit_at-lt (slice_index_or rows y 0) x in
    ap (λ m. nat_eq m 1) (bit_at_and (slice_index_or rows y 0) (2 ^ width - 1) x ∙ omega (arith, mask, small)))

no_row : (y a n : ℕ) → filter (is_set 0) (row_from y a n) ≡ []
no_row y a zero = refl
no_row y a (suc n) =
    let head : is_set 0 (record { x = a; y = y }) ≡ false = is_none _ (bit_at-zero a) in
    let rest = no_row y (a + 1) n in
    rw (head, rest) refl

module _ (rows : List ℕ) (width height : ℕ) where
  -- the points of the rows from y on are those of its bits and of the rows after it
  pub from-row : (y : ℕ) → y < height
      → points_from rows width height y ≡ set_points rows width height y (bit_and (slice_index_or rows y 0) (2 ^ width - 1))
  unfolding set_points
  from-row y row =
      ap (filter (has_point rows)) (rows_from-first width y (height - y) (height - (y + 1)) (omega (arith, row)))
      ∙ filter-append (has_point rows) (row_from y 0 width) (flat_map (λ z. row_from z 0 width) (range_with_len (y + 1) (height - (y + 1))))
      ∙ ap (λ (ps : List Point). ps ++ points_from rows width height (y + 1)) (sym (row_is rows width y 0 width (omega arith)))

  pub no-bits : (y : ℕ) → set_points rows width height y 0 ≡ points_from rows width height (y + 1)
  unfolding set_points
  no-bits y = rw (no_row y 0 width) refl

  pub past-rows : (y : ℕ) → height ≤ y → points_from rows width height y ≡ []
  past-rows y past = let none : height - y ≡ 0 = omega (arith, past) in rw none refl

  pub next-point : (y bits x : ℕ) → bit_at bits x ≡ 1 → ((j : ℕ) → j < x → bit_at bits j ≡ 0) → x < width
      → set_points rows width height y bits ≡ record { x = x; y = y } ∷ set_points rows width height y (bit_xor bits (2 ^ x))
  unfolding set_points
  next-point y bits x one low within =
      ap (λ (ps : List Point). ps ++ points_from rows width height (y + 1))
      (row-lowest y bits x one low 0 width (omega arith) (omega (arith, within)))

  -- the lowest bit of a row that has one
  pub lowest : (bits : ℕ) → width ≤ 32 → 0 < bits → bits < 2 ^ width → (trailing_zeros w32 bits < width)
      × (bit_at bits (trailing_zeros w32 bits) ≡ 1) × ((j : ℕ) → j < trailing_zeros w32 bits → bit_at bits j ≡ 0)
  lowest bits wide some fits =
      let below : bits < 2 ^ 32 = elim (cases_lt width 32) [
        | inl less ↦ let more = pow_below width 32 less in omega (arith, fits, more)
        | inr all ↦ let same : width ≡ 32 = omega (arith, wide, all) in subst (λ (w : ℕ). bits < 2 ^ w) same fits
      ] in
      let found = bit_at-trailing_zeros w32 bits some below in
      let one = found.1 in (
        elim (cases_lt (trailing_zeros w32 bits) width) [
          | inl less ↦ less
          | inr past ↦ let none = bit_at_above bits width (trailing_zeros w32 bits) fits past in absurd (omega (arith, none, one))
        ],
        one,
        found.2,
      )

-- from the first row on all points of the set on the board are left
pub all-points : (rows : List ℕ) (b : Grid) → IsBoard b → (width height full : ℕ) → width ≡ b.width → height ≡ b.height
    → full ≡ 2 ^ width - 1 → (seen : List ℕ) → rows ≡ seen
    → set_points rows width height 0 (bit_and (slice_index_or rows 0 0) full) ≡ filter (has_point seen) (points_of b)
all-points rows b ok width height full wide high mask seen same =
    let row : 0 < height = let least = ok.high in omega (arith, least, high) in
    let whole : height - 0 ≡ height = omega arith in
    ap (λ m. set_points rows width height 0 (bit_and (slice_index_or rows 0 0) m)) mask
    ∙ sym (from-row rows width height 0 row)
    ∙ ap (λ n. filter (has_point rows) (flat_map (λ z. row_from z 0 width) (range_with_len 0 n))) (whole ∙ high)
    ∙ ap (λ n. filter (has_point rows) (flat_map (λ z. row_from z 0 n) (range_with_len 0 b.height))) wide
    ∙ ap (λ (seen : List ℕ). filter (has_point seen) (points_of b)) same

-- the first point left is that of the lowest bit of the first row with a point
pub first-point : (rows : List ℕ) (width height y bits z more power : ℕ) → IsFirstRow rows width height y bits z more
    → power ≡ 2 ^ trailing_zeros w32 more
    → (set_points rows width height y bits
    ≡ record { x = trailing_zeros w32 more; y = z } ∷ set_points rows width height z (bit_xor more power))
    × IsRowLeft width height z (bit_xor more power)
first-point rows width height y bits z more power first is =
    let left = first.left in
    let low = lowest rows width height more left.width_fits first.some left.bits_fit in
    let fits = xor_lt width more (2 ^ trailing_zeros w32 more) left.bits_fit (pow_below (trailing_zeros w32 more) width low.0) in (
      first.same ∙ next-point rows width height z more (trailing_zeros w32 more) low.1 low.2 low.0
          ∙ ap (λ n. record { x = trailing_zeros w32 more; y = z } ∷ set_points rows width height z (bit_xor more n)) (sym is),
      record {
        some = left.some;
        width_fits = left.width_fits;
        height_fits = left.height_fits;
        row = left.row;
        bits_fit = subst (λ n. bit_xor more n < 2 ^ width) (sym is) fits;
      },
    )

-- a row with a point, where the rows before it have none
pub row-found : (rows : List ℕ) (width height y bits full z : ℕ) → IsRowLeft width height y bits → bits ≡ 0 → full ≡ 2 ^ width - 1
    → points_from rows width height (y + 1) ≡ points_from rows width height z → z < height → bit_and (slice_index_or rows z 0) full ≢ 0
    → IsFirstRow rows width height y bits z (bit_and (slice_index_or rows z 0) full)
row-found rows width height y bits full z left none mask passed low some = record {
  left = record {
    some = left.some;
    width_fits = left.width_fits;
    height_fits = left.height_fits;
    row = low;
    bits_fit = let small = and_le_r (slice_index_or rows z 0) full in let more = pow_pos width in omega (arith, small, mask, more);
  };
  some = omega (arith, some);
  same = ap (set_points rows width height y) none ∙ no-bits rows width height y ∙ passed ∙ from-row rows width height z low
      ∙ ap (λ m. set_points rows width height z (bit_and (slice_index_or rows z 0) m)) (sym mask);
}

-- a row without a point is passed over
pub row-passed : (rows : List ℕ) (width height full z : ℕ) → full ≡ 2 ^ width - 1 → z < height → bit_and (slice_index_or rows z 0) full ≡ 0
    → points_from rows width height z ≡ points_from rows width height (z + 1)
row-passed rows width height full z mask low none =
    from-row rows width height z low ∙ ap (λ m. set_points rows width height z (bit_and (slice_index_or rows z 0) m)) (sym mask)
    ∙ ap (set_points rows width height z) none ∙ no-bits rows width height z

-- ---- the points of windows in their order

rows-same : (f g : Point → Bool) (width y n : ℕ) → ((p : Point) → p.x < width → p.y < y + n → f p ≡ g p)
    → filter f (flat_map (λ z. row_from z 0 width) (range_with_len y n)) ≡ filter g
    (flat_map (λ z. row_from z 0 width) (range_with_len y n))
rows-same f g width y zero h = refl
rows-same f g width y (suc n) h =
    let more : List Point = flat_map (λ z. row_from z 0 width) (range_with_len (y + 1) n) in
    let first = row-same f g y 0 width (λ x low high. h (record { x = x; y = y }) (omega (arith, high)) (omega arith)) in
    let rest = rows-same f g width (y + 1) n (λ p column row. h p column (omega (arith, row))) in
    filter-append f (row_from y 0 width) more ∙ ap (λ (ps : List Point). ps ++ filter f more) first
    ∙ ap (λ (ps : List Point). filter g (row_from y 0 width) ++ ps) rest ∙ sym (filter-append g (row_from y 0 width) more)

-- two tests that are the same on the points of a board pass the same of them
pub filter-on : (b : Grid) (f g : Point → Bool) → ((p : Point) → is_on b p ≡ true → f p ≡ g p)
    → filter f (points_of b) ≡ filter g (points_of b)
filter-on b f g same = rows-same f g b.width 0 b.height (λ p column row. same p (on p column (omega (arith, row)))) where
  on : (p : Point) → p.x < b.width → p.y < b.height → is_on b p ≡ true
  on p column row = grind (arith, nat_tests)

-- what is found in windows alone is found among the points of the set
pub filter-windows : (b : Grid) (s : Side) (least : ℕ) (rows : List ℕ) → TellsWindows b s least rows → (f : Point → Bool)
    → ((p : Point) → f p ≡ true → in_window b s least p ≡ true) → filter f (filter (has_point rows) (points_of b)) ≡ filter f (points_of b)
filter-windows b s least rows tells f inside =
    sym (filter-both (has_point rows) f (points_of b))
    ∙ filter-on b (λ p. has_point rows p && f p) f (λ p there. by_test (has_point rows p) (f p)
    (λ h. tells.points p there ∙ inside p h)) where
      by_test : (r t : Bool) → (t ≡ true → r ≡ true) → (r && t) ≡ t
      by_test r t h = search rules

-- ---- the points of two sets

both_bits : (n m : ℕ) → n < 2 → m < 2 → nat_eq (min n m) 1 ≡ (nat_eq n 1 && nat_eq m 1)
both_bits zero m low less = search rules
both_bits (suc zero) zero low less = refl
both_bits (suc zero) (suc zero) low less = refl
both_bits (suc zero) (suc (suc m)) low less = absurd (omega (arith, less))
both_bits (suc (suc n)) m low less = absurd (omega (arith, low))

shared_bit : (n m x : ℕ) → nat_eq (bit_at (bit_and n m) x) 1 ≡ (nat_eq (bit_at n x) 1 && nat_eq (bit_at m x) 1)
shared_bit n m x = ap (λ k. nat_eq k 1) (bit_at_and n m x) ∙ both_bits (bit_at n x) (bit_at m x) (bit_at-lt n x) (bit_at-lt m x)

-- of the points left those of another set too are left, where the numbers of the rows have the bits of both
pub points-kept : (rows set shared : List ℕ) (width height y bits : ℕ) → IsRowLeft width height y bits
    → ((z : ℕ) → z < 32 → slice_index_or shared z 0 ≡ bit_and (slice_index_or rows z 0) (slice_index_or set z 0))
    → set_points shared width height y (bit_and bits (slice_index_or set y 0)) ≡ filter (has_point set) (set_points rows width height y bits)
unfolding set_points
points-kept rows set shared width height y bits left both =
    ap (λ (ps : List Point). ps ++ points_from shared width height (y + 1)) first
    ∙ ap (λ (ps : List Point). filter (has_point set) (filter (is_set bits) (row_from y 0 width)) ++ ps) others
    ∙ sym (filter-append (has_point set) (filter (is_set bits) (row_from y 0 width)) (points_from rows width height (y + 1))) where
      first : filter (is_set (bit_and bits (slice_index_or set y 0))) (row_from y 0 width)
          ≡ filter (has_point set) (filter (is_set bits) (row_from y 0 width))
      first = row-same _ (λ p. is_set bits p && has_point set p) y 0 width (λ x low high. shared_bit bits (slice_index_or set y 0) x)
          ∙ filter-both (is_set bits) (has_point set) (row_from y 0 width)

      others : points_from shared width height (y + 1) ≡ filter (has_point set) (points_from rows width height (y + 1))
      others = rows-same (has_point shared) (λ p. has_point rows p && has_point set p) width (y + 1) (height - (y + 1))
          (λ p column row. let row_fits = left.row in let fits = left.height_fits in
          ap (λ n. nat_eq (bit_at n p.x) 1) (both p.y (omega (arith, row, row_fits, fits)))
          ∙ shared_bit (slice_index_or rows p.y 0) (slice_index_or set p.y 0) p.x)
          ∙ filter-both (has_point rows) (has_point set) _
