-- Points in reading order: rows of points, and lists whose points come one after another.
use Rattle.std.proofs.Common.{◌≡◌, ℕ, suc, ◌+◌, refl, ◌∷◌, List, ◌++◌, ◌⊎◌, ◌≤◌, ◌<◌, [], inr, arith, zero, Bool, true, false, nat_lt}
use Rattle.std.proofs.Common.{eq-eqb, ◌*◌, length, ◌∙◌, ap, ◌/◌, ◌%◌, rules, flat_map, filter, sum_by, slice_index_or}
use Rattle.std.specs.List.{range_with_len, list_all, AllByRecursion}
use Rattle.std.proofs.lemmas.Bool.Decides.{nat_tests}
use Rattle.std.proofs.lemmas.Bool.{or_right, lt-ltb}
use Rattle.std.proofs.lemmas.List.Sums.{sum_by-cons}
use Rattle.std.proofs.Math.Nat.{div-lt_iff_lt-mul}
use Rattle.game_rules.proofs.Common.{row_from, Grid, points_of, is_on, IsBoard, is_empty, is_empty_cell, cell_at, empties_of, precedes}
use Rattle.game_rules.proofs.Common.{is_same_point, Point, Empty}
use Rattle.game_rules.proofs.PointLists.{sum-ones, each-append}
use Rattle.game_rules.proofs.Points.{is_same_point-same}
use Rattle.game_rules.proofs.Cells.{some_place}

pub row_from-first : (y x n m : ℕ) → n ≡ suc m → row_from y x n ≡ record { x = x; y = y } ∷ row_from y (x + 1) m
row_from-first y x n m e = rw e refl

abbrev pub rows_from : ℕ → ℕ → ℕ → List Point
rows_from width y n = flat_map (λ y. row_from y 0 width) (range_with_len y n)

pub rows_from-first : (width y n m : ℕ) → n ≡ suc m → rows_from width y n ≡ row_from y 0 width ++ rows_from width (y + 1) m
rows_from-first width y n m e = rw e refl

-- p is at x of row y, or after it
abbrev pub From : ℕ → ℕ → Point → Type 0
From y x p = (y < p.y) ⊎ ((y ≡ p.y) × (x ≤ p.x))

-- the points come one after another in reading order, from x of row y on
unfoldable pub Following : ℕ → ℕ → List Point → Type 0
Following y x [] = Unit {0}
Following y x (p ∷ ps) = From y x p × Following p.y (p.x + 1) ps

from_row : (y x : ℕ) (p : Point) → From (y + 1) 0 p → From y x p
from_row y x p h = search rules

Following-row : (y x : ℕ) (ps : List Point) → Following (y + 1) 0 ps → Following y x ps
unfolding Following
Following-row y x [] h = h
Following-row y x (p ∷ ps) h = (from_row y x p h.0, h.1)

row-following : (y x n : ℕ) (ps : List Point) → Following (y + 1) 0 ps → Following y x (row_from y x n ++ ps)
unfolding Following
row-following y x zero ps h = Following-row y x ps h
row-following y x (suc n) ps h = (inr (refl, omega arith), row-following y (x + 1) n ps h)

pub rows-following : (w y n : ℕ) → Following y 0 (flat_map (λ z. row_from z 0 w) (range_with_len y n))
unfolding Following
rows-following w y zero = tt
rows-following w y (suc n) = row-following y 0 w _ (rows-following w (y + 1) n)

pub later : (p q : Point) → From p.y (p.x + 1) q → (y x : ℕ) → From y x p → From y x q
later p q h y x k = search rules

-- points that follow a later one follow the earlier one too
pub Following-later : (y x : ℕ) (p : Point) (ps : List Point) → From y x p → Following p.y (p.x + 1) ps → Following y x ps
unfolding Following
Following-later y x p [] h k = k
Following-later y x p (q ∷ ps) h k = (later p q k.0 y x h, k.1)

-- and so do those of them that pass a test
pub filter-following : (f : Point → Bool) (y x : ℕ) (ps : List Point) → Following y x ps → Following y x (filter f ps)
unfolding Following
filter-following f y x [] h = h
filter-following f y x (p ∷ ps) h = search (rules, Following-later, filter-following f p.y (p.x + 1) ps h.1)

pub precedes-from : (p q : Point) → From p.y (p.x + 1) q → precedes p q ≡ true
precedes-from p q h = search (rules, eq-eqb, or_right)

abbrev pub rows : ℕ → ℕ → ℕ → List Point
rows width a n = flat_map (λ y. row_from y 0 width) (range_with_len a n)

-- each point comes before all later ones
abbrev pub Rising : List Point → Type 0
Rising [] = Unit {0}
Rising (p ∷ ps) = (list_all (λ r. precedes p r) ps ≡ true) × Rising ps

all_later : (p : Point) (ps : List Point) → Following p.y (p.x + 1) ps → list_all (λ r. precedes p r) ps ≡ true
unfolding Following
all_later p [] h = refl
all_later p (q ∷ ps) h = rw (precedes-from p q h.0) (all_later p ps (Following-later p.y (p.x + 1) q ps h.0 h.1))

Following-rising : (y x : ℕ) (ps : List Point) → Following y x ps → Rising ps
unfolding Following
Following-rising y x [] h = tt
Following-rising y x (p ∷ ps) h = (all_later p ps h.1, Following-rising p.y (p.x + 1) ps h.1)

pub points-rising : (b : Grid) → Rising (points_of b)
points-rising b = Following-rising 0 0 (points_of b) (rows-following b.width 0 b.height)

pub precedes-not : (p q : Point) → precedes p q ≡ true → precedes q p ≡ false
precedes-not p q h = grind (arith, nat_tests)

not_itself : (q : Point) → precedes q q ≡ false
not_itself q = grind (arith, nat_tests)

pub differ-after : (p q : Point) → precedes q p ≡ true → is_same_point p q ≡ false
differ-after p q h = search (rules, is_same_point-same, not_itself)

not_after : (w q : Point) → From w.y (w.x + 1) q → is_same_point q w ≡ false
not_after w q h = search (rules, is_same_point-same)

module _ (f : Point → ℕ) (w : Point) (most : ℕ) (some : 1 ≤ most) (high : f w ≤ most)
    (each : (q : Point) → is_same_point q w ≡ false → f q ≤ 1) where
  after_w : (ps : List Point) → Following w.y (w.x + 1) ps → AllByRecursion (λ q. f q ≤ 1) ps
  unfolding Following
  after_w [] h = tt
  after_w (q ∷ ps) h = (each q (not_after w q h.0), after_w ps (Following-later w.y (w.x + 1) q ps h.0 h.1))

  sum-once-from : (y x : ℕ) (ps : List Point) → Following y x ps → sum_by f ps + 1 ≤ length ps + most
  unfolding Following
  sum-once-from y x [] h = omega arith
  sum-once-from y x (p ∷ ps) h = search (rules, is_same_point-same, sum-ones, after_w, sum_by-cons, sum-once-from p.y (p.x + 1) ps h.1)

  -- all but one are at most 1
  pub sum-once : (b : Grid) → sum_by f (points_of b) + 1 ≤ length (points_of b) + most
  sum-once b = sum-once-from 0 0 (points_of b) (rows-following b.width 0 b.height)

row-on : (b : Grid) (y : ℕ) → y < b.height → (n x : ℕ) → x + n ≤ b.width → AllByRecursion (λ q. is_on b q ≡ true) (row_from y x n)
row-on b y low zero x l = tt
row-on b y low (suc n) x l = search (rules, row-on b y low n (x + 1) (omega (arith, l)))

rows-on : (b : Grid) (n y : ℕ) → y + n ≤ b.height → AllByRecursion (λ q. is_on b q ≡ true)
    (flat_map (λ z. row_from z 0 b.width) (range_with_len y n))
rows-on b zero y l = tt
rows-on b (suc n) y l = each-append (λ q. is_on b q ≡ true) (row_from y 0 b.width) _ (row-on b y (omega (arith, l)) b.width 0 (omega arith))
    (rows-on b n (y + 1) (omega (arith, l)))

pub points-on : (b : Grid) → AllByRecursion (λ q. is_on b q ≡ true) (points_of b)
points-on b = rows-on b b.height 0 (omega arith)

pub some_empty : (b : Grid) → IsBoard b → 0 < empties_of b → (p : Point) × (is_empty b p ≡ true)
some_empty b ok some =
    let place = some_place is_empty_cell b.cells Empty some in
    let k : ℕ = place.0 in
    let p : Point = record { x = k % b.width; y = k / b.width } in
    let wide = ok.wide in
    let filled = ok.filled in
    let low = place.1 in
    let some_width : 0 < b.width = omega (arith, wide) in
    let across : nat_lt (k % b.width) b.width ≡ true = lt-ltb (k % b.width) b.width (omega (arith, some_width)) in
    let size : b.width * b.height ≡ b.height * b.width = omega arith in
    let rows : k / b.width < b.height = (div-lt_iff_lt-mul some_width).1 (omega (arith, low, filled, size)) in
    let along : nat_lt (k / b.width) b.height ≡ true = lt-ltb (k / b.width) b.height rows in
    let at : k / b.width * b.width + k % b.width ≡ k = omega (arith, some_width) in
    let cell : is_empty_cell (cell_at b p) ≡ true = ap (λ (i : ℕ). is_empty_cell (slice_index_or b.cells i Empty)) at ∙ place.2 in
    (p, rw (across, along, cell) refl)
