-- The points of a board as a list: how many there are, where each stands, that all are on the board and rise, and those of them
-- that pass a test.
use Rattle.std.proofs.Common.{◌≡◌, ℕ, zero, suc, ◌+◌, ◌*◌, ◌<◌, ◌≤◌, Bool, true, false, cond, ◌&&◌, ◌||◌, refl, ap, subst, arith, List, []}
use Rattle.std.proofs.Common.{◌∷◌, ◌++◌, length, length-append, Contains, rules, Some, slice_get, unwrap_or, flat_map, filter, find}
use Rattle.std.specs.List.{range_with_len, list_all, list_any}
use Rattle.std.proofs.lemmas.Bool.{lt-ltb}
use Rattle.std.proofs.lemmas.Nat.{mul-le}
use Rattle.std.proofs.lemmas.List.Folds.{list_all-append}
use Rattle.game_rules.proofs.Common.{Grid, IsBoard, is_on, points_of, row_from, place_of, is_same_point, Point}
use Rattle.game_rules.proofs.Boards.{Apart, and_left, and_right, on_x, on_y}
use Rattle.game_rules.proofs.Points.{points-found, is_same_point-itself, is_same_point-same}

-- ---- how many there are

row_length : (y x n : ℕ) → length (row_from y x n) ≡ n
row_length y x zero = refl
row_length y x (suc n) = ap suc (row_length y (x + 1) n)

rows_length : (width a n : ℕ) → length (flat_map (λ y. row_from y 0 width) (range_with_len a n)) ≡ width * n
rows_length width a zero = omega arith
rows_length width a (suc n) = search (rules, row_length, length-append, rows_length width (a + 1) n)

pub points_length : (b : Grid) → length (points_of b) ≡ b.width * b.height
points_length b = rows_length b.width 0 b.height

-- a board has 1,024 points at most
pub points_few : (b : Grid) → IsBoard b → length (points_of b) ≤ 1024
points_few b ok = search (rules, points_length, mul-le)

-- ---- where each stands

slice_get-left : {X : Type 0} (xs ys : List X) (i : ℕ) → i < length xs → slice_get (xs ++ ys) i ≡ slice_get xs i
slice_get-left [] ys i h = absurd (omega arith)
slice_get-left (x ∷ xs) ys zero h = refl
slice_get-left (x ∷ xs) ys (suc i) h = slice_get-left xs ys i (omega arith)

slice_get-right : {X : Type 0} (xs ys : List X) (i : ℕ) → slice_get (xs ++ ys) (length xs + i) ≡ slice_get ys i
slice_get-right [] ys i = let e : 0 + i ≡ i = omega arith in rw e refl
slice_get-right (x ∷ xs) ys i = let e : suc (length xs) + i ≡ suc (length xs + i) = omega arith in rw e (slice_get-right xs ys i)

row_get : (y x n i : ℕ) → i < n → slice_get (row_from y x n) i ≡ Some (record { x = x + i; y = y })
row_get y x zero i h = absurd (omega arith)
row_get y x (suc n) zero h = let e : x + 0 ≡ x = omega arith in rw e refl
row_get y x (suc n) (suc i) h = let e : x + suc i ≡ x + 1 + i = omega arith in rw e (row_get y (x + 1) n i (omega arith))

rows_get : (width a n k x : ℕ) → k < n → x < width
    → slice_get (flat_map (λ y. row_from y 0 width) (range_with_len a n)) (k * width + x) ≡ Some (record { x = x; y = a + k })
rows_get width a zero k x low h = absurd (omega arith)
rows_get width a (suc n) zero x low h = search (rules, row_length, slice_get-left, row_get)
rows_get width a (suc n) (suc k) x low h = search (rules, row_length, slice_get-right, rows_get width (a + 1) n k x (omega arith) h)

-- a point of the board stands at its place
pub points_get : (b : Grid) (q : Point) → is_on b q ≡ true → slice_get (points_of b) (place_of b q) ≡ Some q
points_get b q on = let e : 0 + q.y ≡ q.y = omega arith in rw e at (rows_get b.width 0 b.height q.y q.x (on_y b q on) (on_x b q on))

-- ---- all are on the board

row_on : (b : Grid) (y x n : ℕ) → y < b.height → x + n ≤ b.width → list_all (is_on b) (row_from y x n) ≡ true
row_on b y x zero low high = refl
row_on b y x (suc n) low high = search (rules, lt-ltb, row_on b y (x + 1) n low (omega arith))

rows_on : (b : Grid) (a n : ℕ) → a + n ≤ b.height → list_all (is_on b) (flat_map (λ y. row_from y 0 b.width) (range_with_len a n)) ≡ true
rows_on b a zero high = refl
rows_on b a (suc n) high = search (rules, list_all-append, row_on, rows_on b (a + 1) n (omega arith))

pub points_on : (b : Grid) → list_all (is_on b) (points_of b) ≡ true
points_on b = rows_on b 0 b.height (omega arith)

-- what all of the listed points pass, one of them passes
pub listed_passes : (f : Point → Bool) (q : Point) (ps : List Point) → list_all f ps ≡ true → list_any (λ p. is_same_point p q) ps ≡ true
    → f q ≡ true
listed_passes f q [] all h = cc
listed_passes f q (p ∷ ps) all h = search (rules, and_right, is_same_point-same, and_left, listed_passes f q ps (and_right (f p) _ all))

-- a listed point is on the board
pub listed_on : (b : Grid) (q : Point) → list_any (λ p. is_same_point p q) (points_of b) ≡ true → is_on b q ≡ true
listed_on b q h = listed_passes (is_on b) q (points_of b) (points_on b) h

-- ---- they rise

module _ (width : ℕ) where
  pub place : Point → ℕ
  place p = p.y * width + p.x

  -- the places rise, from k on
  pub Rising : ℕ → List Point → Type 0
  Rising k [] = Unit {0}
  Rising k (p ∷ ps) = (k ≤ place p) × Rising (place p + 1) ps

  Rising-from : (k m : ℕ) (ps : List Point) → m ≤ k → Rising k ps → Rising m ps
  unfolding Rising
  Rising-from k m [] l h = h
  Rising-from k m (p ∷ ps) l h = (let low = h.0 in omega (arith, low), h.1)

  -- a row, and then points that rise from its end on
  row-rising : (y x n : ℕ) (ps : List Point) → Rising (y * width + x + n) ps → Rising (y * width + x) (row_from y x n ++ ps)
  unfolding Rising place
  row-rising y x zero ps h = Rising-from _ _ ps (omega arith) h
  row-rising y x (suc n) ps h = (
    omega arith,
    let e : y * width + x + suc n ≡ y * width + (x + 1) + n = omega arith in
        let f : y * width + (x + 1) ≡ y * width + x + 1 = omega arith in
        subst (λ k. Rising k (row_from y (x + 1) n ++ ps)) f (row-rising y (x + 1) n ps (subst (λ k. Rising k ps) e h)),
  )

  pub rows-rising : (y n : ℕ) → Rising (y * width) (flat_map (λ z. row_from z 0 width) (range_with_len y n))
  unfolding Rising
  rows-rising y zero = tt
  rows-rising y (suc n) =
      let e : (y + 1) * width ≡ y * width + 0 + width = omega arith in
      let f : y * width + 0 ≡ y * width = omega arith in
      subst (λ k. Rising k (row_from y 0 width ++ flat_map (λ z. row_from z 0 width) (range_with_len (y + 1) n))) f
      (row-rising y 0 width _ (subst (λ k. Rising k (flat_map (λ z. row_from z 0 width) (range_with_len (y + 1) n))) e
      (rows-rising (y + 1) n)))

  -- the first point, and those after it
  pub rising-first : (k : ℕ) (p : Point) (ps : List Point) → Rising k (p ∷ ps) → (k ≤ place p) × Rising (place p + 1) ps
  unfolding Rising
  rising-first k p ps h = h

  -- points at different places are not one
  pub earlier-differs : (p q : Point) → place p < place q → is_same_point p q ≡ false
  unfolding place
  earlier-differs p q less = search (rules, is_same_point-same)

  filter-rising : (f : Point → Bool) (k : ℕ) (ps : List Point) → Rising k ps → Rising k (filter f ps)
  unfolding Rising
  filter-rising f k [] h = h
  filter-rising f k (p ∷ ps) h = search (rules, Rising-from, filter-rising f (place p + 1) ps h.1)

  two-apart : (k : ℕ) (p q : Point) (ps : List Point) → Rising k (p ∷ q ∷ ps) → Apart p q
  unfolding Rising place
  two-apart k p q ps h = search rules

-- two points that pass a test, one after another, are not one
pub two_passing-apart : (b : Grid) (f : Point → Bool) (p q : Point) (ps : List Point) → filter f (points_of b) ≡ p ∷ q ∷ ps → Apart p q
two_passing-apart b f p q ps e = two-apart b.width (0 * b.width) p q ps
    (subst (λ xs. Rising b.width (0 * b.width) xs) e (filter-rising b.width f (0 * b.width) (points_of b) (rows-rising b.width 0 b.height)))

-- ---- those that pass a test

passing_listed : (f : Point → Bool) (q : Point) (ps : List Point) → list_any (λ x. f x && is_same_point x q) ps ≡ true
    → Contains (filter f ps) q
passing_listed f q [] h = cc
passing_listed f q (p ∷ ps) h = by_tests (f p) (is_same_point p q) refl h (passing_listed f q ps) where
  deeper : (x : Point) (xs : List Point) → Contains xs q → Contains (x ∷ xs) q
  deeper x xs (k, inside, at) = (suc k, omega (arith, inside), at)

  by_tests : (r s : Bool) → is_same_point p q ≡ s → ((r && s) || list_any (λ x. f x && is_same_point x q) ps) ≡ true
      → (list_any (λ x. f x && is_same_point x q) ps ≡ true → Contains (filter f ps) q)
      → Contains (cond r (p ∷ filter f ps) (filter f ps)) q
  by_tests true true same h later = (0, omega arith, is_same_point-same p q same)
  by_tests true false same h later = deeper p (filter f ps) (later h)
  by_tests false s same h later = later h

-- a point of the board that passes is among those that do
pub points_passing : (b : Grid) (f : Point → Bool) (q : Point) → is_on b q ≡ true → f q ≡ true → Contains (filter f (points_of b)) q
points_passing b f q on h = search (rules, passing_listed, points-found, is_same_point-itself)

-- what is found passes, and is one of the list
pub find-in : (f g : Point → Bool) (ps : List Point) (w : Point) → list_all g ps ≡ true → find f ps ≡ Some w → (f w ≡ true) × (g w ≡ true)
find-in f g [] w all h = cc
find-in f g (p ∷ ps) w all h = search (rules, and_right, and_left, find-in f g ps w (and_right (g p) _ all))

pub find-passes : (f : Point → Bool) (ps : List Point) (w : Point) → find f ps ≡ Some w → f w ≡ true
find-passes f ps w h = (find-in f (λ q. true) ps w (always ps) h).0 where
  always : (qs : List Point) → list_all (λ q. true) qs ≡ true
  always [] = refl
  always (q ∷ qs) = always qs

-- where the test holds somewhere, it holds of what is found
pub find-some : (f : Point → Bool) (ps : List Point) (d : Point) → list_any f ps ≡ true → f (unwrap_or (find f ps) d) ≡ true
find-some f [] d h = cc
find-some f (x ∷ ps) d h = search (rules, find-some f ps d)
