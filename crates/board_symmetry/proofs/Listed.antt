-- The cells of a board as those of its points in reading order.
use Rattle.std.proofs.Common.{◌≡◌, ℕ, zero, suc, ◌+◌, ◌*◌, refl, sym, ap, ◌∙◌, arith, List, [], ◌∷◌, ◌++◌, map, length, get_or, drop}
use Rattle.std.proofs.Common.{drop_of_length-le, add-one, rules}
use Rattle.std.specs.List.{flat_map, range_with_len}
use Rattle.std.proofs.lemmas.List.{map-append}
use Rattle.std.proofs.Math.Seq.{drop-cons}
use Rattle.board_symmetry.proofs.Common.{cell_at, points_within, Cell, Empty, Point}
use Rattle.game_rules.specs.Grid.{row_from}
use Rattle.board_symmetry.proofs.Alike.{grid}

range-append : (n m a : ℕ) → range_with_len a n ++ range_with_len (a + n) m ≡ range_with_len a (n + m)
range-append zero m a = let z : a + 0 ≡ a = omega arith in let e : 0 + m ≡ m = omega arith in rw (z, e) refl
range-append (suc n) m a =
    let z : a + suc n ≡ a + 1 + n = omega arith in
    let e : suc n + m ≡ suc (n + m) = omega arith in
    rw (z, e) (ap (λ (xs : List ℕ). a ∷ xs) (range-append n m (a + 1)))

module _ (w : ℕ) where
  -- the place of a point in reading order
  place : Point → ℕ
  place p = p.y * w + p.x

  row_places : (y x n : ℕ) → map place (row_from y x n) ≡ range_with_len (y * w + x) n
  unfolding place
  row_places y x zero = refl
  row_places y x (suc n) = search (rules, row_places y (x + 1) n)

  rows_places : (n a : ℕ) → map place (flat_map (λ y. row_from y 0 w) (range_with_len a n)) ≡ range_with_len (a * w) (n * w)
  rows_places zero a = let z : 0 * w ≡ 0 = omega arith in rw z refl
  rows_places (suc n) a =
      let first : a * w + 0 ≡ a * w = omega arith in
      let next : (a + 1) * w ≡ a * w + w = omega arith in
      let all : w + n * w ≡ suc n * w = omega arith in
      map-append place (row_from a 0 w) (flat_map (λ y. row_from y 0 w) (range_with_len (a + 1) n))
      ∙ ap (λ (xs : List ℕ). xs ++ map place (flat_map (λ y. row_from y 0 w) (range_with_len (a + 1) n)))
      (row_places a 0 w ∙ ap (λ k. range_with_len k w) first) ∙ ap (λ (xs : List ℕ). range_with_len (a * w) w ++ xs)
      (rows_places n (a + 1) ∙ ap (λ k. range_with_len k (n * w)) next) ∙ range-append w (n * w) (a * w) ∙ ap (range_with_len (a * w)) all

map-map : (f : ℕ → Cell) (g : Point → ℕ) (ps : List Point) → map (λ p. f (g p)) ps ≡ map f (map g ps)
map-map f g [] = refl
map-map f g (p ∷ ps) = ap (λ (xs : List Cell). f (g p) ∷ xs) (map-map f g ps)

items_from : (xs : List Cell) (n k : ℕ) → k + n ≡ length xs → map (λ i. get_or xs i Empty) (range_with_len k n) ≡ drop k xs
items_from xs zero k e = sym (drop_of_length-le xs (omega arith))
items_from xs (suc n) k e = ap (λ (ys : List Cell). get_or xs k Empty ∷ ys)
    (items_from xs n (k + 1) (omega arith) ∙ ap (λ j. drop j xs) (add-one k)) ∙ sym (drop-cons xs k Empty (omega arith))

-- the cells of the points of a board are its cells
pub cells_listed : (w h : ℕ) (xs : List Cell) → length xs ≡ w * h → map (cell_at (grid w h xs)) (points_within w h) ≡ xs
unfolding place
cells_listed w h xs e =
    let none : 0 * w ≡ 0 = omega arith in
    let all : h * w ≡ length xs = omega (arith, e) in
    map-map (λ i. get_or xs i Empty) (place w) (points_within w h) ∙ ap (map (λ i. get_or xs i Empty))
    (rows_places w h 0 ∙ ap (λ k. range_with_len k (h * w)) none ∙ ap (range_with_len 0) all) ∙ items_from xs (length xs) 0 (omega arith)
