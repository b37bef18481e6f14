-- Sums over ranges of numbers and over the points of a board, in another order.
use Rattle.std.proofs.Common.{rules, ◌≡◌, ℕ, zero, suc, ◌+◌, ◌-◌, ◌≤◌, refl, sym, ap, ◌∙◌, arith, List, [], ◌∷◌, map, sum_by, flat_map}
use Rattle.std.specs.List.{range_with_len}
use Rattle.std.proofs.lemmas.List.Sums.{sum_by-cons, sum_by-append}
use Rattle.board_symmetry.proofs.Common.{points_within, Point}

-- ---- sums of numbers

sum_last : (g : ℕ → ℕ) (n a : ℕ) → sum_by g (range_with_len a (suc n)) ≡ sum_by g (range_with_len a n) + g (a + n)
sum_last g zero a = let z : a + 0 ≡ a = omega arith in rw z refl
sum_last g (suc n) a =
    let here = sum_by-cons g a (range_with_len (a + 1) (suc n)) in
    let rest = sum_last g n (a + 1) in
    let front = sum_by-cons g a (range_with_len (a + 1) n) in
    let same : a + 1 + n ≡ a + suc n = omega arith in
    let last : g (a + 1 + n) ≡ g (a + suc n) = ap g same in
    omega (arith, here, rest, front, last)

reversed_from : (g : ℕ → ℕ) (c n a : ℕ) → a + n ≤ c + 1 → sum_by (λ x. g (c - x)) (range_with_len a n)
    ≡ sum_by g (range_with_len (c + 1 - a - n) n)
reversed_from g c zero a low = refl
reversed_from g c (suc n) a low =
    let here = sum_by-cons (λ x. g (c - x)) a (range_with_len (a + 1) n) in
    let rest = reversed_from g c n (a + 1) (omega arith) in
    let last = sum_last g n (c + 1 - a - suc n) in
    let start : c + 1 - (a + 1) - n ≡ c + 1 - a - suc n = omega arith in
    let from : sum_by g (range_with_len (c + 1 - (a + 1) - n) n) ≡ sum_by g (range_with_len (c + 1 - a - suc n) n) =
    ap (λ k. sum_by g (range_with_len k n)) start in
    let end : c + 1 - a - suc n + n ≡ c - a = omega arith in
    let there : g (c + 1 - a - suc n + n) ≡ g (c - a) = ap g end in
    omega (arith, here, rest, last, from, there)

-- a sum over the numbers below n, from the last to the first
pub reversed : (g : ℕ → ℕ) (n : ℕ) → sum_by (λ x. g (n - 1 - x)) (range_with_len 0 n) ≡ sum_by g (range_with_len 0 n)
reversed g zero = refl
reversed g (suc n) =
    let start : suc n - 1 + 1 - 0 - suc n ≡ 0 = omega arith in
    reversed_from g (suc n - 1) (suc n) 0 (omega arith) ∙ ap (λ k. sum_by g (range_with_len k (suc n))) start

sum_zero : (ys : List ℕ) → sum_by (λ y. 0) ys ≡ 0
sum_zero [] = refl
sum_zero (y ∷ ys) = let all = sum_by-cons (λ y. 0) y ys in let rest = sum_zero ys in omega (arith, all, rest)

sum_both : (f g : ℕ → ℕ) (ys : List ℕ) → sum_by (λ y. f y + g y) ys ≡ sum_by f ys + sum_by g ys
sum_both f g [] = refl
sum_both f g (y ∷ ys) = search (rules, sum_by-cons, sum_both f g ys)

-- a sum of sums, the other way round
pub exchanged : (g : ℕ → ℕ → ℕ) (xs ys : List ℕ) → sum_by (λ y. sum_by (λ x. g x y) xs) ys ≡ sum_by (λ x. sum_by (λ y. g x y) ys) xs
exchanged g [] ys = sum_zero ys
exchanged g (x ∷ xs) ys =
    let cons : (λ y. sum_by (λ x. g x y) (x ∷ xs)) ≡ (λ y. g x y + sum_by (λ x. g x y) xs) = λ i y. sum_by-cons (λ x. g x y) x xs i in
    ap (λ (f : ℕ → ℕ). sum_by f ys) cons ∙ sum_both (λ y. g x y) (λ y. sum_by (λ x. g x y) xs) ys
    ∙ ap (λ k. sum_by (λ y. g x y) ys + k) (exchanged g xs ys) ∙ sym (sum_by-cons (λ x. sum_by (λ y. g x y) ys) x xs)

-- ---- sums over points

-- a sum over what a list is mapped to
pub sum_by-map : {X Y : Type 0} (f : Y → ℕ) (at : X → Y) (xs : List X) → sum_by f (map at xs) ≡ sum_by (λ x. f (at x)) xs
sum_by-map f at [] = refl
sum_by-map f at (x ∷ xs) = search (rules, sum_by-cons, sum_by-map f at xs)

sum_by-flat_map : (f : Point → ℕ) (row : ℕ → List Point) (ys : List ℕ) → sum_by f (flat_map row ys) ≡ sum_by (λ y. sum_by f (row y)) ys
sum_by-flat_map f row [] = refl
sum_by-flat_map f row (y ∷ ys) = search (rules, sum_by-append, sum_by-cons, sum_by-flat_map f row ys)

module _ (f : Point → ℕ) (w h : ℕ) where
  -- the sum over the points of one row
  abbrev pub row_sum : ℕ → ℕ
  row_sum y = sum_by (λ x. let p : Point = record { x = x; y = y } in f p) (range_with_len 0 w)

  -- a sum over the points of a board, row by row
  pub points_sum : sum_by f (points_within w h) ≡ sum_by row_sum (range_with_len 0 h)
  points_sum = search (rules, sum_by-flat_map, sum_by-map)
