-- Fours as sets of places. The nine places of a line around a stone are numbered from 0, and the stone is on place 4.
use Rattle.std.specs.Prelude.{ℕ, zero, suc, Bool, ◌&&◌, ◌||◌, ◌==◌, List, [], ◌∷◌, ◌++◌, map}
use Rattle.std.specs.List.{list_any, list_all, filter, count_by, range_with_len}

-- the ways to choose k of the items, in order
abbrev pub choose : ℕ → List ℕ → List (List ℕ)
choose zero xs = [] ∷ []
choose (suc k) [] = []
choose (suc k) (x ∷ xs) = map (λ r. x ∷ r) (choose k xs) ++ choose (suc k) xs

-- whether the number is one of these
abbrev pub is_among : ℕ → List ℕ → Bool
is_among x xs = list_any (λ y. x == y) xs

-- whether four different places, with the place c, are five places in a row
abbrev pub completes : List ℕ → ℕ → Bool
completes set c = list_any (λ a. list_all (λ i. i == c || is_among i set) (range_with_len a 5)) (range_with_len 0 5)

-- how many of the sets of four places that hold place 4, and that some place completes, hold stones alone and are completed by a
-- place that wins
abbrev pub count_fours : (ℕ → Bool) → (ℕ → Bool) → ℕ
count_fours stone wins =
    count_by (λ set. list_all stone set && list_any wins (filter (completes set) (range_with_len 0 9)))
    (filter (λ set. is_among 4 set && list_any (completes set) (range_with_len 0 9)) (choose 4 (range_with_len 0 9)))
