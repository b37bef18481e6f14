-- Fours counted by the first of five places and by the one that is left out: a second way to count them, from which the
-- code reads. The nine places of a line around a stone are numbered from 0, and the stone is on place 4.
use Rattle.std.specs.Prelude.{ℕ, ◌+◌, ◌-◌, Bool, false, ◌&&◌, ◌||◌, not, ◌==◌, List, slice_index_or}
use Rattle.std.specs.List.{list_all, count_by, range_with_len}

-- what the list of the places says of place i
abbrev pub listed : List Bool → ℕ → Bool
listed stones i = slice_index_or stones i false

-- whether the five places that begin so many steps behind the stone, but for the one that is left out, hold stones
unfoldable pub are_stones : (ℕ → Bool) → ℕ → ℕ → Bool
are_stones stone first gap = list_all (λ i. i == gap || stone (i + 4 - first)) (range_with_len 0 5)

-- Whether these four stones hold the stone in the middle and are completed by a place that wins. Where the place left
-- out is the last of the five, the four stand in a row, and the place before them completes them too.
unfoldable pub is_four : (ℕ → Bool) → (ℕ → Bool) → ℕ → ℕ → Bool
is_four stone wins first gap = not (first == gap) && are_stones stone first gap
    && (wins (gap + 4 - first) || (gap == 4 && wins (3 - first)))

-- the fours among the five places that begin so many steps behind the stone, but for those without the first of them
abbrev pub fours_from : (ℕ → Bool) → (ℕ → Bool) → ℕ → ℕ
fours_from stone wins first = count_by (λ gap. is_four stone wins first gap) (range_with_len 1 4)
