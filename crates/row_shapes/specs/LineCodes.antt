-- The code of a line: what stands around a point on one axis, as one number.
use Rattle.std.specs.Prelude.{ℕ, zero, suc, ◌+◌, ◌*◌, ◌/◌, ◌%◌, if◌then◌else◌, List, [], ◌∷◌, ◌++◌, map, Option, Some, None}
use Rattle.std.specs.List.{range_with_len}
use Rattle.game_rules.specs.Grid.{Grid, is_empty, holds, along}
use Rattle.game_rules.specs.declared.Side.{Side}
use Rattle.game_rules.specs.declared.Axis.{Axis}
use Rattle.game_rules.specs.declared.Point.{Point}

-- the digit of a place for a side: 0 where it is empty, 1 where it holds a stone of the side, and 2 where it holds one of the
-- other side or is off the board
unfoldable pub digit_at : Grid → Side → Option Point → ℕ
digit_at b s None = 2
digit_at b s (Some q) = if is_empty b q then 0 else if holds b s q then 1 else 2

-- the number with these digits to the base 3, the least first
abbrev pub from_digits : List ℕ → ℕ
from_digits [] = 0
from_digits (digit ∷ more) = digit + 3 * from_digits more

-- the first digits of a number to the base 3, the least first
abbrev pub first_digits : ℕ → ℕ → List ℕ
first_digits zero code = []
first_digits (suc n) code = code % 3 ∷ first_digits n (code / 3)

-- the places of a line around a point that many places from its start, but for the point: so many before it and so many after
abbrev pub places_beside : ℕ → List ℕ
places_beside reach = range_with_len 0 reach ++ range_with_len (reach + 1) reach

-- the code of the neighbours of a point on the axis, so many of them on each side: their digits in order, the least first
unfoldable pub line_code : ℕ → Grid → Side → Axis → Point → ℕ
line_code reach b s d p = from_digits (map (λ i. digit_at b s (along d p i reach)) (places_beside reach))
