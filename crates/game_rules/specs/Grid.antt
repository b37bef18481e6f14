-- Boards as plain lists of cells, their points, and steps along the axes.
use Rattle.std.specs.Prelude.{◌≡◌, ℕ, suc, ◌+◌, ◌-◌, ◌*◌, ◌≤◌, ℤ, pos, negsuc, Bool, true, false, ◌&&◌, nat_lt, nat_le, if◌then◌else◌, List}
use Rattle.std.specs.Prelude.{[], ◌∷◌, map, length, slice_index_or, slice_set}
use Rattle.std.specs.List.{count_by, range_with_len, flat_map}
use Rattle.std.specs.Prelude.{Option, Some, None}
use Rattle.game_rules.specs.declared.Side.{Side}
use Rattle.game_rules.specs.declared.Side.TheVariants.{Black, White}
use Rattle.game_rules.specs.declared.Cell.{Cell}
use Rattle.game_rules.specs.declared.Cell.TheVariants.{Empty, Black as BlackStone, White as WhiteStone}
use Rattle.game_rules.specs.declared.Axis.{Axis}
use Rattle.game_rules.specs.declared.Axis.TheVariants.{Row, Column, Down, Up}
use Rattle.game_rules.specs.declared.Point.{Point}
use Rattle.game_rules.specs.declared.Look.{Look}
use Rattle.game_rules.specs.declared.Look.TheVariants.{Off, Holds}
use Rattle.game_rules.specs.declared.TheConstants.{MIN_SIDE, MAX_SIDE}

-- a board: its width, its height, and its cells in reading order
pub record Grid : Type 0 where
  pub width : ℕ
  pub height : ℕ
  pub cells : List Cell

-- width and height are MIN_SIDE to MAX_SIDE, and there is a cell for each point
pub record IsBoard (b : Grid) : Type 0 where
  pub wide : MIN_SIDE ≤ b.width
  pub width_fits : b.width ≤ MAX_SIDE
  pub high : MIN_SIDE ≤ b.height
  pub height_fits : b.height ≤ MAX_SIDE
  pub filled : length b.cells ≡ b.width * b.height

-- whether the point is on the board: x is below the width, and y is below the height
abbrev pub is_on : Grid → Point → Bool
is_on b p = nat_lt p.x b.width && nat_lt p.y b.height

-- the place of a point in reading order
abbrev pub place_of : Grid → Point → ℕ
place_of b p = p.y * b.width + p.x

-- the cell at a point of the board; of a point off the board it says nothing
abbrev pub cell_at : Grid → Point → Cell
cell_at b p = slice_index_or b.cells (place_of b p) Empty

-- the cell that holds a stone of the side
abbrev pub stone_of : Side → Cell
stone_of Black = BlackStone
stone_of White = WhiteStone

-- whether the cell holds a stone of the side
abbrev pub is_stone_of : Side → Cell → Bool
is_stone_of s Empty = false
is_stone_of Black BlackStone = true
is_stone_of Black WhiteStone = false
is_stone_of White BlackStone = false
is_stone_of White WhiteStone = true

-- whether the cell is empty
abbrev pub is_empty_cell : Cell → Bool
is_empty_cell Empty = true
is_empty_cell c = false

-- whether the point is on the board and empty
abbrev pub is_empty : Grid → Point → Bool
is_empty b p = is_on b p && is_empty_cell (cell_at b p)

-- whether the point is on the board and holds a stone of the side
abbrev pub holds : Grid → Side → Point → Bool
holds b s p = is_on b p && is_stone_of s (cell_at b p)

-- the board with a stone of the side on a point of the board
abbrev pub put : Grid → Side → Point → Grid
put b s p = record b { cells = slice_set b.cells (place_of b p) (stone_of s) }

-- the board without the stone on a point of the board
abbrev pub lift : Grid → Point → Grid
lift b p = record b { cells = slice_set b.cells (place_of b p) Empty }

-- how many stones of the side stand on the board
abbrev pub stones_of : Grid → Side → ℕ
stones_of b s = count_by (is_stone_of s) b.cells

-- how many points of the board are empty
abbrev pub empties_of : Grid → ℕ
empties_of b = count_by is_empty_cell b.cells

-- the points of row y from column x on, so many of them
abbrev pub row_from : ℕ → ℕ → ℕ → List Point
row_from y x n = map (λ x. record { x = x; y = y }) (range_with_len x n)

-- the points of a board of this width and height, in reading order: by y, then by x
abbrev pub points_within : ℕ → ℕ → List Point
points_within width height = flat_map (λ y. row_from y 0 width) (range_with_len 0 height)

-- the points of the board in reading order
abbrev pub points_of : Grid → List Point
points_of b = points_within b.width b.height

-- the four axes in their order
abbrev pub axes : List Axis
axes = Row ∷ Column ∷ Down ∷ Up ∷ []

-- the number ahead steps up from n and back steps down again, unless that is below 0
abbrev pub shift : ℕ → ℕ → ℕ → Option ℕ
shift n ahead back = if nat_le back (n + ahead) then Some (n + ahead - back) else None

-- the point with these coordinates, if there are both
abbrev pub point_of : Option ℕ → Option ℕ → Option Point
point_of (Some x) (Some y) = Some (record { x = x; y = y })
point_of x y = None

-- the point so many steps ahead on the axis, and so many back again, if its coordinates are not below 0
abbrev pub along : Axis → Point → ℕ → ℕ → Option Point
along Row p ahead back = point_of (shift p.x ahead back) (Some p.y)
along Column p ahead back = point_of (Some p.x) (shift p.y ahead back)
along Down p ahead back = point_of (shift p.x ahead back) (shift p.y ahead back)
along Up p ahead back = point_of (shift p.x ahead back) (shift p.y back ahead)

-- the point k steps along the axis, backwards where k is below 0
abbrev pub step : Axis → Point → ℤ → Option Point
step d p (pos k) = along d p k 0
step d p (negsuc k) = along d p 0 (suc k)

-- what a look at a place of the plane finds
abbrev pub look_at : Grid → Option Point → Look
look_at b None = Off
look_at b (Some q) = if is_on b q then Holds (cell_at b q) else Off
