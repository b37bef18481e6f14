-- Sets of points as rows of bits.
use Rattle.std.specs.Prelude.{◌≡◌, ℕ, ◌+◌, ◌-◌, ◌^◌, ◌≤◌, ◌<◌, Bool, true, ◌==◌, List, ◌++◌, slice_index_or}
use Rattle.std.specs.List.{filter, flat_map, range_with_len}
use Rattle.std.specs.Int.{bit_at}
use Rattle.game_rules.specs.Grid.{Grid, IsBoard, is_on, row_from}
use Rattle.game_rules.specs.declared.Side.{Side}
use Rattle.game_rules.specs.declared.Point.{Point}
use Rattle.open_windows.specs.OpenWindows.{in_window}

-- whether the set has the point: bit x of the number of its row is set
abbrev pub has_point : List ℕ → Point → Bool
has_point rows p = bit_at (slice_index_or rows p.y 0) p.x == 1

-- of the points of the board the set has those that lie in an open window of the side with so many stones
pub record TellsWindows (b : Grid) (s : Side) (least : ℕ) (rows : List ℕ) : Type 0 where
  pub board : IsBoard b
  pub points : (p : Point) → is_on b p ≡ true → has_point rows p ≡ in_window b s least p

-- the points of the set in the rows of a board of this width from row y on
abbrev pub points_from : List ℕ → ℕ → ℕ → ℕ → List Point
points_from rows width height y = filter (has_point rows) (flat_map (λ z. row_from z 0 width) (range_with_len y (height - y)))

-- the points left: those of row y whose bit is set here, and those of the set in the rows after it
unfoldable pub set_points : List ℕ → ℕ → ℕ → ℕ → ℕ → List Point
set_points rows width height y bits =
    filter (λ p. bit_at bits p.x == 1) (row_from y 0 width) ++ points_from rows width height (y + 1)

-- a row of a board of this width and height, and bits of its points
pub record IsRowLeft (width height y bits : ℕ) : Type 0 where
  pub some : 1 ≤ width
  pub width_fits : width ≤ 32
  pub height_fits : height ≤ 32
  pub row : y < height
  pub bits_fit : bits < 2 ^ width

-- z is a row with a point left by these bits, and from it on the same points are left as from row y
pub record IsFirstRow (rows : List ℕ) (width height y bits z more : ℕ) : Type 0 where
  pub left : IsRowLeft width height z more
  pub some : 0 < more
  pub same : set_points rows width height y bits ≡ set_points rows width height z more
