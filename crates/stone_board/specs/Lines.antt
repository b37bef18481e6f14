-- The lines of a board as bits: a number for each line of each side, whose bit i tells of place i whether the side has a stone there.
use Rattle.std.specs.Prelude.{◌≡◌, ℕ, ◌+◌, ◌-◌, ◌*◌, ◌^◌, true, if◌then◌else◌, List, length, slice_index_or, slice_set, bit_xor}
use Rattle.std.specs.Int.{bit_at}
use Rattle.game_rules.specs.Grid.{Grid, is_on, holds}
use Rattle.game_rules.specs.declared.Side.{Side}
use Rattle.game_rules.specs.declared.Side.TheVariants.{Black, White}
use Rattle.game_rules.specs.declared.Axis.{Axis}
use Rattle.game_rules.specs.declared.Axis.TheVariants.{Row, Column, Down, Up}
use Rattle.game_rules.specs.declared.Point.{Point}
use Rattle.game_rules.specs.declared.Way.{Way}
use Rattle.game_rules.specs.declared.Way.TheVariants.{Ahead, Behind}
use Rattle.game_rules.specs.declared.TheConstants.{MAX_SIDE}

-- the number of the line on the axis through a point: points of a board are on one line exactly where it is the same
abbrev pub line_of : Axis → Point → ℕ
line_of Row p = p.y
line_of Column p = p.x
line_of Down p = p.x + (MAX_SIDE - 1 - p.y)
line_of Up p = p.x + p.y

-- the place of a point on its line: one step ahead on the axis is one place more
abbrev pub place_on : Axis → Point → ℕ
place_on Row p = p.x
place_on Column p = p.y
place_on Down p = p.x
place_on Up p = p.x

-- the place so many places on from one, in that way
abbrev pub place_towards : Way → ℕ → ℕ → ℕ
place_towards Ahead i k = i + k
place_towards Behind i k = i - k

-- how many places there are past one, in that way
abbrev pub places_left : Way → ℕ → ℕ
places_left Ahead i = MAX_SIDE - 1 - i
places_left Behind i = i

-- the number tells of each point of line n of the axis whether the side has a stone there, by the bit of the point's place
pub record TellsLine (b : Grid) (s : Side) (d : Axis) (n bits : ℕ) : Type 0 where
  pub stones : (p : Point) → is_on b p ≡ true → line_of d p ≡ n → bit_at bits (place_on d p) ≡ (if holds b s p then 1 else 0)

-- a point of the board is on line n of the axis
pub record HasPointOnLine (b : Grid) (d : Axis) (n : ℕ) : Type 0 where
  pub point : Point
  pub on : is_on b point ≡ true
  pub line : line_of d point ≡ n

-- ---- where a board keeps its lines

abbrev pub axis_number : Axis → ℕ
axis_number Row = 0
axis_number Column = 1
axis_number Down = 2
axis_number Up = 3

abbrev pub side_number : Side → ℕ
side_number Black = 0
side_number White = 1

-- where line n of the axis stands for the side: 64 lines an axis, those of the two sides beside each other
abbrev pub index_of : Side → Axis → ℕ → ℕ
index_of s d n = 128 * axis_number d + 2 * n + side_number s

-- the bit of a point on its line
abbrev pub told : List ℕ → Side → Axis → Point → ℕ
told lines s d p = bit_at (slice_index_or lines (index_of s d (line_of d p)) 0) (place_on d p)

-- the lines tell where the stones of the board stand
pub record AreLines (b : Grid) (lines : List ℕ) : Type 0 where
  pub all : length lines ≡ 512
  pub stones : (s : Side) (d : Axis) (p : Point) → is_on b p ≡ true → told lines s d p ≡ (if holds b s p then 1 else 0)

-- the lines with the bit of a point on one axis turned
unfoldable pub turned : List ℕ → Side → Axis → Point → List ℕ
turned lines s d p = slice_set lines (index_of s d (line_of d p))
    (bit_xor (slice_index_or lines (index_of s d (line_of d p)) 0) (2 ^ place_on d p))

-- the lines with the bits of a point on all four axes turned
unfoldable pub all_turned : List ℕ → Side → Point → List ℕ
all_turned lines s p = turned (turned (turned (turned lines s Row p) s Column p) s Down p) s Up p
