-- The rows of a board as numbers: bit x of number y + 4 is that of the point in column x and row y.
use Rattle.std.specs.Prelude.{◌≡◌, ℕ, ◌+◌, ◌-◌, ◌*◌, ◌/◌, ◌%◌, ◌^◌, ◌<◌, ◌≤◌, Bool, nat_le, min, if◌then◌else◌, List, length, Option, Some}
use Rattle.std.specs.Prelude.{None}
use Rattle.std.specs.Prelude.{slice_index_or, bit_or}
use Rattle.std.specs.Int.{bit_at}
use Rattle.game_rules.specs.declared.Axis.{Axis}
use Rattle.game_rules.specs.declared.Axis.TheVariants.{Row, Column, Down, Up}
use Rattle.game_rules.specs.declared.Point.{Point}

-- the point that bit x of number i tells of, if there is one
abbrev pub point_at : ℕ → ℕ → Option Point
point_at i x = if nat_le 4 i then Some (record { x = x; y = i - 4 }) else None

-- each bit tells whether the test holds of its point
pub record TellsRows (f : Option Point → Bool) (rows : List ℕ) : Type 0 where
  pub all : length rows ≡ 40
  pub bits : (i x : ℕ) → i < 40 → bit_at (slice_index_or rows i 0) x ≡ (if f (point_at i x) then 1 else 0)

-- the first n numbers do so, and the others are 0
pub record TellsTo (f : Option Point → Bool) (rows : List ℕ) (n : ℕ) : Type 0 where
  pub all : length rows ≡ 40
  pub bits : (i x : ℕ) → i < n → bit_at (slice_index_or rows i 0) x ≡ (if f (point_at i x) then 1 else 0)
  pub none : (i : ℕ) → n ≤ i → slice_index_or rows i 0 ≡ 0

-- the number whose bits tell of the points k steps ahead on the axis from those of number i
abbrev pub stepped : List ℕ → Axis → ℕ → ℕ → ℕ
stepped rows Row i k = slice_index_or rows i 0 / 2 ^ k
stepped rows Column i k = slice_index_or rows (i + k) 0
stepped rows Down i k = slice_index_or rows (i + k) 0 / 2 ^ k
stepped rows Up i k = slice_index_or rows (i - k) 0 / 2 ^ k

-- the number whose bits tell of the points k steps back on the axis from those of number i
abbrev pub stepped_back : List ℕ → Axis → ℕ → ℕ → ℕ
stepped_back rows Row i k = slice_index_or rows i 0 * 2 ^ k % 4294967296
stepped_back rows Column i k = slice_index_or rows (i - k) 0
stepped_back rows Down i k = slice_index_or rows (i - k) 0 * 2 ^ k % 4294967296
stepped_back rows Up i k = slice_index_or rows (i + k) 0 * 2 ^ k % 4294967296

-- how many of the five points ahead on the axis from the point of bit x have their bit set
abbrev pub five_of : List ℕ → Axis → ℕ → ℕ → ℕ
five_of rows d i x =
    bit_at (stepped rows d i 0) x + bit_at (stepped rows d i 1) x + bit_at (stepped rows d i 2) x + bit_at (stepped rows d i 3) x
    + bit_at (stepped rows d i 4) x

-- 1 where so many at least hold a stone and all five are open, and else 0
abbrev pub start_bit : List ℕ → List ℕ → Axis → ℕ → ℕ → ℕ → ℕ
start_bit own clear d least i x =
    let held = if nat_le least (five_of own d i x) then 1 else 0 in
    min (min (min (min (min held (bit_at (stepped clear d i 0) x)) (bit_at (stepped clear d i 1) x)) (bit_at (stepped clear d i 2) x))
    (bit_at (stepped clear d i 3) x)) (bit_at (stepped clear d i 4) x)

-- the number whose bits tell of the points of which one at most four steps back on the axis has its bit set
abbrev pub covered : List ℕ → Axis → ℕ → ℕ
covered rows d i =
    bit_or (bit_or (bit_or (bit_or (stepped_back rows d i 0) (stepped_back rows d i 1)) (stepped_back rows d i 2))
    (stepped_back rows d i 3))
    (stepped_back rows d i 4)
