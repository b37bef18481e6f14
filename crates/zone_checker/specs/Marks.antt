-- Marks: a zone as it is kept, with a mark for each point of the board.
use Rattle.std.specs.Prelude.{◌≡◌, ℕ, ◌+◌, ◌-◌, ◌≤◌, ◌<◌, ◌==◌, min, Bool, true, false, ◌||◌, nat_le, if◌then◌else◌, List, length, Option}
use Rattle.std.specs.Prelude.{Some, None}
use Rattle.std.specs.Prelude.{slice_index_or}
use Rattle.std.specs.List.{list_any, range_with_len}
use Rattle.game_rules.specs.Grid.{Grid, is_on, place_of, along, axes}
use Rattle.game_rules.specs.Shapes.{is_same_point}
use Rattle.game_rules.specs.Play.{other}
use Rattle.game_rules.specs.declared.Side.{Side}
use Rattle.game_rules.specs.declared.Axis.{Axis}
use Rattle.game_rules.specs.declared.Axis.TheVariants.{Row, Column, Down, Up}
use Rattle.game_rules.specs.declared.Point.{Point}
use Rattle.relevance_zone.specs.Windows.{stones_in, is_clear_of}
use Rattle.relevance_zone.specs.Zones.{Zone}
use Rattle.zone_checker.specs.declared.marks.Mark.{Mark}
use Rattle.zone_checker.specs.declared.marks.TheConstants.{ANY}

-- how many further stones of the other side the window bears where the side has just attacked: any number where it is not clear of
-- the side, and else up to three in all; none at all where it has four or more already
unfoldable pub room : Grid → Side → Axis → Point → Option ℕ
room b s d p =
    if is_clear_of b s d p then (if nat_le (stones_in b (other s) d p) 3 then Some (3 - stones_in b (other s) d p) else None)
    else Some ANY

-- the number of a mark for the window along the axis
abbrev pub spare_of : Axis → Mark → ℕ
spare_of Row m = m.row
spare_of Column m = m.column
spare_of Down m = m.down
spare_of Up m = m.up

-- the mark that says nothing
abbrev pub blank : Mark
blank = record { inside = false; row = ANY; column = ANY; down = ANY; up = ANY }

-- a number with one stone kept back, if it is limited
abbrev pub less : ℕ → ℕ
less k = if nat_le ANY k then k else k - 1

-- the mark with one stone kept back in each window
abbrev pub kept_back : Mark → Mark
kept_back m = record { inside = m.inside; row = less m.row; column = less m.column; down = less m.down; up = less m.up }

-- what both marks say: a point that is in either zone, and the lesser number of each window
abbrev pub covered : Mark → Mark → Mark
covered m o = record {
  inside = m.inside || o.inside;
  row = min m.row o.row;
  column = min m.column o.column;
  down = min m.down o.down;
  up = min m.up o.up;
}

-- the mark at a point; of a point off the board it says nothing
abbrev pub mark_at : Grid → List Mark → Point → Mark
mark_at b ms p = if is_on b p then slice_index_or ms (place_of b p) blank else blank

-- whether there is such a point, and its window along the axis bears no stone more
abbrev pub is_full_at : Grid → List Mark → Axis → Option Point → Bool
is_full_at b ms d None = false
is_full_at b ms d (Some p) = spare_of d (mark_at b ms p) == 0

-- whether a window through q along the axis bears no stone more
unfoldable pub is_full_through : Grid → List Mark → Axis → Point → Bool
is_full_through b ms d q = list_any (λ k. is_full_at b ms d (along d q 0 k)) (range_with_len 0 5)

-- whether a stone on q does harm: q is a point of the zone, or in a window that bears no stone more
abbrev pub harms : Grid → List Mark → Point → Bool
harms b ms q = (mark_at b ms q).inside || list_any (λ d. is_full_through b ms d q) axes

-- what a number of a mark stands for: any number is n more than that
abbrev pub bearing : ℕ → ℕ → ℕ
bearing n k = if nat_le ANY k then n + k else k

-- the zone of these marks, where n more than any number stands for any number
abbrev pub zone_of : Grid → List Mark → ℕ → Zone
zone_of b ms n = record { points = λ p. (mark_at b ms p).inside; spare = λ d p. bearing n (spare_of d (mark_at b ms p)) }

-- the mark of a point of the board where the side has just attacked: it is no point of the zone, and has the room of its windows
pub record IsOpenedAt (b : Grid) (s : Side) (p : Point) (m : Mark) : Type 0 where
  pub outside : m.inside ≡ false
  pub rooms : (d : Axis) → room b s d p ≡ Some (spare_of d m)

-- there is such a mark for each point of the board
pub record AreOpened (b : Grid) (s : Side) (ms : List Mark) : Type 0 where
  pub size : length ms ≡ length b.cells
  pub marks : (p : Point) → is_on b p ≡ true → IsOpenedAt b s p (mark_at b ms p)

-- some window that begins at a point of the board has no room
abbrev pub HasFour : Grid → Side → Type 0
HasFour b s = (d : Axis) × (p : Point) × (room b s d p ≡ None)

-- the marks say what two lists of them say, at each place
pub record AreCovered (old others new : List Mark) : Type 0 where
  pub size : length new ≡ length old
  pub each : (k : ℕ) → slice_index_or new k blank ≡ covered (slice_index_or old k blank) (slice_index_or others k blank)

-- the marks are as before, but for p, which is a point of the zone now
pub record IsEntered (b : Grid) (p : Point) (old new : List Mark) : Type 0 where
  pub size : length new ≡ length old
  pub inside : (q : Point) → (mark_at b new q).inside ≡ (is_same_point p q || (mark_at b old q).inside)
  pub spare : (d : Axis) (q : Point) → spare_of d (mark_at b new q) ≡ spare_of d (mark_at b old q)

-- a zone lies under the marks: it has each point that they have, and bears no more in a window for which they say a limited number
pub record LiesUnder (b : Grid) (ms : List Mark) (z : Zone) : Type 0 where
  pub points : (p : Point) → (mark_at b ms p).inside ≡ true → z.points p ≡ true
  pub windows : (d : Axis) (p : Point) → spare_of d (mark_at b ms p) < ANY → z.spare d p ≤ spare_of d (mark_at b ms p)

-- of the zones that Has says, the marks are the one that has the fewest points and bears the most
pub record IsGreatest (Has : Zone → Type 0) (b : Grid) (ms : List Mark) : Type 0 where
  pub size : length ms ≡ length b.cells
  pub zones : (n : ℕ) → Has (zone_of b ms n)
  pub greatest : (z : Zone) → Has z → LiesUnder b ms z
