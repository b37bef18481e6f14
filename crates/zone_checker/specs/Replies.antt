-- What the walk has found out of the replies at a board.
use Rattle.std.specs.Prelude.{◌≡◌, ℕ, ◌+◌, ◌≤◌, true, List, length, ◌<◌, slice_index_or}
use Rattle.game_rules.specs.Grid.{Grid, is_empty}
use Rattle.game_rules.specs.declared.Side.{Side}
use Rattle.game_rules.specs.declared.Axis.{Axis}
use Rattle.game_rules.specs.declared.Point.{Point}
use Rattle.strategy_graph.specs.Tables.{Answers}
use Rattle.relevance_zone.specs.Zones.{Zone, IsWithstood, Withstands}
use Rattle.zone_checker.specs.declared.marks.Mark.{Mark}
use Rattle.zone_checker.specs.Marks.{LiesUnder, mark_at, spare_of, zone_of}

-- the new marks say what the old ones do, or more
pub record SayMore (b : Grid) (old new : List Mark) : Type 0 where
  pub size : length new ≡ length old
  pub inside : (p : Point) → (mark_at b old p).inside ≡ true → (mark_at b new p).inside ≡ true
  pub spare : (d : Axis) (p : Point) → spare_of d (mark_at b new p) ≤ spare_of d (mark_at b old p)

-- The reply q is withstood by the zone of the new marks, where passed has the marks of the rest's zone after a pass. They are the old
-- ones and what every zone with which all replies are withstood has to say besides.
pub record IsReplied (s : Side) (a : Answers) (Has : ℕ → Grid → Zone → Type 0) (b : Grid) (passed : List Mark) (q : Point)
    (old new : List Mark) : Type 0 where
  pub more : SayMore b old new
  pub withstood : (n : ℕ) → is_empty b q ≡ true → IsWithstood s a Has b (zone_of b new n) (zone_of b passed (n + 1)) q
  pub greatest : (z : Zone) → Withstands s a Has b z → LiesUnder b old z → LiesUnder b new z

-- the same of each of the points
pub record AreReplied (s : Side) (a : Answers) (Has : ℕ → Grid → Zone → Type 0) (b : Grid) (passed : List Mark) (qs : List Point)
    (old new : List Mark) : Type 0 where
  pub more : SayMore b old new
  pub withstood : (k n : ℕ) (d : Point) → k < length qs → is_empty b (slice_index_or qs k d) ≡ true
      → IsWithstood s a Has b (zone_of b new n) (zone_of b passed (n + 1)) (slice_index_or qs k d)
  pub greatest : (z : Zone) → Withstands s a Has b z → LiesUnder b old z → LiesUnder b new z
