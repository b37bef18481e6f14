-- Reading order from a point on.
use Rattle.std.specs.Prelude.{ℕ, ◌+◌, ◌-◌, nat_lt, if◌then◌else◌, List, [], ◌++◌, Option}
use Rattle.std.specs.Option.{option_or}
use Rattle.std.specs.List.{flat_map, range_with_len, find}
use Rattle.game_rules.specs.Grid.{Grid, is_empty, row_from, points_of}
use Rattle.game_rules.specs.declared.Point.{Point}

-- the points of a board of this width and height from a point on, in reading order: the rest of its row, and the rows after it
abbrev pub points_left : ℕ → ℕ → Point → List Point
points_left width height p =
    if nat_lt p.y height then row_from p.y p.x (width - p.x)
    ++ flat_map (λ y. row_from y 0 width) (range_with_len (p.y + 1) (height - (p.y + 1))) else []

-- the point after p in reading order, which may be below the board
abbrev pub following : ℕ → Point → Point
following width p = if nat_lt (p.x + 1) width then record { x = p.x + 1; y = p.y } else record { x = 0; y = p.y + 1 }

-- the first empty point at or after p in reading order, going on at the first point of the board
abbrev pub first_empty_from : Grid → Point → Option Point
first_empty_from b p = option_or (find (is_empty b) (points_left b.width b.height p)) (find (is_empty b) (points_of b))
