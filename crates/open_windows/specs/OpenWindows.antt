-- Open windows: five points in a row on which the other side has no stone.
use Rattle.std.specs.Prelude.{ℕ, Bool, false, ◌&&◌, not, nat_le, Option, Some, None}
use Rattle.std.specs.List.{list_any, list_all, count_by, range_with_len}
use Rattle.game_rules.specs.Grid.{Grid, is_on, is_empty, holds, along, axes}
use Rattle.game_rules.specs.Shapes.{stone_at}
use Rattle.game_rules.specs.Play.{other}
use Rattle.game_rules.specs.declared.Side.{Side}
use Rattle.game_rules.specs.declared.Axis.{Axis}
use Rattle.game_rules.specs.declared.Point.{Point}

-- whether there is such a point on the board, and the other side has no stone there
abbrev pub is_open_at : Grid → Side → Option Point → Bool
is_open_at b s None = false
is_open_at b s (Some p) = is_on b p && not (holds b (other s) p)

-- whether there is such a point, the five points ahead from it on the axis are all open to the side, and at least so many of them hold
-- its stones
unfoldable pub is_window : Grid → Side → ℕ → Axis → Option Point → Bool
is_window b s least d None = false
is_window b s least d (Some p) =
    list_all (λ k. is_open_at b s (along d p k 0)) (range_with_len 0 5)
    && nat_le least (count_by (λ k. stone_at b s (along d p k 0)) (range_with_len 0 5))

-- whether the point is empty and is one of the five of such a window on some axis
unfoldable pub in_window : Grid → Side → ℕ → Point → Bool
in_window b s least p =
    is_empty b p && list_any (λ d. list_any (λ k. is_window b s least d (along d p 0 k)) (range_with_len 0 5)) axes
