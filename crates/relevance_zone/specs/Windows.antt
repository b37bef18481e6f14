-- Windows: five points in a row. The window from p along an axis has p and the four points ahead of it.
use Rattle.std.specs.Prelude.{ℕ, Bool, false, ◌&&◌, not, Option, Some, None}
use Rattle.std.specs.List.{count_by, list_all, list_any, range_with_len}
use Rattle.game_rules.specs.Grid.{Grid, is_on, holds, along}
use Rattle.game_rules.specs.Shapes.{stone_at, is_at}
use Rattle.game_rules.specs.declared.Side.{Side}
use Rattle.game_rules.specs.declared.Axis.{Axis}
use Rattle.game_rules.specs.declared.Point.{Point}

-- how many stones of the side stand in the window from p along the axis
unfoldable pub stones_in : Grid → Side → Axis → Point → ℕ
stones_in b s d p = count_by (λ k. stone_at b s (along d p k 0)) (range_with_len 0 5)

-- whether there is such a point, it is on the board, and it holds no stone of the side
abbrev pub is_clear_at : Grid → Side → Option Point → Bool
is_clear_at b s None = false
is_clear_at b s (Some q) = is_on b q && not (holds b s q)

-- whether the window lies on the board and holds no stone of the side, so that the other side may yet fill it
unfoldable pub is_clear_of : Grid → Side → Axis → Point → Bool
is_clear_of b s d p = list_all (λ k. is_clear_at b s (along d p k 0)) (range_with_len 0 5)

-- whether q is one of the five points of the window
unfoldable pub is_in_window : Point → Axis → Point → Bool
is_in_window q d p = list_any (λ k. is_at q (along d p k 0)) (range_with_len 0 5)
