-- Stones of either side.
use Rattle.std.proofs.Common.{◌≡◌, true}
use Rattle.stone_board.proofs.Common.{Grid, IsBoard, is_on, is_empty, cell_at, holds, put, Side, Point, holds_stone}
use Rattle.game_rules.proofs.Boards.{holds-put_same, is_empty-on}
use Rattle.game_rules.proofs.Cells.{stone_by}

-- a stone of a side is a stone
pub holds-holds_stone : (b : Grid) (s : Side) (p : Point) → holds b s p ≡ true → holds_stone b p ≡ true
holds-holds_stone b s p h = stone_by s (is_on b p) (cell_at b p) h

-- what is put on an empty point can be lifted
pub put-holds_stone : (b : Grid) (s : Side) (p : Point) → IsBoard b → is_empty b p ≡ true → holds_stone (put b s p) p ≡ true
put-holds_stone b s p ok empty = holds-holds_stone (put b s p) s p (holds-put_same b s p ok (is_empty-on b p empty))
