use Rattle.std.proofs.Common.{◌≡◌, ℕ, ◌<◌, false, length, get_or}
use Rattle.game_rules.proofs.Common.{place_stone}
use Rattle.row_shapes.proofs.fours.stones_around.Given as goal

-- the places so far are as the board has them
abbrev pub invariant-loop-i : goal.invariant-loop-i
invariant-loop-i l = (length l.stones ≡ 9) × ((k : ℕ) → k < l.i → get_or l.stones k false ≡ place_stone l.board l.side l.axis l.p k)
