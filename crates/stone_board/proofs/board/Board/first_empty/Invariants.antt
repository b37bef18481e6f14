use Rattle.std.proofs.Common.{◌≡◌, find}
use Rattle.game_rules.proofs.Common.{is_empty}
use Rattle.stone_board.proofs.board.Board.first_empty.Given as goal

-- the first empty point of those left is the first of all
abbrev pub invariant-loop-p : goal.invariant-loop-p
invariant-loop-p l = find (is_empty l.self) l.p-iterator ≡ find (is_empty l.self) l.fn.order
