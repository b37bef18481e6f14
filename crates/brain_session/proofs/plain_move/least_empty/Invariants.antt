use Rattle.std.proofs.Common.{◌≡◌, find}
use Rattle.game_rules.proofs.Common.{is_empty, points_of}
use Rattle.brain_session.proofs.plain_move.least_empty.Given as goal

-- the first empty point of those left is the first of all
abbrev pub invariant-loop-p : goal.invariant-loop-p
invariant-loop-p l = find (is_empty l.board) l.p-iterator ≡ find (is_empty l.board) (points_of l.board)
