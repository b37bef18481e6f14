use Rattle.std.proofs.Common.{◌≡◌, ◌&&◌, not, filter}
use Rattle.brain_session.proofs.Common.{is_empty, outcome, is_foul, next_to_middle, off_middle}
use Rattle.brain_session.proofs.PlainMoves.{nearest_of}
use Rattle.brain_session.proofs.plain_move.next_to_middle.Given as goal

-- the board is as before; the nearest of the best so far and of those left is the nearest of all
abbrev pub invariant-loop-p : goal.invariant-loop-p
invariant-loop-p g l = record {
  same : l.board ≡ l.fn.board;
  rest : nearest_of (off_middle l.board) l.best
      (filter (λ p. is_empty l.board p && not (is_foul (outcome g.R.Rule.KIND l.board p))) l.p-iterator) ≡ next_to_middle g.R.Rule.KIND
      l.board;
}
