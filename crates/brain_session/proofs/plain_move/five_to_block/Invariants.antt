use Rattle.std.proofs.Common.{◌≡◌, ◌&&◌, not, find}
use Rattle.brain_session.proofs.Common.{five, outcome, is_foul, five_to_block}
use Rattle.brain_session.proofs.plain_move.five_to_block.Given as goal

-- the board is as before; the first of those left is the first of all
abbrev pub invariant-loop-p : goal.invariant-loop-p
invariant-loop-p g l = record {
  same : l.board ≡ l.fn.board;
  rest : find (λ p. five g.R.Rule.KIND l.board l.side p && not (is_foul (outcome g.R.Rule.KIND l.board p))) l.p-iterator ≡ five_to_block
      g.R.Rule.KIND l.board;
}
