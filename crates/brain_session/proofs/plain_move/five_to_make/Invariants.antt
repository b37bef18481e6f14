use Rattle.std.proofs.Common.{◌≡◌, find}
use Rattle.brain_session.proofs.Common.{five, five_to_make}
use Rattle.brain_session.proofs.plain_move.five_to_make.Given as goal

-- the first five point of those left is the first of all
abbrev pub invariant-loop-p : goal.invariant-loop-p
invariant-loop-p g l = find (five g.R.Rule.KIND l.board l.side) l.p-iterator ≡ five_to_make g.R.Rule.KIND l.board
