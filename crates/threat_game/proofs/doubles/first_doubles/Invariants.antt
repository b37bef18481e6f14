use Rattle.std.proofs.Common.{◌≡◌}
use Rattle.threat_game.proofs.FirstDoubles.{FirstSoFar}
use Rattle.threat_game.proofs.doubles.first_doubles.Given as goal

-- the board is as before; what was found are the first double points before the points left
abbrev pub invariant-loop-p : goal.invariant-loop-p
invariant-loop-p g l = (l.board ≡ l.fn.board) × FirstSoFar g.R.Rule.KIND l.fn.board l.side l.found.items l.p-iterator
