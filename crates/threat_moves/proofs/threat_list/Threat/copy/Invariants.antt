use Rattle.std.proofs.Common.{◌≡◌, ◌++◌, drop}
use Rattle.threat_moves.proofs.threat_list.Threat.copy.Given as goal

-- the costs copied, and those left, are all
abbrev pub invariant-loop-p : goal.invariant-loop-p
invariant-loop-p l = l.costs ++ drop l.p-index l.p-items ≡ l.p-items
