use Rattle.std.proofs.Common.{◌≡◌, ◌++◌, drop}
use Rattle.threat_moves.proofs.threat_list.Threats.copy.Given as goal

-- the threats copied, and those left, are all
abbrev pub invariant-loop-threat : goal.invariant-loop-threat
invariant-loop-threat l = l.copied ++ drop l.threat-index l.threat-items ≡ l.threat-items
