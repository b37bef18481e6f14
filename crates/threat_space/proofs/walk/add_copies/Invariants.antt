use Rattle.std.proofs.Common.{◌≡◌, ◌++◌, take}
use Rattle.threat_space.proofs.walk.add_copies.Given as goal

-- the copies so far are added
abbrev pub invariant-loop-threat : goal.invariant-loop-threat
invariant-loop-threat l = l.found ≡ l.fn.found ++ take l.threat-index l.more
