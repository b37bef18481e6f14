use Rattle.std.proofs.Common.{◌≡◌, drop}
use Rattle.threat_space.specs.Sequences.{is_needed}
use Rattle.threat_space.proofs.needs.some_depends.Given as goal

-- the gain is needed of the threats left at the board now exactly where it is of all at the board before
abbrev pub invariant-loop-threat : goal.invariant-loop-threat
invariant-loop-threat g l = is_needed g.R.Rule.KIND l.side l.last l.here l.gain (drop l.threat-index l.threats) ≡ is_needed g.R.Rule.KIND
    l.side l.last l.fn.here l.gain l.threats
