use Rattle.std.proofs.Common.{◌≡◌, drop}
use Rattle.threat_space.specs.Sequences.{all_needed}
use Rattle.threat_space.proofs.needs.gains_needed.Given as goal

-- all gains of the threats left are needed at the board now exactly where all are at the board before
abbrev pub invariant-loop-i : goal.invariant-loop-i
invariant-loop-i g l = all_needed g.R.Rule.KIND l.side l.last l.here (drop l.i l.threats) ≡ all_needed g.R.Rule.KIND l.side l.last
    l.fn.here l.threats
