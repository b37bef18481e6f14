use Rattle.std.proofs.Common.{◌≡◌}
use Rattle.line_proof.proofs.doubles.find_double_threat.Given as goal

-- the view is as before
abbrev pub invariant-loop-start : goal.invariant-loop-start
invariant-loop-start g l = g.V.Seen.position l.view ≡ g.V.Seen.position l.fn.view
