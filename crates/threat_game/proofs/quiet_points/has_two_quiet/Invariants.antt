use Rattle.std.specs.Prelude.{IfSome}
use Rattle.threat_game.specs.QuietPoints.{IsQuiet}
use Rattle.threat_game.proofs.quiet_points.has_two_quiet.Given as goal

-- the first point found is quiet
abbrev pub invariant-loop-q : goal.invariant-loop-q
invariant-loop-q l = IfSome l.first (IsQuiet l.board)
