use Rattle.std.proofs.Common.{◌≤◌}
use Rattle.zone_checker.proofs.Marking.{Counted}
use Rattle.zone_checker.proofs.marks.room.Given as goal

abbrev pub invariant-loop-k : goal.invariant-loop-k
invariant-loop-k l = record { few : l.stones ≤ l.k; counted : Counted l.board l.side l.axis l.p l.k l.stones }
