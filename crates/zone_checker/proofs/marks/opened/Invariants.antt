use Rattle.std.proofs.Common.{◌≡◌, length}
use Rattle.zone_checker.proofs.Filling.{OpenedTo}
use Rattle.zone_checker.proofs.marks.opened.Given as goal

abbrev pub invariant-loop-p : goal.invariant-loop-p
invariant-loop-p l = record { size : length l.marks.items ≡ l.p-index; each : OpenedTo l.board l.side l.points l.marks.items l.p-index }
