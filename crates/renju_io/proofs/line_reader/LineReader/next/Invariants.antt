use Rattle.std.proofs.Common.{◌≡◌, false, ◌+◌, ◌-◌}
use Rattle.renju_io.proofs.Common.{IsAskedWithin, HasStayed, reads_for, ReadsNoFurther}
use Rattle.renju_io.specs.declared.TheConstants.{MAX_SESSION_BYTES}
use Rattle.renju_io.proofs.LinesSoFar.{Reading}
use Rattle.renju_io.proofs.line_reader.LineReader.next.Given as goal

-- the reader has taken some bytes of the source, one at least by each read and none once the line had ended; the source has not
-- told its end and counted no fault
abbrev pub invariant-loop-self : goal.invariant-loop-self
invariant-loop-self g l =
    Reading l.initial.self (g.S.Source.left l.initial.source) l.self (g.S.Source.left l.source)
    × (l.self.ended ≡ false)
    × HasStayed (g.S.Source.faults l.initial.source) (g.S.Source.faults l.source)
    × IsAskedWithin (reads_for l.initial.self) l.self.taken (g.S.Source.asked l.initial.source) (g.S.Source.asked l.source)
    × ReadsNoFurther l.initial.self l.self (g.S.Source.left l.initial.source) (g.S.Source.left l.source)
    (g.S.Source.last l.initial.source) (g.S.Source.last l.source)

abbrev pub decreases-loop-self : goal.decreases-loop-self
decreases-loop-self g l = MAX_SESSION_BYTES + 1 - l.self.taken
