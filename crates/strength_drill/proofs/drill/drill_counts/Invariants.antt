use Rattle.strength_drill.specs.Counts.{AreCounts, AreWithin}
use Rattle.strength_drill.proofs.drill.drill_counts.Given as goal

-- the counts are those of as many positions
abbrev pub invariant-loop-i : goal.invariant-loop-i
invariant-loop-i l = record { counted : AreCounts l.number l.i l.counts l.draws.number; within : AreWithin l.i l.counts }
