use Rattle.std.proofs.Common.{◌≡◌, ◌≤◌, ◌++◌, length}
use Rattle.std.specs.Fmt.{decimal}
use Rattle.position_files.proofs.fronts.number.Given as goal

-- the bytes begin with the number, which is no zero, and go on with the rest
abbrev pub invariant-loop-last : goal.invariant-loop-last
invariant-loop-last l = record { some : 1 ≤ l.number; text : l.bytes ≡ decimal l.number ++ l.rest }

abbrev pub decreases-loop-last : goal.decreases-loop-last
decreases-loop-last l = length l.rest
