use Rattle.std.proofs.Common.{◌≡◌, ◌<◌, ℕ, false}
use Rattle.zone_checker.proofs.Common.{along, is_full_at}
use Rattle.zone_checker.proofs.marks.is_full.Given as goal

abbrev pub invariant-loop-k : goal.invariant-loop-k
invariant-loop-k l = record { none : (j : ℕ) → j < l.k → is_full_at l.board l.marks l.axis (along l.axis l.q 0 j) ≡ false }
