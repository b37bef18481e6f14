use Rattle.std.proofs.Common.{◌≡◌, ℕ, ◌<◌, ◌≤◌, Some, slice_get}
use Rattle.join_command.proofs.Common.{TableFile, LacksZone}
use Rattle.join_command.proofs.answering.first_zone.Given as goal

abbrev pub invariant-loop-k : goal.invariant-loop-k
invariant-loop-k g l =
    (j : ℕ) (other : TableFile) → l.from ≤ j → j < l.k → slice_get l.files j ≡ Some other → LacksZone g.R.Rule.KIND l.position other
