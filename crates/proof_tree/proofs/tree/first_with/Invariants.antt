use Rattle.std.proofs.Common.{◌≢◌, ◌<◌, ℕ}
use Rattle.proof_tree.proofs.Common.{sought, numbers_at}
use Rattle.proof_tree.proofs.tree.first_with.Given as goal

abbrev pub invariant-loop-i : goal.invariant-loop-i
invariant-loop-i l = (k : ℕ) → k < l.i → sought l.kind (numbers_at l.children k) ≢ l.least
