use Rattle.std.proofs.Common.{◌≡◌, ℕ, ◌<◌, Some, slice_get}
use Rattle.position_files.specs.declared.TableFile.{TableFile}
use Rattle.join_command.specs.Answering.{IsTableOf}
use Rattle.join_command.proofs.answering.first_table.Given as goal

abbrev pub invariant-loop-k : goal.invariant-loop-k
invariant-loop-k l = (j : ℕ) (other : TableFile) → j < l.k → slice_get l.files j ≡ Some other → IsTableOf l.kind l.board other → ⊥
