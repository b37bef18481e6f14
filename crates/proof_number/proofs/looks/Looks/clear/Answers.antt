use Rattle.std.proofs.Common.{refl}
use Rattle.position_table.proofs.Remembering.{true-none}
use Rattle.proof_number.specs.Looks.{IsTrueLook}
use Rattle.proof_number.proofs.looks.Looks.clear.Goals as goal

pub invariant_of-self : goal.invariant_of-self
invariant_of-self g c = true-none g.R.Rule.KIND (IsTrueLook g.R.Rule.KIND _) _ refl
