use Rattle.std.proofs.Common.{refl}
use Rattle.std.proofs.lemmas.Nat.Bits.{shr_and_one}
use Rattle.row_shapes.proofs.halves.is_set.Goals as goal

pub returns : goal.returns
returns c = record { set = rw (shr_and_one c.args.bits c.args.k) refl }
