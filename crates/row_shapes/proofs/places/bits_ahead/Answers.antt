use Rattle.std.proofs.Common.{arith}
use Rattle.std.proofs.lemmas.Nat.{one_shl}
use Rattle.row_shapes.proofs.HalfPlaces.{ahead_bit}
use Rattle.row_shapes.proofs.places.bits_ahead.Goals as goal

pub returns-clause-bits : goal.returns-clause-bits
returns-clause-bits c = λ i low. ahead_bit c.args.reach c.args.bits _ i (one_shl c.args.reach 64 (omega arith)) low
