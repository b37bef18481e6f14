use Rattle.std.proofs.Common.{◌<◌, arith}
use Rattle.std.proofs.lemmas.Nat.{pow_below, one_shl}
use Rattle.row_shapes.proofs.threes.bit.Goals as goal

pub returns-in-Some-clause-bound : goal.returns-in-Some-clause-bound
returns-in-Some-clause-bound c =
    let small : c.in-Some.i < 11 = c.requires.small c.in-Some.i c.in-Some.is in
    let power = pow_below c.in-Some.i 11 small in
    let shift = one_shl c.in-Some.i 16 (omega arith) in
    omega (arith, power, shift)
