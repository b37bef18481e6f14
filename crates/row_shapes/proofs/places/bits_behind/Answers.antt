use Rattle.std.proofs.Common.{◌≤◌, inl, inr, arith}
use Rattle.row_shapes.proofs.HalfPlaces.{behind_bit, behind_low}
use Rattle.row_shapes.proofs.places.bits_behind.Goals as goal

pub returns-clause-bits : goal.returns-clause-bits
returns-clause-bits c =
    let few : c.args.reach ≤ 5 = elim c.requires.reach [ inl four ↦ omega (arith, four) | inr five ↦ omega (arith, five) ] in
    λ i low. behind_bit c.args.reach c.args.bits i few low

pub returns-clause-bound : goal.returns-clause-bound
returns-clause-bound c = behind_low c.args.reach c.args.bits c.requires.reach
