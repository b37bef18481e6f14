use Rattle.std.proofs.Common.{◌<◌, length, sym, ap, ◌∙◌, arith}
use Rattle.std.specs.Prelude.{bit_xor}
use Rattle.open_windows.specs.PointSets.{set_points}
use Rattle.open_windows.proofs.SetOrder.{first-point}
use Rattle.open_windows.proofs.set_points.SetPointsIterator.next.Goals as goal

pub invariant_of-self : goal.invariant_of-self
invariant_of-self c =
    (first-point c.self.inside.rows c.self.inside.width c.self.inside.height c.self.inside.row.y c.self.inside.row.bits c.in-Some.row.y
    c.in-Some.row.bits c.bit_of_place.result c.in-Some.ensures.some c.bit_of_place.ensures.bit).1

first : goal.returns-in-Some-clause-steps
first c =
    sym c.self.view_is
    ∙ (first-point c.self.inside.rows c.self.inside.width c.self.inside.height c.self.inside.row.y c.self.inside.row.bits c.in-Some.row.y
    c.in-Some.row.bits c.bit_of_place.result c.in-Some.ensures.some c.bit_of_place.ensures.bit).0

pub returns-in-Some-clause-steps : goal.returns-in-Some-clause-steps
returns-in-Some-clause-steps c = first c

pub returns-in-Some-clause-goes : goal.returns-in-Some-clause-goes
returns-in-Some-clause-goes c =
    let fewer : length (set_points c.self.inside.rows c.self.inside.width c.self.inside.height c.in-Some.row.y
    (bit_xor c.in-Some.row.bits c.bit_of_place.result)) < length c.args.self.now = let e = ap length (first c) in omega (arith, e) in
    record { on = λ f. (tt, tt, fewer); keeps = tt; rests = λ f. tt }
