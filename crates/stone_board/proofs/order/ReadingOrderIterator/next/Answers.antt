use Rattle.std.proofs.Common.{◌≡◌, ◌<◌, true, ◌∷◌, length, nat_lt, sym, ap, ◌∙◌, arith}
use Rattle.std.proofs.lemmas.Bool.Decides.{nat_tests}
use Rattle.stone_board.proofs.Common.{Point, points_left}
use Rattle.stone_board.proofs.Orders.{points_left-next}
use Rattle.stone_board.proofs.order.ReadingOrderIterator.next.Goals as goal

first : goal.returns-clause-steps
first c =
    let row : nat_lt c.self.inside.next.y c.self.inside.height ≡ true = grind (arith, nat_tests) in
    sym c.self.view_is ∙ points_left-next c.self.inside.width c.self.inside.height c.self.inside.next c.self.invariant row
    ∙ ap (λ (p : Point). c.self.inside.next ∷ points_left c.self.inside.width c.self.inside.height p)
    (sym c.following-self-inside.ensures.following)

pub returns-clause-steps : goal.returns-clause-steps
returns-clause-steps c = first c

pub returns-clause-goes : goal.returns-clause-goes
returns-clause-goes c =
    let fewer : length (points_left c.self.inside.width c.self.inside.height c.following-self-inside.result) < length c.args.self.now =
    let e = ap length (first c) in omega (arith, e) in
    record { on = λ f. (tt, tt, fewer); keeps = tt; rests = λ f. tt }
