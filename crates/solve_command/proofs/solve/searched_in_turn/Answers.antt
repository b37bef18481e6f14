use Rattle.std.proofs.Common.{◌-◌, ◌/◌, arith}
use Rattle.solve_command.proofs.Solutions.{longer-win}
use Rattle.solve_command.proofs.solve.searched_in_turn.Goals as goal

pub returns-in-Win-clause-told : goal.returns-in-Win-clause-told
returns-in-Win-clause-told g c =
    let rule = g.R.Rule.KIND in
    let fewer = c.args.depth - c.args.depth / 3 in
    longer-win rule fewer c.args.depth c.args.nodes c.args.view.now c.in-Win.compiler c.in-Win.win (omega arith)
    (rw c.in-Win.is at c.in_ok-compiler.ensures.told)
