use Rattle.std.proofs.Common.{◌&&◌, not, subst, arith}
use Rattle.std.proofs.lemmas.List.Sums.{count_by-le-length}
use Rattle.strategy_checker.proofs.Common.{IsBoard, points_of, outcome, goes_on, is_apart}
use Rattle.game_rules.proofs.Places.{points_few}
use Rattle.strategy_checker.proofs.others.asked_others.Goals as goal

-- no more are counted than there are points
pub overflow_add-count : goal.overflow_add-count
overflow_add-count g c =
    let counted = c.loop-q.invariant.counted in
    let most = count_by-le-length
    (λ q. goes_on (outcome g.R.Rule.KIND c.args.position.now q) && not (is_apart c.args.replies.now c.args.w q))
    (points_of c.args.position.now) in
    let few = points_few c.args.position.now (subst IsBoard c.board.ensures.board c.points-q-items.ensures.board) in
    omega (arith, counted, most, few)
