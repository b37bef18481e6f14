use Rattle.std.proofs.Common.{◌∙◌, ap, refl, subst, length, arith, count_by}
use Rattle.game_rules.proofs.Common.{Grid, IsBoard, goes_on, outcome, points_of}
use Rattle.game_rules.proofs.Places.{points_few}
use Rattle.reply_cover.proofs.covering.count_replies.Goals as goal

pub loop-q-init : goal.loop-q-init
loop-q-init g c =
    let all = c.into_iter-q-iterator.ensures.into_iter_gives ∙ c.points-q-items.ensures.points
    ∙ ap (λ (b : Grid). points_of b) c.board.ensures.board in
    let size = ap length all in
    let few = points_few c.args.position.now (subst IsBoard c.board.ensures.board c.points-q-items.ensures.board) in
    let count = ap (count_by (λ q. goes_on (outcome g.R.Rule.KIND c.args.position.now q))) all in
    record { same = refl; few = omega (arith, size, few); all = omega (arith, count) }
