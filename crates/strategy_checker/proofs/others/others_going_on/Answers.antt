use Rattle.std.proofs.Common.{◌≡◌, ◌∙◌, ◌&&◌, not, false, sym, ap, count_by}
use Rattle.strategy_checker.proofs.Common.{Grid, is_empty, points_of, mover, has_fouls, is_apart}
use Rattle.strategy_checker.proofs.Counted.{count-going}
use Rattle.strategy_checker.proofs.others.others_going_on.Goals as goal

pub returns-else-has_fouls-clause-count : goal.returns-else-has_fouls-clause-count
returns-else-has_fouls-clause-count g c =
    let calm : has_fouls g.R.Rule.KIND (mover c.args.position.now) ≡ false =
    ap (has_fouls g.R.Rule.KIND) (sym c.side.ensures.side) ∙ sym c.has_fouls.ensures.fouls ∙ c.if-has_fouls.false in
    c.empty_others.ensures.count
    ∙ ap (λ (b : Grid). count_by (λ q. is_empty b q && not (is_apart c.args.replies.now c.args.w q)) (points_of b)) c.board.ensures.board
    ∙ count-going g.R.Rule.KIND c.args.position.now c.args.replies.now c.args.w c.requires.free calm c.requires.more
