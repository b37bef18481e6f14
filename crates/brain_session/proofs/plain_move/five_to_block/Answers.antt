use Rattle.std.proofs.Common.{refl, sym, ◌∙◌}
use Rattle.brain_session.proofs.PlainMoves.{block-init, block-turn, unfit-no_five, unfit-foul}
use Rattle.brain_session.proofs.plain_move.five_to_block.Goals as goal
use Rattle.brain_session.proofs.plain_move.five_to_block.Goals.{else-is_five_point-via-then-is_five_point+else-not-fouls, else-is_five_point-via-else-is_five_point}

pub loop-p-init : goal.loop-p-init
loop-p-init g c = record {
  same = refl;
  rest = block-init g.R.Rule.KIND c.args.board.now c.mover.result c.other-side.result c.points-p-items.result c.into_iter-p-iterator.result
      c.mover.ensures.mover c.other-side.ensures.other c.points-p-items.ensures.points c.into_iter-p-iterator.ensures.into_iter_gives;
}

pub loop-p-preserved : goal.loop-p-preserved
loop-p-preserved g c = elim c.else-is_five_point.branch [
  | else-is_five_point-via-then-is_five_point+else-not-fouls w ↦
      let same = w.board-is ∙ w.fouls.ensures.same in record {
        same = same ∙ c.loop-p.invariant.same;
        rest = block-turn g.R.Rule.KIND c.loop-p.board c.else-is_five_point.board c.other-side.result c.in-Some.p c.loop-p.p-iterator
            c.next.new.self same c.in-Some.ensures.steps c.loop-p.invariant.rest
            (unfit-foul g.R.Rule.KIND c.loop-p.board c.other-side.result c.in-Some.p (sym w.fouls.ensures.foul ∙ w.if-not-fouls.false));
      }
  | else-is_five_point-via-else-is_five_point w ↦ record {
    same = w.board-is ∙ c.loop-p.invariant.same;
    rest = block-turn g.R.Rule.KIND c.loop-p.board c.else-is_five_point.board c.other-side.result c.in-Some.p c.loop-p.p-iterator c.next.new.self
        w.board-is c.in-Some.ensures.steps c.loop-p.invariant.rest
        (unfit-no_five g.R.Rule.KIND c.loop-p.board c.other-side.result c.in-Some.p (sym c.is_five_point.ensures.five ∙ w.if-is_five_point.false));
  }
]
