use Rattle.std.proofs.Common.{refl, sym, ◌∙◌}
use Rattle.brain_session.proofs.PlainMoves.{nearest-init, nearest-turn, passed-taken, passed-far, passed-foul}
use Rattle.brain_session.proofs.plain_move.next_to_middle.Goals as goal
use Rattle.brain_session.proofs.plain_move.next_to_middle.Goals.{else-is_empty-via-then-is_empty+then-is_nearer+else-not-fouls}
use Rattle.brain_session.proofs.plain_move.next_to_middle.Goals.{else-is_empty-via-then-is_empty+else-is_nearer}
use Rattle.brain_session.proofs.plain_move.next_to_middle.Goals.{else-is_empty-via-else-is_empty}

pub loop-p-init : goal.loop-p-init
loop-p-init g c = record {
  same = refl;
  rest = nearest-init g.R.Rule.KIND c.args.board.now c.points-p-items.result c.into_iter-p-iterator.result c.points-p-items.ensures.points
      c.into_iter-p-iterator.ensures.into_iter_gives;
}

pub loop-p-preserved : goal.loop-p-preserved
loop-p-preserved g c = elim c.else-is_empty.branch [
  | else-is_empty-via-then-is_empty+then-is_nearer+else-not-fouls w ↦
      let same = w.board-is ∙ w.fouls.ensures.same in record {
        same = same ∙ c.loop-p.invariant.same;
        rest = nearest-turn g.R.Rule.KIND c.loop-p.board c.else-is_empty.board c.loop-p.best c.in-Some.p c.loop-p.p-iterator c.next.new.self
            same c.in-Some.ensures.steps c.loop-p.invariant.rest
            (passed-foul g.R.Rule.KIND c.loop-p.board c.loop-p.best c.in-Some.p (sym w.fouls.ensures.foul ∙ w.if-not-fouls.false));
      }
  | else-is_empty-via-then-is_empty+else-is_nearer w ↦ record {
    same = w.board-is ∙ c.loop-p.invariant.same;
    rest = nearest-turn g.R.Rule.KIND c.loop-p.board c.else-is_empty.board c.loop-p.best c.in-Some.p c.loop-p.p-iterator c.next.new.self
        w.board-is c.in-Some.ensures.steps c.loop-p.invariant.rest
        (passed-far g.R.Rule.KIND c.loop-p.board c.loop-p.best c.in-Some.p (sym w.is_nearer.ensures.nearer ∙ w.if-is_nearer.false));
  }
  | else-is_empty-via-else-is_empty w ↦ record {
    same = w.board-is ∙ c.loop-p.invariant.same;
    rest = nearest-turn g.R.Rule.KIND c.loop-p.board c.else-is_empty.board c.loop-p.best c.in-Some.p c.loop-p.p-iterator c.next.new.self
        w.board-is c.in-Some.ensures.steps c.loop-p.invariant.rest
        (passed-taken g.R.Rule.KIND c.loop-p.board c.loop-p.best c.in-Some.p (sym c.is_empty.ensures.empty ∙ w.if-is_empty.false));
  }
]
