use Rattle.brain_session.specs.States.{empty_board}
use Rattle.brain_session.proofs.BatchGames.{fit-stones, waits-next, put-more}
use Rattle.brain_session.proofs.batch.BatchReader.board.Goals as goal

pub loop-stone-preserved : goal.loop-stone-preserved
loop-stone-preserved c =
    let start = empty_board c.args.width c.args.height in
    let stones = c.stones-stone-items.result.now in
    let fit = fit-stones c.args.self.now start stones c.requires.fit c.stones-stone-items.ensures.stones in
    record {
      put_so_far = put-more c.args.brain c.side_of.result start c.loop-stone.board c.put.new.self stones c.loop-stone.stone-index _
          c.loop-stone-test.true c.side_of.ensures.side c.put.ensures.put c.loop-stone.invariant.put_so_far;
      waits = waits-next stones c.loop-stone.stone-index start c.loop-stone.board c.put.new.self c.side_of.result _ fit
          c.loop-stone.invariant.waits c.loop-stone-test.true c.put.ensures.put;
    }
