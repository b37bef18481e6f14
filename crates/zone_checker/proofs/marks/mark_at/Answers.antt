use Rattle.zone_checker.proofs.Marking.{read-mark}
use Rattle.zone_checker.proofs.marks.mark_at.Goals as goal

pub returns : goal.returns
returns c = record {
  mark = read-mark c.args.board.now c.args.marks.now c.args.p c.width-width.result _ c.width-width.ensures.board c.requires.on
      c.requires.size c.width-width.ensures.width;
}
