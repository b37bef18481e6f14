use Rattle.row_shapes.proofs.NewFives.{told_by}
use Rattle.row_shapes.proofs.new_fives.fives_made.Goals as goal

pub returns : goal.returns
returns g c = record {
  made = told_by g.R.Rule.KIND c.args.board.now c.args.side c.args.p c.with_axis-found.ensures.board c.requires.empty c.requires.none
      c.with_axis-found.result c.with_axis-found-2.result c.with_axis-found-3.result c.with_axis.result
      c.with_axis-found.ensures.fives c.with_axis-found-2.ensures.fives c.with_axis-found-3.ensures.fives c.with_axis.ensures.fives;
}
