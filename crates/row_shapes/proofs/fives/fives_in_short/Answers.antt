use Rattle.std.proofs.Common.{sym}
use Rattle.row_shapes.proofs.FiveLaws.{none-short}
use Rattle.row_shapes.proofs.WindowLaws.{passes-all}
use Rattle.row_shapes.proofs.fives.fives_in_short.Goals as goal

pub returns-then-not-some : goal.returns-then-not-some
returns-then-not-some g c = record {
  fives = sym (none-short g.R.Rule.KIND c.args.board.now c.args.side
      (passes-all c.args.board.now c.args.side c.window_lines-lines.result c.window_lines-lines.ensures.lines
      (c.some.ensures.none c.if-not-some.true) g.R.Rule.KIND));
}
