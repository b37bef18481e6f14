use Rattle.std.proofs.Common.{sym}
use Rattle.row_shapes.proofs.WindowLaws.{passes-all}
use Rattle.row_shapes.proofs.fives.has_five.Goals as goal

pub returns-then-not-some : goal.returns-then-not-some
returns-then-not-some g c = record {
  five = sym (passes-all c.args.board.now c.args.side c.window_lines-lines.result c.window_lines-lines.ensures.lines
      (c.some.ensures.none c.if-not-some.true) g.R.Rule.KIND);
}
