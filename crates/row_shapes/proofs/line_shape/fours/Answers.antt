use Rattle.std.proofs.Common.{sym, arith}
use Rattle.row_shapes.proofs.Common.{seen}
use Rattle.row_shapes.proofs.HalfShapes.{no_fours, all_fours}
use Rattle.row_shapes.proofs.line_shape.fours.Goals as goal

pub returns-then-ahead-behind-lt3 : goal.returns-then-ahead-behind-lt3
returns-then-ahead-behind-lt3 c =
    record { fours = λ b p sees. sym (no_fours (seen c.args.ahead.now) (seen c.args.behind.now) b p sees c.args.any (omega arith)) }

pub returns : goal.returns
returns c = record {
  fours = λ b p sees.
      rw (
        c.fours_from.ensures.fours,
        c.fours_from-2.ensures.fours,
        c.fours_from-3.ensures.fours,
        c.fours_from-4.ensures.fours,
        c.fours_from-5.ensures.fours,
        c.nine_places-stones.ensures.stones,
      )
      (sym (all_fours (seen c.args.ahead.now) (seen c.args.behind.now) b p sees c.args.any));
}
