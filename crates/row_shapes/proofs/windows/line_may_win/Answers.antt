use Rattle.std.proofs.Common.{refl, subst}
use Rattle.game_rules.specs.declared.Side.{Side}
use Rattle.stone_board.specs.Lines.{TellsLine}
use Rattle.row_shapes.proofs.WindowLaws.{no_window, rival_clear, zero_clear, is_zero}
use Rattle.row_shapes.proofs.windows.line_may_win.Goals as goal

pub returns-then-may_hold_four : goal.returns-then-may_hold_four
returns-then-may_hold_four c = record {
  none = λ off. no_window c.args.board.now c.args.side c.args.axis c.args.n c.line-own.result c.line.result
      c.line.ensures.board c.line-own.ensures.tells
      (rival_clear c.args.board.now c.args.side c.args.axis c.args.n c.line.result c.line.ensures.board
      (subst (λ (t : Side). TellsLine c.args.board.now t c.args.axis c.args.n c.line.result) c.other.ensures.other c.line.ensures.tells))
      c.windows.result c.windows.ensures.windows (is_zero c.windows.result off);
}

pub returns-else-may_hold_four : goal.returns-else-may_hold_four
returns-else-may_hold_four c = record {
  none = λ off. no_window c.args.board.now c.args.side c.args.axis c.args.n c.line-own.result 0
      c.line-own.ensures.board c.line-own.ensures.tells (zero_clear c.args.board.now c.args.axis c.args.n)
      0 (λ i j h. absurd (c.may_hold_four.ensures.none off 0 i j h)) refl;
}
