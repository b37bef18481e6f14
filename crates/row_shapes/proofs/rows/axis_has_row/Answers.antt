use Rattle.std.proofs.Common.{◌≡◌, inl, inr, subst, arith}
use Rattle.std.proofs.lemmas.Bool.{cases_lt, both_ways}
use Rattle.stone_board.specs.Lines.{TellsLine, line_of}
use Rattle.row_shapes.proofs.WindowLaws.{no_run}
use Rattle.row_shapes.proofs.rows.axis_has_row.Goals as goal

pub loop-n-preserved : goal.loop-n-preserved
loop-n-preserved c = λ rule q low stone. elim (cases_lt (line_of c.args.axis q) c.loop-n.n) [
  | inl less ↦ c.loop-n.invariant rule q less stone
  | inr here ↦
      let same : c.loop-n.n ≡ line_of c.args.axis q = omega (arith, here, low) in
      let tells = subst (λ n. TellsLine c.args.board.now c.args.side c.args.axis n c.line.result) same c.line.ensures.tells in
      no_run rule c.args.board.now c.args.side c.args.axis q c.line.result c.line.ensures.board tells
      (λ row. both_ways _ c.if-has_row.false (c.has_row.ensures.row.1 row)) stone
]
