use Rattle.std.proofs.Common.{◌≡◌, arith, sym, ap, ◌∙◌, Some, option_copied}
use Rattle.std.proofs.lemmas.Option.{same_Some}
use Rattle.text_lines.proofs.LineLaws.{bad_column, bad_row}
use Rattle.text_lines.proofs.points.point.Goals as goal

pub returns-in_err-x : goal.returns-in_err-x
returns-in_err-x c = rw c.from_residual.ensures (record {
  point = bad_column c.args.word.now c.cut.result.0.now _ c.args.width c.args.height (omega arith) c.cut.ensures.parts c.cut.ensures.word
      (λ v few e. c.in_err-x.ensures.number v (omega (arith, few)) e);
})

pub returns-in_err-y : goal.returns-in_err-y
returns-in_err-y c = rw c.from_residual-in_err-y.ensures (record {
  point = bad_row c.args.word.now c.cut.result.0.now _ c.args.width c.args.height (omega arith) c.cut.ensures.parts c.cut.ensures.word
      (λ r is v few e.
      let row : Some c.in_ok-row.field-0.now ≡ Some r = sym (ap option_copied c.in_ok-row.was) ∙ is in
      c.in_err-y.ensures.number v (omega (arith, few)) (same_Some c.in_ok-row.field-0.now r row ∙ e));
})
