use Rattle.std.proofs.Common.{ap, arith, option_copied}
use Rattle.std.proofs.lemmas.Bool.{both_ways}
use Rattle.position_files.proofs.AnswerLaws.{no_rest_word, no_rest_number}
use Rattle.position_files.proofs.answers.rest.Goals as goal

pub returns-then-not-is_text : goal.returns-then-not-is_text
returns-then-not-is_text c = record {
  rest = no_rest_word c.args.bytes.now c.cut.result.0.now _ c.cut.ensures.parts c.cut.ensures.word
      (λ e. both_ways c.is_text.result c.if-is_text.false (c.is_text.ensures.same.1 e))
      (λ e. both_ways c.is_text-2.result c.if-not-is_text.true (c.is_text-2.ensures.same.1 e));
}

pub returns-in_err-number : goal.returns-in_err-number
returns-in_err-number c = rw c.from_residual-in_err-number.ensures (record {
  rest = no_rest_number c.args.bytes.now c.cut.result.0.now c.in_ok-tail.field-0.now c.cut-2.result.0.now _ _ c.cut.ensures.parts
      c.cut.ensures.word (λ e. both_ways c.is_text.result c.if-is_text.false (c.is_text.ensures.same.1 e))
      (ap option_copied c.in_ok-tail.was) c.cut-2.ensures.parts c.cut-2.ensures.word
      (λ n few e. c.in_err-number.ensures.number n (omega (arith, few)) e);
})
