use Rattle.std.proofs.Common.{ap, arith, option_copied}
use Rattle.position_files.proofs.AnswerLaws.{bad_at, bad_next}
use Rattle.position_files.proofs.answers.reply.Goals as goal

pub returns-in_err-at : goal.returns-in_err-at
returns-in_err-at c = rw c.from_residual.ensures (record {
  reply = bad_at c.args.width c.args.height c.requires.wide c.requires.high c.args.word.now c.cut.result.0.now _ c.cut.ensures.parts
      c.cut.ensures.word c.in_err-at.ensures.point;
})

pub returns-in_err-next-2 : goal.returns-in_err-next-2
returns-in_err-next-2 c = rw c.from_residual-in_err-next-2.ensures (record {
  reply = bad_next c.args.width c.args.height c.requires.wide c.requires.high c.args.word.now c.cut.result.0.now c.in_ok-next.field-0.now _
      c.cut.ensures.parts c.cut.ensures.word (ap option_copied c.in_ok-next.was)
      (λ n few e. c.in_err-next-2.ensures.number n (omega (arith, few)) e);
})
