use Rattle.std.proofs.Common.{ap, option_copied}
use Rattle.std.proofs.lemmas.Result.{err_from_is_err_and}
use Rattle.position_files.proofs.AnswerLaws.{bad_attack, bad_answers}
use Rattle.position_files.proofs.answers.node.Goals as goal

pub returns-in_default : goal.returns-in_default
returns-in_default c = record {
  node = bad_attack c.args.width c.args.height c.requires.wide c.requires.high c.args.line.now
      c.cut.result.0.now _ c.cut.ensures.parts c.cut.ensures.word c.in_default.ensures.point;
}

pub returns-in_err-replies : goal.returns-in_err-replies
returns-in_err-replies c =
    let p = err_from_is_err_and c.from_residual.result c.from_residual.ensures.1 in
    rw (p.1, p.2) (record {
      node = bad_answers c.args.width c.args.height c.requires.wide c.requires.high c.in_err-replies.field-0.0 c.args.line.now
          c.cut.result.0.now c.in-Some-text.text.now _ c.cut.ensures.parts c.cut.ensures.word (ap option_copied c.in-Some-text.is)
          c.in_err-replies.ensures.answers;
    })
