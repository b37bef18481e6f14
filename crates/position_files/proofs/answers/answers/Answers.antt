use Rattle.std.proofs.lemmas.Bool.{both_ways}
use Rattle.std.proofs.lemmas.Result.{err_from_is_err_and}
use Rattle.position_files.proofs.AnswerLaws.{no_rest, no_replies}
use Rattle.position_files.proofs.answers.answers.Goals as goal

pub returns-in_default : goal.returns-in_default
returns-in_default c = record {
  answers = no_rest c.args.width c.args.height c.requires.wide c.requires.high c.args.bytes.now
      (λ e. both_ways c.is_text.result c.if-is_text.false (c.is_text.ensures.same.1 e)) c.in_default.ensures.rest;
}

pub returns-in_err-replies : goal.returns-in_err-replies
returns-in_err-replies c =
    let p = err_from_is_err_and c.from_residual.result c.from_residual.ensures.1 in
    rw (p.1, p.2) (record {
      answers = no_replies c.args.width c.args.height c.requires.wide c.requires.high c.in_err-replies.field-0.0 c.args.bytes.now
          c.in-Some.rest _ c.in-Some.ensures.rest.0 c.in-Some.ensures.rest.1 c.in_err-replies.ensures.replies;
    })
