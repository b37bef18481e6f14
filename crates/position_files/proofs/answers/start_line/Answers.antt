use Rattle.std.proofs.Common.{◌≡◌, ap, ◌∙◌}
use Rattle.std.proofs.lemmas.Bool.{both_ways}
use Rattle.std.proofs.lemmas.Result.{err_from_is_err_and}
use Rattle.strategy_graph.specs.Tables.{Answers, names_below}
use Rattle.position_files.proofs.AnswerLaws.{no_start, no_start_answers, bad_start}
use Rattle.position_files.proofs.answers.start_line.Goals as goal

pub returns-in_default : goal.returns-in_default
returns-in_default c = record {
  start = no_start c.args.width c.args.height c.requires.wide c.requires.high c.args.bytes.now c.args.len c.in_default.ensures.text;
}

pub returns-in_err-replies : goal.returns-in_err-replies
returns-in_err-replies c =
    let p = err_from_is_err_and c.from_residual.result c.from_residual.ensures.1 in
    rw (p.1, p.2) (record {
      start = no_start_answers c.args.width c.args.height c.requires.wide c.requires.high c.args.bytes.now c.in-Some.text.now
          c.in-Some.after.now c.args.len c.in-Some.ensures.text.0 c.in-Some.ensures.text.1 c.in_err-replies.field-0.0
          c.in_err-replies.ensures.answers;
    })

pub returns-then-not-is_rising : goal.returns-then-not-is_rising
returns-then-not-is_rising c =
    let found : Answers = record { replies = c.in_ok-replies.replies; rest = c.in_ok-replies.rest } in
    record {
      start = bad_start c.args.width c.args.height c.requires.wide c.requires.high c.args.bytes.now c.in-Some.text.now c.in-Some.after.now
          c.args.len c.in-Some.ensures.text.0 c.in-Some.ensures.text.1 found c.in_ok-replies.ensures.answers.0
          c.in_ok-replies.ensures.answers.1
          (λ fits. both_ways c.is_rising.result c.if-not-is_rising.true (c.is_rising.ensures.rising ∙ fits.start.rising));
    }

pub returns-then-not-names_below : goal.returns-then-not-names_below
returns-then-not-names_below c =
    let found : Answers = record { replies = c.in_ok-replies.replies; rest = c.in_ok-replies.rest } in
    let replies = c.new-start.ensures.replies in
    let rests = c.new-start.ensures.rest in
    let same : c.new-start.result ≡ found = λ i. record { replies = replies i; rest = rests i } in
    record {
      start = bad_start c.args.width c.args.height c.requires.wide c.requires.high c.args.bytes.now c.in-Some.text.now c.in-Some.after.now
          c.args.len c.in-Some.ensures.text.0 c.in-Some.ensures.text.1 found c.in_ok-replies.ensures.answers.0
          c.in_ok-replies.ensures.answers.1 (λ fits. both_ways c.names_below.result c.if-not-names_below.true
          (c.names_below.ensures.below ∙ ap (λ (a : Answers). names_below a c.args.len) same ∙ fits.below));
    }
