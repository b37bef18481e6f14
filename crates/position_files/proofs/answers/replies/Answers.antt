use Rattle.std.proofs.Common.{ℕ, arith, List, Bor, length, length-append, ap, option_copied, Option}
use Rattle.position_files.proofs.Common.{space, tail_text, reply_text, ReplyFits}
use Rattle.text_lines.proofs.Items.{begins, stops, goes_on, ends}
use Rattle.position_files.proofs.AnswerLaws.{reply_items}
use Rattle.position_files.proofs.answers.replies.Goals as goal

pub loop-rest-init : goal.loop-rest-init
loop-rest-init c = rw c.new-replies.ensures.empty
    (begins (ReplyFits c.args.width c.args.height) reply_text (tail_text space (option_copied c.args.tail)))

pub returns-in_default-reply : goal.returns-in_default-reply
returns-in_default-reply c =
    let now = rw c.in-Some.is at c.loop-rest.invariant in
    record {
      replies = stops (ReplyFits c.args.width c.args.height) reply_text
          (reply_items c.args.width c.args.height c.requires.wide c.requires.high) c.loop-rest.replies c.in-Some.text.now c.cut.result.0.now
          _ (tail_text space (option_copied c.args.tail)) now c.cut.ensures.parts c.cut.ensures.word c.in_default-reply.ensures.reply;
    }

pub loop-rest-smaller : goal.loop-rest-smaller
loop-rest-smaller c =
    let before = ap (λ (t : Option (Bor (List ℕ))). length (tail_text space (option_copied t))) c.in-Some.is in
    omega (arith, before, ap length c.cut.ensures.parts, length-append c.cut.result.0.now (tail_text space (option_copied c.cut.result.1)))

pub loop-rest-preserved : goal.loop-rest-preserved
loop-rest-preserved c =
    let now = rw c.in-Some.is at c.loop-rest.invariant in
    rw c.in_ok-push.ensures.pushed
    (goes_on (ReplyFits c.args.width c.args.height) reply_text (reply_items c.args.width c.args.height c.requires.wide c.requires.high)
    c.loop-rest.replies c.in-Some-reply.found c.in-Some.text.now c.cut.result.0.now _ (tail_text space (option_copied c.args.tail)) now
    c.cut.ensures.parts c.cut.ensures.word c.in-Some-reply.ensures.reply.0 c.in-Some-reply.ensures.reply.1)

pub returns : goal.returns
returns c =
    let now = rw c.in_default.is at c.loop-rest.invariant in
    record {
      replies = ends (ReplyFits c.args.width c.args.height) reply_text c.loop-rest.replies
          (tail_text space (option_copied c.args.tail)) now;
    }
