use Rattle.std.proofs.Common.{sym, ◌∙◌}
use Rattle.strategy_graph.proofs.Rising.{falls-at, rises-to}
use Rattle.strategy_graph.proofs.replies.rises.Goals as goal

pub returns-then-not-precedes : goal.returns-then-not-precedes
returns-then-not-precedes c = record {
  rising = falls-at c.args.replies.now c.in-Some.first.now c.in-Some.others.now c.loop-reply.last c.loop-reply.reply-index _
      c.in-Some.ensures.cases.0 c.loop-reply.invariant c.loop-reply-test.true (sym c.precedes.ensures.precedes ∙ c.if-not-precedes.true);
}

pub returns : goal.returns
returns c = record {
  rising = rises-to c.args.replies.now c.in-Some.first.now c.in-Some.others.now c.loop-reply.last c.loop-reply.reply-index
      c.in-Some.ensures.cases.0 c.loop-reply.invariant c.loop-reply-test.false;
}
