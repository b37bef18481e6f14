-- The first of those that are left.
use Rattle.std.proofs.Common.{sym, ap, ◌∙◌, not, false, slice_index_or}
use Rattle.strategy_graph.specs.declared.Reply.{Reply}
use Rattle.strategy_graph.proofs.Answering.{find-next_hit, find-next_miss, find-next_none}
use Rattle.strategy_compiler.proofs.walk.first_listed.Goals as goal

-- the reply that stands where none is
abbrev zero_reply : Reply
zero_reply = record { at = record { x = 0; y = 0 }; next = 0 }

pub returns-then-not-is_completed-reply : goal.returns-then-not-is_completed-reply
returns-then-not-is_completed-reply c = record {
  first = sym (c.loop-reply.invariant ∙ find-next_hit (λ j. not (slice_index_or c.args.is_completed.now j false)) c.args.replies.now
      c.loop-reply.reply-index zero_reply c.loop-reply-test.true (ap not c.if-not-is_completed-reply.true));
}

pub loop-reply-preserved : goal.loop-reply-preserved
loop-reply-preserved c =
    c.loop-reply.invariant ∙ find-next_miss (λ j. not (slice_index_or c.args.is_completed.now j false)) c.args.replies.now
    c.loop-reply.reply-index zero_reply c.loop-reply-test.true (ap not c.if-not-is_completed-reply.false)

pub returns : goal.returns
returns c = record {
  first = sym (c.loop-reply.invariant ∙ find-next_none (λ j. not (slice_index_or c.args.is_completed.now j false)) c.args.replies.now
      c.loop-reply.reply-index c.loop-reply-test.false);
}
