use Rattle.std.proofs.Common.{sym, ◌∙◌, slice_index}
use Rattle.strategy_graph.proofs.Naming.{greatest-none, greatest-some, reply-below}
use Rattle.strategy_graph.proofs.depths.deepest.Goals as goal
use Rattle.strategy_graph.proofs.depths.deepest.Goals.{in-None, in-Some}

pub loop-reply-init : goal.loop-reply-init
loop-reply-init c = elim c.match-node.branch [
  | in-None w ↦ greatest-none (λ j. slice_index c.args.depths.now j) (record { replies = c.args.replies.now; rest = c.args.rest })
      c.match-node.most (sym c.node.ensures.node ∙ w.in-None.is) w.most-is
  | in-Some w ↦ greatest-some (λ j. slice_index c.args.depths.now j) (record { replies = c.args.replies.now; rest = c.args.rest })
      c.match-node.most w.in-Some.number (sym c.node.ensures.node ∙ w.in-Some.is) w.most-is
]

pub bounds-depths-reply : goal.bounds-depths-reply
bounds-depths-reply c = reply-below (record { replies = c.args.replies.now; rest = c.args.rest }) _ c.loop-reply.reply-index _
    c.requires.below c.loop-reply-test.true
