use Rattle.std.proofs.Common.{length, slice_index, ap, ◌∙◌}
use Rattle.strategy_graph.specs.Tables.{is_rising}
use Rattle.strategy_graph.proofs.Renumbering.{rising-renumbered}
use Rattle.strategy_graph.proofs.Naming.{replies-below}
use Rattle.strategy_compiler.proofs.starts.renumbered_start.Goals as goal

pub renumbered_replies-requires : goal.renumbered_replies-requires
renumbered_replies-requires c = record {
  below = replies-below (record { replies = c.args.replies.now; rest = c.args.rest }) (length c.args.places.now) c.as_slice.result.now
      c.as_slice.ensures.items c.requires.below;
}

pub new-requires-clause-rising : goal.new-requires-clause-rising
new-requires-clause-rising c = ap is_rising c.in_ok-replies.ensures.replies ∙ rising-renumbered
    (λ j. slice_index c.args.places.now j) c.as_slice.result.now ∙ ap is_rising c.as_slice.ensures.items ∙ c.requires.rising
