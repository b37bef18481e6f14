use Rattle.std.proofs.Common.{sym, ◌∙◌}
use Rattle.strategy_graph.proofs.Naming.{names_below-then, names_below-else}
use Rattle.strategy_graph.proofs.replies.are_all_below.Goals as goal

pub returns-then-are_below : goal.returns-then-are_below
returns-then-are_below c = record {
  below = names_below-then (record { replies = c.args.replies.now; rest = c.args.rest }) c.args.len c.is_below.result
      (sym c.are_below.ensures.below ∙ c.if-are_below.true) c.is_below.ensures.below;
}

pub returns-else-are_below : goal.returns-else-are_below
returns-else-are_below c = record {
  below = names_below-else (record { replies = c.args.replies.now; rest = c.args.rest }) c.args.len c.are_below.result
      (sym c.are_below.ensures.below ∙ c.if-are_below.false) c.if-are_below.false;
}
