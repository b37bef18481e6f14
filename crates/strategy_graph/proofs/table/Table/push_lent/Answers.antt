use Rattle.std.proofs.Common.{◌≡◌, ℕ, true, length, sym, subst, ap, ◌∙◌}
use Rattle.strategy_graph.proofs.Common.{lent_node, answers_of, names_below}
use Rattle.strategy_graph.proofs.table.Table.push_lent.Goals as goal

pub push_lent_node-requires-clause-node : goal.push_lent_node-requires-clause-node
push_lent_node-requires-clause-node c = record {
  below = subst (λ (n : ℕ). names_below (answers_of (lent_node c.args.node)) n ≡ true)
      (c.len-number.ensures.count ∙ ap length c.self.view_is) (sym c.are_all_below.ensures.below ∙ c.if-not-are_all_below.false);
  rising = sym c.rises.ensures.rising ∙ c.if-not-rises.false;
  winning = c.requires.winning;
}
