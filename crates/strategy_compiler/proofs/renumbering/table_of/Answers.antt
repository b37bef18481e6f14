-- Node by node, in the order.
use Rattle.std.proofs.Common.{length}
use Rattle.strategy_graph.specs.Lent.{lent_node}
use Rattle.strategy_compiler.proofs.Places.{renumbers-none, renumbers-all, names-places, node-next, renumbers-next}
use Rattle.strategy_compiler.proofs.renumbering.table_of.Goals as goal

pub loop-number-init : goal.loop-number-init
loop-number-init c = renumbers-none c.args.nodes.now c.args.order.now c.new-table.result c.new-table.ensures.empty

pub renumbered-requires : goal.renumbered-requires
renumbered-requires c = record {
  below =
      names-places c.args.nodes.now c.args.order.now c.requires.table c.requires.order c.loop-number.number-index c.loop-number-test.true
      c.index-nodes-number.result c.index-nodes-number.is (lent_node c.lent.result) c.lent.ensures.node
      (length c.args.places.now) c.requires.count;
}

pub push_node-requires-clause-node : goal.push_node-requires-clause-node
push_node-requires-clause-node c =
    node-next c.args.nodes.now c.args.order.now c.requires.table c.requires.order c.loop-number.number-index c.loop-number-test.true
    c.index-nodes-number.result c.index-nodes-number.is (lent_node c.lent.result) c.lent.ensures.node
    c.args.places.now c.requires.places c.in_ok-node.node c.in_ok-node.ensures.node c.loop-number.table c.loop-number.invariant

pub loop-number-preserved : goal.loop-number-preserved
loop-number-preserved c =
    renumbers-next c.args.nodes.now c.args.order.now c.requires.table c.requires.order c.loop-number.number-index c.loop-number-test.true
    c.index-nodes-number.result c.index-nodes-number.is (lent_node c.lent.result) c.lent.ensures.node
    c.args.places.now c.requires.places c.in_ok-node.node c.in_ok-node.ensures.node c.loop-number.table c.loop-number.invariant
    c.push_node.new.self c.in_ok-push_node.ensures.pushed

pub returns : goal.returns
returns c = record {
  nodes = renumbers-all c.args.nodes.now c.args.order.now c.requires.table c.requires.order c.loop-number.table c.loop-number.number-index
      c.loop-number.auto.number-index-end c.loop-number-test.false c.loop-number.invariant;
}
