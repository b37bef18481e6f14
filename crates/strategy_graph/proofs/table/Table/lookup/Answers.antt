use Rattle.strategy_graph.specs.Lent.{lent_node}
use Rattle.strategy_graph.proofs.Filling.{lookup-below}
use Rattle.strategy_graph.proofs.table.Table.lookup.Goals as goal

pub returns-clause-below : goal.returns-clause-below
returns-clause-below c =
    lookup-below c.self.inside.nodes c.args.i (lent_node c.node-node.result) c.args.reply c.answer_among.result c.self.invariant.table
    c.node-node.ensures.node c.answer_among.ensures.answer
