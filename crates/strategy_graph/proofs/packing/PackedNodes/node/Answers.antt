use Rattle.std.proofs.Common.{ap, length, arith}
use Rattle.strategy_graph.proofs.PackedLists.{nodes-length}
use Rattle.strategy_graph.proofs.packing.PackedNodes.node.Goals as goal

pub lent_at-requires-clause-in_list : goal.lent_at-requires-clause-in_list
lent_at-requires-clause-in_list c =
    omega (arith, nodes-length 0 c.self.inside.nodes.items c.self.inside.replies.items, ap length c.self.view_is)
