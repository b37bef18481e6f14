use Rattle.std.proofs.Common.{ap, length, arith}
use Rattle.strategy_graph.proofs.PackedLists.{nodes-length}
use Rattle.strategy_graph.proofs.packing.PackedNodes.len.Goals as goal

pub returns : goal.returns
returns c = record { count = omega (arith, nodes-length 0 c.self.inside.nodes.items c.self.inside.replies.items, ap length c.self.view_is) }
