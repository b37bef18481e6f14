use Rattle.std.proofs.Common.{string_bytes}
use Rattle.strategy_graph.specs.Lent.{lent_node}
use Rattle.position_files.proofs.Growth.{node_grown}
use Rattle.position_files.proofs.writers.push_nodes.Goals as goal

pub loop-i-preserved : goal.loop-i-preserved
loop-i-preserved c =
    node_grown (string_bytes c.args.text.now) (string_bytes c.loop-i.text) (string_bytes c.push_node.new.text) c.args.table.now c.loop-i.i
    (lent_node c.node.result) c.loop-i.invariant c.node.ensures.node c.in_ok-push_node.ensures.line
