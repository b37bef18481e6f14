use Rattle.strategy_graph.proofs.Fuel.{depth-step, accepted-step, arrivals-step}
use Rattle.strategy_graph.proofs.Copies.{iff_by}
use Rattle.strategy_graph.proofs.laws.nodes_go_by_node.Goals as goal

pub returns : goal.returns
returns c = record {
  steps = λ t lower i. record {
    depth_by_node = depth-step t lower i;
    accepted_by_node = λ rule b. iff_by _ _ (accepted-step t lower rule i b);
    arrivals_by_node = λ rule b. arrivals-step t lower rule i b;
  };
}
