use Rattle.strategy_graph.proofs.PackedLists.{node-at}
use Rattle.strategy_graph.proofs.packing.lent_at.Goals as goal

pub returns : goal.returns
returns c =
    record { node = rw (c.start_of-start.ensures.start) (node-at 0 c.args.nodes.now c.args.replies.now c.args.i _ c.requires.in_list) }
