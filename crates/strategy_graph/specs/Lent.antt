-- The node that is lent.
use Rattle.strategy_graph.specs.declared.LentNode.{LentNode}
use Rattle.strategy_graph.specs.declared.Node.{Node}

-- the node that is lent
abbrev pub lent_node : LentNode → Node
lent_node n = record { attack = n.attack; replies = n.replies.now; rest = n.rest }
