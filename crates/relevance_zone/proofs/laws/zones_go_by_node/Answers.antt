use Rattle.relevance_zone.proofs.ByNode.{zones-by_node}
use Rattle.relevance_zone.proofs.laws.zones_go_by_node.Goals as goal

pub returns : goal.returns
returns c = record { steps = zones-by_node }
