use Rattle.relevance_zone.proofs.Harm.{zones-accept}
use Rattle.relevance_zone.proofs.laws.zones_accept.Goals as goal

pub returns : goal.returns
returns c = record { accepted = zones-accept }
