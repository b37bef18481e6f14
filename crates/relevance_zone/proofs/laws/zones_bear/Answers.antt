use Rattle.relevance_zone.proofs.Harm.{zones-bear}
use Rattle.relevance_zone.proofs.laws.zones_bear.Goals as goal

pub returns : goal.returns
returns c = record { accepted = zones-bear }
