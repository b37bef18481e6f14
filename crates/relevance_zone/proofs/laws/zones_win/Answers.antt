use Rattle.relevance_zone.proofs.Harm.{zones-win}
use Rattle.relevance_zone.proofs.laws.zones_win.Goals as goal

pub returns : goal.returns
returns c = record { wins = zones-win }
