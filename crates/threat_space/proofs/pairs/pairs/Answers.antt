use Rattle.threat_space.proofs.FarFinals.{filtered-pairs}
use Rattle.threat_space.proofs.pairs.pairs.Goals as goal

pub returns-then-has_fouls : goal.returns-then-has_fouls
returns-then-has_fouls g c = record { pairs = filtered-pairs _ _ _ _ c.all_pairs.ensures.pairs }
