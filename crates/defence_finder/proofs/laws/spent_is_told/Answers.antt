use Rattle.defence_finder.proofs.Telling.{spent-told}
use Rattle.defence_finder.proofs.laws.spent_is_told.Goals as goal

pub returns : goal.returns
returns c = record { told = spent-told }
