use Rattle.defence_finder.proofs.Telling.{defences-told}
use Rattle.defence_finder.proofs.laws.defences_are_told.Goals as goal

pub returns : goal.returns
returns c = record { told = defences-told }
