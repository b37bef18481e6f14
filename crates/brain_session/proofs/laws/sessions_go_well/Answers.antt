use Rattle.brain_session.proofs.HeldGames.{sessions-go_well}
use Rattle.brain_session.proofs.laws.sessions_go_well.Goals as goal

pub returns : goal.returns
returns c = record { go_well = sessions-go_well }
