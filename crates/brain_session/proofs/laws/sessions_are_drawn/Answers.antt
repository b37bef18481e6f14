use Rattle.brain_session.proofs.Drawings.{sessions-are_drawn}
use Rattle.brain_session.proofs.laws.sessions_are_drawn.Goals as goal

pub returns : goal.returns
returns c = record { drawn = sessions-are_drawn }
