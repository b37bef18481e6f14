use Rattle.brain_session.proofs.HeldGames.{starts-are_tight}
use Rattle.brain_session.proofs.laws.starts_are_tight.Goals as goal

pub returns : goal.returns
returns c = record { tight = starts-are_tight }
