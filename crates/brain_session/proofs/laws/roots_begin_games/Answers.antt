use Rattle.brain_session.proofs.RootGames.{roots-begin_games}
use Rattle.brain_session.proofs.laws.roots_begin_games.Goals as goal

pub returns : goal.returns
returns c = record { begin = roots-begin_games }
