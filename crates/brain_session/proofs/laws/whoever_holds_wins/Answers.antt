use Rattle.brain_session.proofs.HeldWins.{whoever-holds_wins}
use Rattle.brain_session.proofs.laws.whoever_holds_wins.Goals as goal

pub returns : goal.returns
returns c = record { wins = whoever-holds_wins }
