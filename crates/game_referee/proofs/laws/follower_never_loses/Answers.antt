use Rattle.game_referee.proofs.Following.{follower-never-loses}
use Rattle.game_referee.proofs.laws.follower_never_loses.Goals as goal

pub returns : goal.returns
returns c = record { kept = follower-never-loses }
