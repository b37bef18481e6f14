use Rattle.brain_session.proofs.HeldGames.{held-games-go_well, held-games-led}
use Rattle.brain_session.proofs.laws.held_games_go_well.Goals as goal

pub returns : goal.returns
returns c = record { go_well = held-games-go_well; led = held-games-led }
