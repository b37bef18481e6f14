use Rattle.brain_session.proofs.OwnGames.{own-games-go_well, own-replies-are_answered}
use Rattle.brain_session.proofs.laws.own_games_go_well.Goals as goal

pub returns : goal.returns
returns c = record { go_well = own-games-go_well; answered = own-replies-are_answered }
