use Rattle.position_files.proofs.ReadBack.{game-read-back}
use Rattle.position_files.proofs.laws.games_read_back.Goals as goal

pub returns : goal.returns
returns c = record { same = game-read-back }
