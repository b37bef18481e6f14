use Rattle.board_symmetry.proofs.ImageLaws.{keeps_wins}
use Rattle.board_symmetry.proofs.laws.images_keep_wins.Goals as goal

pub returns : goal.returns
returns c = record { wins = keeps_wins }
