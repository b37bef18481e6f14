use Rattle.board_symmetry.proofs.ImageLaws.{keeps_moves}
use Rattle.board_symmetry.proofs.laws.images_keep_moves.Goals as goal

pub returns : goal.returns
returns c = record { moves = keeps_moves }
