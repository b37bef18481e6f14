use Rattle.board_symmetry.proofs.ImageLaws.{keeps_positions}
use Rattle.board_symmetry.proofs.laws.images_keep_positions.Goals as goal

pub returns : goal.returns
returns c = record { positions = keeps_positions }
