use Rattle.board_symmetry.proofs.Parts.{composed}
use Rattle.board_symmetry.proofs.ImageGroup.{together}
use Rattle.board_symmetry.proofs.laws.images_compose.Goals as goal

pub returns : goal.returns
returns c = record { composed = λ s t. (composed s t, together s t) }
