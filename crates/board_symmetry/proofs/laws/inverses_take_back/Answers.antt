use Rattle.board_symmetry.proofs.ImageGroup.{takes_back}
use Rattle.board_symmetry.proofs.laws.inverses_take_back.Goals as goal

pub returns : goal.returns
returns c = record { back = takes_back }
