use Rattle.stone_board.specs.Lines.{all_turned}
use Rattle.stone_board.proofs.lines.turn_all.Goals as goal

pub returns : goal.returns
unfolding all_turned
returns c = record { turned = cc }
