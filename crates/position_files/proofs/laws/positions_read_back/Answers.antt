use Rattle.position_files.proofs.ReadBack.{position-read-back}
use Rattle.position_files.proofs.laws.positions_read_back.Goals as goal

pub returns : goal.returns
returns c = record { same = position-read-back }
