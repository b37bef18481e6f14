use Rattle.position_files.proofs.ReadBack.{head-read-back, nodes-read-back, start-read-back}
use Rattle.position_files.proofs.laws.sections_read_back.Goals as goal

pub returns : goal.returns
returns c = record { heads = head-read-back; nodes = nodes-read-back; starts = start-read-back }
