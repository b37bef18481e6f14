use Rattle.position_files.proofs.ReadBack.{table-read-back}
use Rattle.position_files.proofs.laws.tables_read_back.Goals as goal

pub returns : goal.returns
returns c = record { same = table-read-back }
