use Rattle.threat_moves.proofs.BlockLaw as law
use Rattle.threat_moves.proofs.laws.others_leave_five.Goals as goal

pub returns : goal.returns
returns c = record { five = law.others_leave_five }
