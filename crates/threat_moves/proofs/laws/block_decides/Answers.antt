use Rattle.threat_moves.proofs.BlockLaw as law
use Rattle.threat_moves.proofs.laws.block_decides.Goals as goal

pub returns : goal.returns
returns c = record { block = law.block_decides }
