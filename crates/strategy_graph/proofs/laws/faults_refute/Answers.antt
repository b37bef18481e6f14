use Rattle.strategy_graph.proofs.Refutation.{leads-refutes}
use Rattle.strategy_graph.proofs.laws.faults_refute.Goals as goal

pub returns : goal.returns
returns c = record { refuted = leads-refutes }
