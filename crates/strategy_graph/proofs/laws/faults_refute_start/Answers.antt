use Rattle.strategy_graph.proofs.Refutation.{leads-refutes-start}
use Rattle.strategy_graph.proofs.laws.faults_refute_start.Goals as goal

pub returns : goal.returns
returns c = record { refuted = leads-refutes-start }
