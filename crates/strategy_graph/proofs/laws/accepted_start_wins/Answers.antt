use Rattle.strategy_graph.proofs.Soundness.{accepted-start-wins}
use Rattle.strategy_graph.proofs.laws.accepted_start_wins.Goals as goal

pub returns : goal.returns
returns c = record { wins = accepted-start-wins }
