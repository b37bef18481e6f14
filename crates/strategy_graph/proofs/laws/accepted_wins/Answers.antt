use Rattle.strategy_graph.proofs.Soundness.{accepted-wins}
use Rattle.strategy_graph.proofs.laws.accepted_wins.Goals as goal

pub returns : goal.returns
returns c = record { wins = accepted-wins }
