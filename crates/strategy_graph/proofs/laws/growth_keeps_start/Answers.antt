use Rattle.strategy_graph.proofs.Filling.{growth-same-start}
use Rattle.strategy_graph.proofs.laws.growth_keeps_start.Goals as goal

pub returns : goal.returns
returns c = record { same = growth-same-start }
