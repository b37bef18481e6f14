use Rattle.strategy_graph.proofs.Filling.{growth-same}
use Rattle.strategy_graph.proofs.laws.growth_keeps.Goals as goal

pub returns : goal.returns
returns c = record { same = growth-same }
