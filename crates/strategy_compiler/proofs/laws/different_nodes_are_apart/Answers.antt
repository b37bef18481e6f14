use Rattle.strategy_compiler.proofs.Unfolding.{unfolded-apart}
use Rattle.strategy_compiler.proofs.laws.different_nodes_are_apart.Goals as goal

pub returns : goal.returns
returns c = record { apart = unfolded-apart }
