use Rattle.strategy_compiler.proofs.Standing.{growth_keeps-trees}
use Rattle.strategy_compiler.proofs.laws.growth_keeps_trees.Goals as goal

pub returns : goal.returns
returns c = record { same = growth_keeps-trees }
