use Rattle.strategy_compiler.proofs.Growing.{growth_keeps-wins}
use Rattle.strategy_compiler.proofs.laws.growth_keeps_wins.Goals as goal

pub returns : goal.returns
returns c = record { same = growth_keeps-wins }
