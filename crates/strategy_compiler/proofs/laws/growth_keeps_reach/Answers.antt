use Rattle.strategy_compiler.proofs.Standing.{growth_keeps-reach}
use Rattle.strategy_compiler.proofs.laws.growth_keeps_reach.Goals as goal

pub returns : goal.returns
returns c = record { same = growth_keeps-reach }
