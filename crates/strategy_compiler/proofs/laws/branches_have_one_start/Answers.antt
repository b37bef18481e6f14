use Rattle.strategy_compiler.proofs.Unique.{one-start}
use Rattle.strategy_compiler.proofs.laws.branches_have_one_start.Goals as goal

pub returns : goal.returns
returns c = record { one = one-start }
