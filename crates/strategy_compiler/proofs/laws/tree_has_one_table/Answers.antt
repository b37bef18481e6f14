use Rattle.strategy_compiler.proofs.Unique.{one-table}
use Rattle.strategy_compiler.proofs.laws.tree_has_one_table.Goals as goal

pub returns : goal.returns
returns c = record { one = one-table }
