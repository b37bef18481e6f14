use Rattle.std.proofs.Common.{◌≡◌, ◌++◌}
use Rattle.strategy_compiler.proofs.compiler.Compiler.into_table.Given as goal

abbrev pub invariant-loop-node : goal.invariant-loop-node
invariant-loop-node l = l.table ++ l.node-iterator ≡ l.fn.self
