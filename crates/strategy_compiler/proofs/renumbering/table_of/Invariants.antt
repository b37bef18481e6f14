use Rattle.strategy_compiler.proofs.Places.{RenumbersUpTo}
use Rattle.strategy_compiler.proofs.renumbering.table_of.Given as goal

abbrev pub invariant-loop-number : goal.invariant-loop-number
invariant-loop-number l = RenumbersUpTo l.nodes l.order l.table l.number-index
