use Rattle.strategy_compiler.proofs.Adopted.{AdoptedUpTo}
use Rattle.strategy_compiler.proofs.compiler.Compiler.adopt_table.Given as goal

abbrev pub invariant-loop-i : goal.invariant-loop-i
invariant-loop-i l = AdoptedUpTo l.initial.self l.table l.self l.numbers.items l.i
