use Rattle.strategy_compiler.proofs.Growing.{win-tables}
use Rattle.strategy_compiler.proofs.compiler.Compiler.finish_win.Goals as goal

pub returns-clause-win : goal.returns-clause-win
returns-clause-win c = win-tables c.args.self c.args.win c.finish.result c.finish.ensures.same c.finish.ensures.points
