use Rattle.std.proofs.Common.{◌≡◌, take}
use Rattle.strategy_compiler.specs.Forks.{two_answers}
use Rattle.strategy_compiler.proofs.win_nodes.two_answers.Given as goal

abbrev pub invariant-loop-q : goal.invariant-loop-q
invariant-loop-q l = l.answers.items ≡ two_answers l.point l.at_point l.beside (take l.q-index l.replies)
