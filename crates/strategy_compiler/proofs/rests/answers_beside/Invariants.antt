use Rattle.std.proofs.Common.{◌≡◌, take}
use Rattle.strategy_compiler.specs.Nodes.{answers_beside}
use Rattle.strategy_compiler.proofs.rests.answers_beside.Given as goal

abbrev pub invariant-loop-answer : goal.invariant-loop-answer
invariant-loop-answer l = l.replies ≡ answers_beside l.rest (take l.answer-index l.answers)
