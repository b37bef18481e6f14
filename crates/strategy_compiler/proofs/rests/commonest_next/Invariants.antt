use Rattle.std.proofs.Common.{take}
use Rattle.strategy_compiler.proofs.Briefs.{IsCommonestSoFar}
use Rattle.strategy_compiler.proofs.rests.commonest_next.Given as goal

abbrev pub invariant-loop-answer : goal.invariant-loop-answer
invariant-loop-answer l = IsCommonestSoFar l.answers (take l.answer-index l.answers) l.best l.most
