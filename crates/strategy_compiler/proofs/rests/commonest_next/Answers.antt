use Rattle.std.proofs.Common.{sym}
use Rattle.strategy_graph.specs.declared.Reply.{Reply}
use Rattle.strategy_compiler.proofs.Briefs.{best-none, commonest-greater, commonest-kept, commonest-again, equal_best, commonest-all}
use Rattle.strategy_compiler.proofs.Briefs.{answers_of_node}
use Rattle.strategy_compiler.proofs.rests.commonest_next.Goals as goal
use Rattle.strategy_compiler.proofs.rests.commonest_next.Goals.{then-count-most, else-count-most}

-- the reply that stands where none is
abbrev zero_reply : Reply
zero_reply = record { at = record { x = 0; y = 0 }; next = 0 }

pub loop-answer-init : goal.loop-answer-init
loop-answer-init c = best-none (answers_of_node c.args.answers.now)

pub loop-answer-preserved-then-eq : goal.loop-answer-preserved-then-eq
loop-answer-preserved-then-eq c =
    commonest-again c.args.answers.now c.loop-answer.answer-index zero_reply c.loop-answer.best c.loop-answer.most c.loop-answer.invariant
    c.loop-answer-test.true (equal_best c.loop-answer.best _ (sym c.if-eq.ensures))

pub loop-answer-preserved : goal.loop-answer-preserved
loop-answer-preserved c = elim c.if-count-most.branch [
  | then-count-most w ↦ commonest-greater c.args.answers.now c.loop-answer.answer-index zero_reply c.loop-answer.best c.loop-answer.most
      c.times-count.result
      c.loop-answer.invariant c.loop-answer-test.true c.times-count.ensures.count _ _ w.best-is w.most-is w.if-count-most.true
  | else-count-most w ↦ commonest-kept c.args.answers.now c.loop-answer.answer-index zero_reply c.loop-answer.best c.loop-answer.most
      c.times-count.result
      c.loop-answer.invariant c.loop-answer-test.true c.times-count.ensures.count _ _ w.best-is w.most-is w.if-count-most.false
]

pub returns : goal.returns
returns c = record {
  commonest = commonest-all c.args.answers.now c.loop-answer.answer-index _ c.loop-answer.most c.loop-answer-test.false
      c.loop-answer.invariant;
}
