use Rattle.std.proofs.Common.{◌≡◌, ◌<◌, arith, ◌∙◌, ℕ, false, length, sym, ap, Option, Some, None, IfSome, Ok}
use Rattle.std.proofs.lemmas.Result.{err_from_is_err_and}
use Rattle.strategy_checker.proofs.Common.{Grid, is_empty, Answers, answer, Asked}
use Rattle.strategy_graph.proofs.Answering.{answer-below}
use Rattle.strategy_checker.proofs.Owing.{owes-on, owes-stops}
use Rattle.strategy_checker.proofs.Walking.{refused-reply}
use Rattle.strategy_checker.proofs.walk.Walk.next.Goals as goal

pub loop-q-preserved-then-not-is_empty : goal.loop-q-preserved-then-not-is_empty
loop-q-preserved-then-not-is_empty g c =
    let b : Grid = c.args.position.now in
    let taken : is_empty b c.in-Some.q ≡ false = ap (λ (w : Grid). is_empty w c.in-Some.q)
    (sym (c.board.ensures.board ∙ c.loop-q.invariant.same)) ∙ sym c.is_empty.ensures.empty ∙ c.if-not-is_empty.true in
    record {
      same = c.loop-q.invariant.same;
      owes = owes-on c.loop-q.invariant.owes c.in-Some.ensures.next
          (refused-reply g.R.Rule.KIND c.args.table.now _ b c.in-Some.q c.loop-q.self c.loop-q.invariant.owes.ready taken);
      outlook = c.loop-q.invariant.outlook;
      left = c.loop-q.invariant.left;
    }

pub ask-requires-clause-below : goal.ask-requires-clause-below
ask-requires-clause-below g c = by_answer c.answer_of-answer.result c.answer_of-answer.ensures.answer where
  by_answer : (o : Option ℕ) → o ≡ answer (record { replies = c.args.replies.now; rest = c.args.rest }) c.in-Some.q
      → IfSome o (λ j. j < length c.args.table.now)
  by_answer None e = tt
  by_answer (Some j) e = answer-below _ (length c.args.table.now) c.in-Some.q j c.requires.below (sym e)

pub returns-in_err-ask-clause-advanced : goal.returns-in_err-ask-clause-advanced
returns-in_err-ask-clause-advanced g c =
    let p = err_from_is_err_and c.from_residual-in_err-ask.result c.from_residual-in_err-ask.ensures.1 in
    rw (p.1, p.2) (owes-stops c.loop-q.invariant.owes c.in-Some.ensures.next c.ask.new.self c.in_err-ask.field-0.0
    (rw c.loop-q.invariant.same at (c.in_err-ask.ensures.asked _ (sym c.answer_of-answer.ensures.answer))))

pub returns-in-Some-2-clause-advanced : goal.returns-in-Some-2-clause-advanced
returns-in-Some-2-clause-advanced g c =
    let a : Answers = record { replies = c.args.replies.now; rest = c.args.rest } in
    let asked : Asked g.R.Rule.KIND c.args.table.now a c.args.position.now c.in-Some.q c.loop-q.self c.ask.new.self
    (Ok (Some c.in-Some-2.next)) =
    rw (c.in-Some-2.is, c.loop-q.invariant.same) at (c.in_ok-ask.ensures.asked a (sym c.answer_of-answer.ensures.answer)) in
    (rw (asked.2, ← c.in-Some.ensures.next) c.loop-q.invariant.owes, asked.0, asked.1)

pub loop-q-preserved : goal.loop-q-preserved
loop-q-preserved g c =
    let a : Answers = record { replies = c.args.replies.now; rest = c.args.rest } in
    record {
      same = c.in_ok-ask.ensures.same ∙ c.loop-q.invariant.same;
      owes = owes-on c.loop-q.invariant.owes c.in-Some.ensures.next
          (rw (c.in-None.is, c.loop-q.invariant.same) at (c.in_ok-ask.ensures.asked a (sym c.answer_of-answer.ensures.answer)));
      outlook = c.loop-q.invariant.outlook;
      left = omega (arith, c.in_ok-ask.ensures.left, c.loop-q.invariant.left);
    }
