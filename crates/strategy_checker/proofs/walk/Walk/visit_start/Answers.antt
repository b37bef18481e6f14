use Rattle.std.proofs.Common.{◌∙◌, ℕ, length, refl, sym, ap, arith, Option, Result, Ok, Err}
use Rattle.std.proofs.lemmas.Bool.{not-true}
use Rattle.std.proofs.lemmas.Result.{err_from_is_err_and}
use Rattle.strategy_checker.proofs.Common.{Grid, has_five, after, Point, RuleKind, Answers, LeadsStart, Walk, WalkedReply, Advanced}
use Rattle.strategy_checker.proofs.Common.{all_to_ask, owed, Stop}
use Rattle.strategy_graph.proofs.Answering.{answer-below}
use Rattle.strategy_graph.proofs.Steps.{arrivals-answer, arrivals-positive, met-all}
use Rattle.strategy_checker.specs.declared.meeting.Course.{Course}
use Rattle.strategy_checker.proofs.Owing.{owes-done, owes-on, owes-short, owes-stops, owes-then}
use Rattle.strategy_checker.proofs.Walking.{taken-ready}
use Rattle.strategy_checker.proofs.walk.Walk.visit_start.Goals.{After-next}
use Rattle.strategy_checker.proofs.walk.Walk.visit_start.Goals as goal

pub loop-next-init : goal.loop-next-init
loop-next-init g c =
    let rule : RuleKind = g.R.Rule.KIND in
    let b : Grid = c.args.position.now in
    let a : Answers = c.args.start.now in
    let none = c.begun-meeting.ensures.course in
    let these = ap (λ (course : Option Course). owed rule c.args.table.now a b (all_to_ask b a.replies course)) none in
    let took = ap (λ (w : Walk). w.left) c.in_ok-take.ensures.takes in
    record {
      same = refl;
      owes = record {
        counted = omega (arith, these, took);
        met = λ met. met-all rule c.args.table.now a b (rw none at met);
        ready = taken-ready rule c.args.table.now b 1 c.args.self.now c.take.new.self c.requires.ready c.in_ok-take.ensures.takes;
      };
      outlook = rw c.begun-meeting.ensures.outlook (record {
        free = λ h. ap (has_five rule b) (sym c.side.ensures.side) ∙ sym c.has_five-free.ensures.five ∙ not-true _ h;
        quick = λ h. cc;
        sure = tt;
      });
    }

-- what the replies came to, said of the answers that were given
asked : (g : _) (c : After-next g) (r : Result (Option ℕ) Stop)
    → Advanced g.R.Rule.KIND c.args.table.now (record { replies = c.as_slice.result.now; rest = c.rest.result }) c.loop-next.position
    (all_to_ask c.loop-next.position c.as_slice.result.now c.loop-next.meeting.course) c.next.new.meeting.reply
    (all_to_ask c.loop-next.position c.as_slice.result.now c.next.new.meeting.course) c.loop-next.self.left c.next.new.self r
    → Advanced g.R.Rule.KIND c.args.table.now c.args.start.now c.args.position.now
    (all_to_ask c.args.position.now c.args.start.now.replies c.loop-next.meeting.course) c.next.new.meeting.reply
    (all_to_ask c.args.position.now c.args.start.now.replies c.next.new.meeting.course) c.loop-next.self.left c.next.new.self r
asked g c r h = rw (← c.replies.ensures.listed, ← c.as_slice.ensures.items, ← c.rest.ensures.rest, ← c.loop-next.invariant.same) h

pub returns-in_err-next-clause-walked : goal.returns-in_err-next-clause-walked
returns-in_err-next-clause-walked g c =
    let p = err_from_is_err_and c.from_residual-in_err-next.result c.from_residual-in_err-next.ensures.1 in
    rw (p.1, p.2) (owes-short c.loop-next.invariant.owes _ c.in_err-next.field-0.0
    (asked g (goal.at.returns-in_err-next-clause-walked g c).After-next (Err _) c.in_err-next.ensures.advanced))

pub returns-in-None-clause-walked : goal.returns-in-None-clause-walked
returns-in-None-clause-walked g c =
    let advanced = rw c.in-None.is at
    (asked g (goal.at.returns-in-None-clause-walked g c).After-next (Ok _) c.in_ok-next.ensures.advanced) in
    owes-done (LeadsStart g.R.Rule.KIND c.args.table.now c.args.start.now c.args.position.now) c.args.self.now
    (owes-then c.loop-next.invariant.owes advanced)

pub answer-requires-clause-in_table : goal.answer-requires-clause-in_table
answer-requires-clause-in_table g c =
    let advanced = rw c.in-Some.is at
    (asked g (goal.at.answer-requires-clause-in_table g c).After-next (Ok _) c.in_ok-next.ensures.advanced) in
    answer-below c.args.start.now (length c.args.table.now) c.next.new.meeting.reply c.in-Some.next c.requires.below advanced.2

pub loop-next-smaller : goal.loop-next-smaller
loop-next-smaller g c =
    let rule : RuleKind = g.R.Rule.KIND in
    let b : Grid = c.args.position.now in
    let a : Answers = c.args.start.now in
    let q : Point = c.next.new.meeting.reply in
    let advanced = rw c.in-Some.is at (asked g (goal.at.loop-next-smaller g c).After-next (Ok _) c.in_ok-next.ensures.advanced) in
    let walked : WalkedReply rule c.args.table.now a b q c.next.new.self c.answer.new.self (Ok tt) =
    rw (c.in_ok-next.ensures.same, c.loop-next.invariant.same) at (c.in_ok-answer-in-Some.ensures.walked a advanced.2) in
    omega (
      arith,
      walked.1.counted,
      arrivals-answer rule c.args.table.now a b q c.in-Some.next advanced.1 advanced.2,
      arrivals-positive rule c.args.table.now c.in-Some.next (after b q),
      c.in_ok-next.ensures.left,
    )

pub loop-next-preserved : goal.loop-next-preserved
loop-next-preserved g c =
    let advanced = rw c.in-Some.is at (asked g (goal.at.loop-next-preserved g c).After-next (Ok _) c.in_ok-next.ensures.advanced) in
    record {
      same = c.in_ok-answer-in-Some.ensures.same ∙ c.in_ok-next.ensures.same ∙ c.loop-next.invariant.same;
      owes = owes-on (owes-then c.loop-next.invariant.owes advanced.0) refl (rw (c.in_ok-next.ensures.same, c.loop-next.invariant.same) at
          (c.in_ok-answer-in-Some.ensures.walked c.args.start.now advanced.2));
      outlook = rw (← c.loop-next.invariant.same) c.in_ok-next.ensures.outlook;
    }

pub returns-in_err-answer-in-Some-clause-walked : goal.returns-in_err-answer-in-Some-clause-walked
returns-in_err-answer-in-Some-clause-walked g c =
    let advanced = rw c.in-Some.is at
    (asked g (goal.at.returns-in_err-answer-in-Some-clause-walked g c).After-next (Ok _) c.in_ok-next.ensures.advanced) in
    let p = err_from_is_err_and c.from_residual-in_err-answer-in-Some.result c.from_residual-in_err-answer-in-Some.ensures.1 in
    rw (p.1, p.2) (owes-stops (owes-then c.loop-next.invariant.owes advanced.0) refl c.answer.new.self c.in_err-answer-in-Some.field-0.0
    (rw (c.in_ok-next.ensures.same, c.loop-next.invariant.same) at (c.in_err-answer-in-Some.ensures.walked c.args.start.now advanced.2)))
