use Rattle.std.proofs.Common.{◌≡◌, subst, inr, Some, Ok, Err}
use Rattle.renju_io.specs.Faults.{HasRisen}
use Rattle.brain_session.specs.declared.sessions.ServeError.TheVariants.{ReadFailed, WriteFailed, Exhausted, Memory}
use Rattle.brain_session.proofs.Turns.{Between-begun, comes_as, next_read, turned}
use Rattle.brain_session.proofs.sessions.serve.Goals as goal

pub loop-next-init : goal.loop-next-init
loop-next-init g c =
    next_read _ _ _ _ _ _ _ _ _ _ _ _ _ _ _ _ _
    (Between-begun _ _ _ _ _ _ _ _ _ _ c.in-Ok.lines c.in-Ok.ensures.fresh) c.next_command-next.ensures.read

pub loop-next-preserved : goal.loop-next-preserved
loop-next-preserved g c =
    let told : c.loop-next.next ≡ Ok c.in-Ok-Some.field-0 = c.in-Ok-Some.is in
    let some = rw told at c.in-Ok-Some.field-0-is in
    let is : c.loop-next.next ≡ Ok (Some c.in-Ok-Some.command) = cc in
    turned _ _ _ _ _ _ _ _ _ _ c.turn-next.ensures.turned.0 _ _ _ _ _ _ _ _ _ _
    (comes_as _ _ _ _ _ _ _ _ _ _ (Ok (Some c.in-Ok-Some.command)) c.loop-next.invariant is)
    c.turn-next.ensures.turned.1 c.turn-next.ensures.turned.2 c.turn-next.ensures.in_turn

-- each clause tells what the session has come to with this error
pub returns-clause-read_failed : goal.returns-clause-read_failed
returns-clause-read_failed g c = λ failed.
    (comes_as _ _ _ _ _ _ _ _ _ _ (Err ReadFailed) c.loop-next.invariant ((c.ended.ensures.failed ReadFailed).0 failed)).ends.0

pub returns-clause-read_last : goal.returns-clause-read_last
returns-clause-read_last g c = λ failed.
    (comes_as _ _ _ _ _ _ _ _ _ _ (Err ReadFailed) c.loop-next.invariant ((c.ended.ensures.failed ReadFailed).0 failed)).ends.1

pub returns-clause-write_failed : goal.returns-clause-write_failed
returns-clause-write_failed g c = λ failed.
    (comes_as _ _ _ _ _ _ _ _ _ _ (Err WriteFailed) c.loop-next.invariant ((c.ended.ensures.failed WriteFailed).0 failed)).ends.0

pub returns-clause-in_turn : goal.returns-clause-in_turn
returns-clause-in_turn g c = λ failed.
    (comes_as _ _ _ _ _ _ _ _ _ _ (Err WriteFailed) c.loop-next.invariant ((c.ended.ensures.failed WriteFailed).0 failed)).ends.1

pub returns-clause-written_last : goal.returns-clause-written_last
returns-clause-written_last g c = λ failed.
    (comes_as _ _ _ _ _ _ _ _ _ _ (Err WriteFailed) c.loop-next.invariant ((c.ended.ensures.failed WriteFailed).0 failed)).ends.2

pub returns-clause-exhausted : goal.returns-clause-exhausted
returns-clause-exhausted g c = λ failed.
    (comes_as _ _ _ _ _ _ _ _ _ _ (Err Exhausted) c.loop-next.invariant ((c.ended.ensures.failed Exhausted).0 failed)).ends.0.answered

pub returns-clause-too_long : goal.returns-clause-too_long
returns-clause-too_long g c = λ failed.
    (comes_as _ _ _ _ _ _ _ _ _ _ (Err Exhausted) c.loop-next.invariant ((c.ended.ensures.failed Exhausted).0 failed)).ends.0.too_long

pub returns-clause-few_past : goal.returns-clause-few_past
returns-clause-few_past g c = λ failed.
    (comes_as _ _ _ _ _ _ _ _ _ _ (Err Exhausted) c.loop-next.invariant ((c.ended.ensures.failed Exhausted).0 failed)).ends.1

pub returns-clause-memory : goal.returns-clause-memory
returns-clause-memory g c = λ failed.
    inr (comes_as _ _ _ _ _ _ _ _ _ _ (Err Memory) c.loop-next.invariant ((c.ended.ensures.failed Memory).0 failed)).ends

pub returns-clause-source_failed : goal.returns-clause-source_failed
returns-clause-source_failed g c = λ failed.
    let last = (comes_as _ _ _ _ _ _ _ _ _ _ (Err ReadFailed) c.loop-next.invariant
    ((c.ended.ensures.failed ReadFailed).0 failed)).ends.1 in
    subst (λ n. HasRisen n (g.S.Source.faults c.loop-next.source)) last.uncounted last.risen

pub returns-clause-source_uncounted : goal.returns-clause-source_uncounted
returns-clause-source_uncounted g c = λ never. c.loop-next.invariant.source_counts.uncounted
    (λ is. never ((c.ended.ensures.failed ReadFailed).1 is))

pub returns-clause-sink_failed : goal.returns-clause-sink_failed
returns-clause-sink_failed g c = λ failed.
    let last = (comes_as _ _ _ _ _ _ _ _ _ _ (Err WriteFailed) c.loop-next.invariant
    ((c.ended.ensures.failed WriteFailed).0 failed)).ends.2 in
    subst (λ n. HasRisen n (g.O.Sink.faults c.loop-next.sink)) last.uncounted last.risen

pub returns-clause-sink_uncounted : goal.returns-clause-sink_uncounted
returns-clause-sink_uncounted g c = λ never. c.loop-next.invariant.sink_counts.uncounted
    (λ is. never ((c.ended.ensures.failed WriteFailed).1 is))
