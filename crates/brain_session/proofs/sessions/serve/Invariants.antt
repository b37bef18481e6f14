use Rattle.brain_session.proofs.Turns.{Comes, to_come}
use Rattle.brain_session.proofs.sessions.serve.Given as goal

-- the lines so far are answered, but for the command that comes next, or the session has ended so
abbrev pub invariant-loop-next : goal.invariant-loop-next
invariant-loop-next g l = Comes g.S.Source.left g.S.Source.last g.S.Source.faults g.S.Source.asked g.O.Sink.written g.O.Sink.faults
    g.O.Sink.asked l.fn.source l.fn.sink l.fn.brain l.next l.lines l.source l.brain l.sink

-- the bytes of the lines told grow with each line, and are no more than the session may have
abbrev pub decreases-loop-next : goal.decreases-loop-next
decreases-loop-next g l = to_come l.next l.lines
