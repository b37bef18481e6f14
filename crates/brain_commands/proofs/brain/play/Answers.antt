use Rattle.brain_session.specs.Kept.{held_or_none}
use Rattle.command_base.specs.Runs.{change}
use Rattle.brain_commands.proofs.BrainLaws.{session-ends}
use Rattle.brain_commands.proofs.brain.play.Goals as goal

pub returns-clause-ends : goal.returns-clause-ends
returns-clause-ends g c =
    let input = change g.I.Source.left g.I.Source.faults g.I.Source.asked c.args.input.now c.serve.new.source in
    let output = change g.O.Sink.written g.O.Sink.faults g.O.Sink.asked c.args.output.now c.serve.new.sink in
    rw c.status_of.ensures.status
    (session-ends (held_or_none c.args.held) c.in-Ok.brain c.serve.new.brain input output (g.I.Source.last c.serve.new.source)
    c.serve.result c.in-Ok.ensures.new (record {
      ok = c.serve.ensures.ok;
      ended = c.serve.ensures.ended;
      read_failed = c.serve.ensures.read_failed;
      source_failed = c.serve.ensures.source_failed;
      in_turn = c.serve.ensures.in_turn;
      sink_failed = c.serve.ensures.sink_failed;
      exhausted = c.serve.ensures.exhausted;
      too_long = c.serve.ensures.too_long;
      few_past = c.serve.ensures.few_past;
      memory = c.serve.ensures.memory;
      source_uncounted = c.serve.ensures.source_uncounted;
      sink_uncounted = c.serve.ensures.sink_uncounted;
    }))
