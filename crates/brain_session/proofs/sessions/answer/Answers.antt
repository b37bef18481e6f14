use Rattle.std.proofs.Common.{◌∙◌, sym, refl, [], rules}
use Rattle.renju_io.proofs.ToldSoFar.{Takes-none}
use Rattle.brain_session.proofs.SessionLaws.{only_end_ends}
use Rattle.brain_session.proofs.sessions.answer.Goals as goal

pub returns-in-Ok-Ends : goal.returns-in-Ok-Ends
returns-in-Ok-Ends g c = record {
  answered = (
    search rules,
    (λ _.
        only_end_ends c.args.brain.now c.args.command.now (sym c.in-Ok-Ends.ensures.reaction ∙ c.in-Ok-Ends.field-0-is)),
    search rules,
  );
}

-- nothing was written before
pub returns-in-Ok-Says : goal.returns-in-Ok-Says
returns-in-Ok-Says g c = record {
  answered = (
    search rules,
    record {
      before = c.args.sink.now;
      bytes = [];
      took = Takes-none (g.O.Sink.written c.args.sink.now);
      uncounted = refl;
      piece = c.as_slice.result.now;
      part = c.in-Err-write.ensures.part;
      risen = c.in-Err-write.ensures.failed;
    },
    search rules,
  );
}
