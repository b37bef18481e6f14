use Rattle.std.proofs.Common.{◌∙◌}
use Rattle.proof_number.proofs.looks.Looks.is_denied.Goals as goal

pub remember-requires-clause-look : goal.remember-requires-clause-look
remember-requires-clause-look g c =
    rw (c.board-then-denied.ensures.board ∙ c.is_denied.ensures.same)
    (record {
      denied = c.in_ok-denied-in-None.ensures.denied c.if-denied.true;
      fours = c.in_ok-denied-in-None.ensures.fours c.if-denied.true;
    })
