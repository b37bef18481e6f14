use Rattle.brain_session.proofs.Turns.{reads_on}
use Rattle.brain_session.proofs.sessions.turn.Goals as goal

-- a command is read, since the session goes on
pub returns-in-Ok-true-clause-in_turn : goal.returns-in-Ok-true-clause-in_turn
returns-in-Ok-true-clause-in_turn g c = λ ends.
    absurd (reads_on _ _ _ _ _ _ _ _ _ _ _ _ _ _ _ c.in-Ok-true.field-0-test c.in-Ok-true.ensures.answered.0 c.next_command.ensures.read
    ends)
