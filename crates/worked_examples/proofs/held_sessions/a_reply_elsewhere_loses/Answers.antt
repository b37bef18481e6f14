use Rattle.worked_examples.proofs.OverlineSessions.{overline-held, elsewhere-text, elsewhere-game}
use Rattle.worked_examples.proofs.held_sessions.a_reply_elsewhere_loses.Goals as goal

pub returns : goal.returns
returns c = record { held = overline-held; text = elsewhere-text; game = elsewhere-game }
