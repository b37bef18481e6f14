use Rattle.worked_examples.proofs.OverlineSessions.{block-text, block-game}
use Rattle.worked_examples.proofs.held_sessions.a_block_that_fouls_loses.Goals as goal

pub returns : goal.returns
returns c = record { text = block-text; game = block-game }
