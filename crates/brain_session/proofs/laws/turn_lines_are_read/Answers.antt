use Rattle.brain_session.proofs.TurnLines.{turn_lines-are_read}
use Rattle.brain_session.proofs.laws.turn_lines_are_read.Goals as goal

pub returns : goal.returns
returns c = record { read = turn_lines-are_read }
