use Rattle.brain_session.proofs.LineGames.{held-lines-win}
use Rattle.brain_session.proofs.laws.held_lines_win.Goals as goal

pub returns : goal.returns
returns c = record { win = held-lines-win }
