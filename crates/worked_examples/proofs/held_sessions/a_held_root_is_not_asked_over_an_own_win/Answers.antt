use Rattle.worked_examples.proofs.OwnWinGames.{one_five-held, passed-own_game, passed-text, root-there}
use Rattle.worked_examples.proofs.held_sessions.a_held_root_is_not_asked_over_an_own_win.Goals as goal

pub returns : goal.returns
returns c = record { held = one_five-held; text = passed-text; own_game = passed-own_game; there = root-there }
