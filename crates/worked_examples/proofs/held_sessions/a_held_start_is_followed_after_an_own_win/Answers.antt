use Rattle.worked_examples.proofs.OwnWinSession.{one_start-held, own_win-text, own_win-own_game, own_win-game}
use Rattle.worked_examples.proofs.held_sessions.a_held_start_is_followed_after_an_own_win.Goals as goal

pub returns : goal.returns
returns c = record { held = one_start-held; text = own_win-text; own_game = own_win-own_game; game = own_win-game }
