use Rattle.worked_examples.proofs.OwnWinGames.{blocked-game, blocked-text}
use Rattle.worked_examples.proofs.held_sessions.an_own_win_is_followed_past_a_block.Goals as goal

pub returns : goal.returns
returns c = record { text = blocked-text; own_game = blocked-game }
