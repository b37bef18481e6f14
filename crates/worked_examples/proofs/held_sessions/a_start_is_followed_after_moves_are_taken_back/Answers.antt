use Rattle.worked_examples.proofs.StartSession.{two_roots-held, taken_back-text, first-game, second-game}
use Rattle.worked_examples.proofs.held_sessions.a_start_is_followed_after_moves_are_taken_back.Goals as goal

pub returns : goal.returns
returns c = record { held = two_roots-held; text = taken_back-text; first_game = first-game; second_game = second-game }
