-- A held game that begins along an input is played as its node's game.
use Rattle.std.proofs.Common.{◌≡◌, ◌∙◌, ℕ, List, ◌∷◌, ◌++◌, ap}
use Rattle.game_rules.specs.declared.Point.{Point}
use Rattle.strategy_graph.proofs.Common.{Won, game}
use Rattle.strategy_checker.specs.HeldRoots.{HeldTable, IsHeld}
use Rattle.gomocup_text.specs.Commands.{commands}
use Rattle.gomocup_text.specs.declared.Command.{Command}
use Rattle.gomocup_text.specs.declared.Answer.{Answer}
use Rattle.brain_session.specs.States.{Game, board_of, new_brain}
use Rattle.brain_session.specs.Steps.{brain_step}
use Rattle.brain_session.specs.Sessions.{state_after}
use Rattle.brain_session.specs.HeldGames.{BeginsHeldGame, replies, game_answers}
use Rattle.brain_session.proofs.HeldGames.{held-games-go_well}
use Rattle.worked_examples.specs.HeldSessions.{PlaysHeldGame}

-- the answers to these replies are those of the node's game, which is won
pub plays_held : (t : HeldTable) → IsHeld t → (input : List ℕ) (before : List Command) (c : Command) (later : List Command) (g : Game)
    (i : ℕ) (qs : List Point) (said : List Answer) (n : ℕ) → commands input ≡ before ++ c ∷ later
    → BeginsHeldGame (state_after (new_brain t) before) c g i → replies (brain_step (state_after (new_brain t) before) c).next later ≡ qs
    → game_answers g.rule (state_after (new_brain t) before).held.table i (board_of g) qs ≡ said
    → game g.rule t.table i (board_of g) qs ≡ Won n → PlaysHeldGame t input i qs said n
plays_held t held input before c later g i qs said n lines begins replied answers won =
    let law = held-games-go_well t held before c later g i begins in
    record {
      before = before;
      command = c;
      later = later;
      game_there = g;
      lines = lines;
      begins = begins;
      replied = replied;
      first = law.first;
      says = law.says;
      answered = law.answers
          ∙ ap (λ (ps : List Point). game_answers g.rule (state_after (new_brain t) before).held.table i (board_of g) ps) replied ∙ answers;
      won = won;
    }
