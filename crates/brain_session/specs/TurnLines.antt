-- Points as lines TURN, byte by byte.
use Rattle.std.specs.Prelude.{◌≡◌, ℕ, ◌<◌, List, [], ◌∷◌, ◌++◌, codes, All}
use Rattle.std.specs.List.{flat_map}
use Rattle.game_rules.specs.declared.TheConstants.{MAX_SIDE}
use Rattle.game_rules.specs.declared.Point.{Point}
use Rattle.renju_io.specs.Lines.{whole_lines}
use Rattle.gomocup_text.specs.Commands.{commands}
use Rattle.gomocup_text.specs.Answers.{answer_words}
use Rattle.gomocup_text.specs.declared.Answer.TheVariants.{Move}
use Rattle.gomocup_text.specs.declared.Command.{Command}
use Rattle.strategy_graph.specs.Games.{attacks}
use Rattle.strategy_checker.specs.HeldRoots.{HeldTable, IsHeld}
use Rattle.brain_session.specs.States.{Game, board_of, new_brain}
use Rattle.brain_session.specs.Sessions.{answer_texts, answers_from, session_text, state_after}
use Rattle.brain_session.specs.Serving.{HasNoEnd}
use Rattle.brain_session.specs.HeldGames.{AreReplies, BeginsHeldGame, game_answers, turns}
use Rattle.brain_session.specs.OwnGames.{BeginsOwnGame, win_answers, win_attacks}

-- the line TURN of a point, which is written as the brain writes its moves
abbrev pub turn_line : Point → List ℕ
turn_line q = codes "TURN " ++ answer_words (Move q) ++ codes "\r\n"

-- the lines of points, one after another
abbrev pub turn_lines : List Point → List ℕ
turn_lines qs = flat_map turn_line qs

-- the point is one of the largest board
pub record IsSomeBoards (q : Point) : Type 0 where
  pub within : q.x < MAX_SIDE
  pub below : q.y < MAX_SIDE

-- Behind whole lines, the lines TURN of points are read as these turns.
abbrev pub TurnLinesAreRead : Type 0
TurnLinesAreRead =
    (front : List ℕ) (qs : List Point) → whole_lines front ≡ front → All IsSomeBoards qs
    → commands (front ++ turn_lines qs) ≡ commands front ++ turns qs

-- Bytes on both sides: where whole lines have come, none of them END, of which the last begins a held game, and the lines TURN of legal
-- replies come behind them, the bytes of the session are those of the answers to the lines before that one, and then the lines
-- of the attacks of the table against the replies, one for one.
abbrev pub AnswersInBytes : HeldTable → Type 0
AnswersInBytes held =
    (front : List ℕ) (before : List Command) (c : Command) (g : Game) (i : ℕ) (qs : List Point)
    → whole_lines front ≡ front → commands front ≡ before ++ c ∷ [] → HasNoEnd before
    → BeginsHeldGame (state_after (new_brain held) before) c g i
    → AreReplies g.rule (board_of g) (attacks g.rule held.table i (board_of g) qs) qs
    → session_text (new_brain held) (front ++ turn_lines qs)
    ≡ answer_texts (answers_from (new_brain held) before) ++ answer_texts (game_answers g.rule held.table i (board_of g) qs)

-- the same of all that is held
abbrev pub RepliesAreAnsweredInBytes : Type 0
RepliesAreAnsweredInBytes = (held : HeldTable) → IsHeld held → AnswersInBytes held

-- Bytes on both sides of a game by a win of the brain's own: behind the answers to the lines before it come the lines of the attacks of
-- the win against the replies, one for one.
abbrev pub OwnAnswersInBytes : HeldTable → Type 0
OwnAnswersInBytes held =
    (front : List ℕ) (before : List Command) (c : Command) (g : Game) (m : ℕ) (qs : List Point)
    → whole_lines front ≡ front → commands front ≡ before ++ c ∷ [] → HasNoEnd before
    → BeginsOwnGame (state_after (new_brain held) before) c g m
    → AreReplies g.rule (board_of g) (win_attacks g.rule m (board_of g) qs) qs
    → session_text (new_brain held) (front ++ turn_lines qs)
    ≡ answer_texts (answers_from (new_brain held) before) ++ answer_texts (win_answers g.rule m (board_of g) qs)

-- the same of all that is held
abbrev pub OwnRepliesAreAnsweredInBytes : Type 0
OwnRepliesAreAnsweredInBytes = (held : HeldTable) → IsHeld held → OwnAnswersInBytes held
