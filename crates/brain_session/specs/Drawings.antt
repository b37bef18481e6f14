-- The board that a reader of a session draws, from its lines and the answers to them alone.
use Rattle.std.specs.Prelude.{◌≡◌, ℕ, ◌==◌, List, [], ◌∷◌, ◌++◌, fold, Option, Some, None, unwrap_or}
use Rattle.std.specs.Option.{option_map}
use Rattle.game_rules.specs.Grid.{Grid}
use Rattle.game_rules.specs.declared.Side.TheVariants.{Black}
use Rattle.game_rules.specs.declared.Point.{Point}
use Rattle.strategy_checker.specs.HeldRoots.{HeldTable}
use Rattle.gomocup_text.specs.declared.Command.{Command}
use Rattle.gomocup_text.specs.declared.Command.TheVariants.{Start, RectStart, Begin, Turn, Board, Stone, Done, Restart, Takeback, Rule}
use Rattle.gomocup_text.specs.declared.Command.TheVariants.{Info, About, End, Blank, Malformed, Unknown}
use Rattle.gomocup_text.specs.declared.Answer.{Answer}
use Rattle.gomocup_text.specs.declared.Answer.TheVariants.{Ok as SaysOk, Move, Error}
use Rattle.gomocup_text.specs.declared.ErrorText.TheVariants.{GameLost, OpponentFoul, GameDrawn}
use Rattle.brain_session.specs.declared.Reaction.{Reaction}
use Rattle.brain_session.specs.declared.Reaction.TheVariants.{Silent, Says, Ends}
use Rattle.brain_session.specs.declared.batch.BatchStone.{BatchStone}
use Rattle.brain_session.specs.States.{board_after, board_of, empty_board, new_brain, point_at, Place, NoBoard, Fresh, InGame, State}
use Rattle.brain_session.specs.Batches.{colour_in, with_batch_stones}
use Rattle.brain_session.specs.Kept.{without_last}
use Rattle.brain_session.specs.Steps.{brain_step}
use Rattle.brain_session.specs.Sessions.{state_after}
use Rattle.brain_session.specs.Serving.{HasNoEnd}

-- a line of a session, by its command, and the answer to it, if it has one
pub record Exchange : Type 0 where
  pub line : Command
  pub answer : Option Answer

-- the answer of a reaction, if it is one
abbrev pub answer_in : Reaction → Option Answer
answer_in Silent = None
answer_in (Says a) = Some a
answer_in Ends = None

-- these lines, each with the answer to it, from this state on
unfoldable pub exchanges : State → List Command → List Exchange
exchanges s [] = []
exchanges s (c ∷ cs) =
    let step = brain_step s c in record { line = c; answer = answer_in step.reaction } ∷ exchanges step.next cs

-- a position that was set up, and the moves on it since, the last one first
pub record Sheet : Type 0 where
  pub start : Grid
  pub moves : List Point

-- What a reader has drawn: the number of the rule that is wished for, the sheet, once there is a board, and the stones that BOARD has
-- sent so far, while it does.
pub record Drawing : Type 0 where
  pub wish : ℕ
  pub sheet : Option Sheet
  pub sent : Option (List BatchStone)

-- before the first line
abbrev pub blank : Drawing
blank = record { wish = 0; sheet = None; sent = None }

-- a new sheet with this position, if the line was answered with OK
abbrev pub set_up : Drawing → Option Answer → Grid → Drawing
set_up d (Some SaysOk) b = record d { sheet = Some (record { start = b; moves = [] }); sent = None }
set_up d a b = d

-- the empty board of the size of the sheet
abbrev pub wiped : Option Sheet → Grid
wiped None = empty_board 0 0
wiped (Some sheet) = empty_board sheet.start.width sheet.start.height

-- no stones, if BOARD was taken without a word
abbrev pub sent_anew : Option Answer → Option (List BatchStone) → Option (List BatchStone)
sent_anew None old = Some []
sent_anew (Some a) old = old

-- the board of this size with the stones that were sent on it: the brain is Black where it has as many as the opponent, and else White
abbrev pub sent_board : Option (List BatchStone) → Sheet → Grid
sent_board None sheet = wiped (Some sheet)
sent_board (Some stones) sheet = with_batch_stones (unwrap_or (colour_in stones) Black) (wiped (Some sheet)) stones

-- the sheet with the stones that were sent, and the move of the answer on them, if it is one
abbrev pub set_out : Option Answer → Option (List BatchStone) → Sheet → Sheet
set_out (Some (Move p)) sent sheet = record { start = sent_board sent sheet; moves = p ∷ [] }
set_out a sent sheet = sheet

-- the moves, and that of the answer, if it is one
abbrev pub with_answer : Option Answer → List Point → List Point
with_answer (Some (Move p)) ms = p ∷ ms
with_answer a ms = ms

-- the moves after the opponent's move q, where the answer is a move or says that q ended the game; with another answer q was not made
abbrev pub with_reply : Option Answer → Point → List Point → List Point
with_reply (Some (Move p)) q ms = p ∷ q ∷ ms
with_reply (Some (Error GameLost)) q ms = q ∷ ms
with_reply (Some (Error OpponentFoul)) q ms = q ∷ ms
with_reply (Some (Error GameDrawn)) q ms = q ∷ ms
with_reply a q ms = ms

-- the moves without the last one, if it was taken back
abbrev pub taken_back : Option Answer → List Point → List Point
taken_back (Some SaysOk) ms = without_last ms
taken_back a ms = ms

-- the drawing with these moves on its sheet
abbrev pub with_moves : Drawing → (List Point → List Point) → Drawing
with_moves d f = record d { sheet = option_map (λ (sheet : Sheet). record sheet { moves = f sheet.moves }) d.sheet }

-- what is drawn after one line more, which was answered so
abbrev pub drawn_after : Drawing → Command → Option Answer → Drawing
drawn_after d (Start n) a = set_up d a (empty_board n n)
drawn_after d (RectStart width height) a = set_up d a (empty_board width height)
drawn_after d Restart a = set_up d a (wiped d.sheet)
drawn_after d (Rule wish) a = record d { wish = wish }
drawn_after d Board a = record d { sent = sent_anew a d.sent }
drawn_after d (Stone x y field) a =
    record d { sent = option_map (λ (stones : List BatchStone). stones ++ record { at = point_at x y; own = field == 1 } ∷ []) d.sent }
drawn_after d Done a = record d { sheet = option_map (set_out a d.sent) d.sheet; sent = None }
drawn_after d Begin a = with_moves d (with_answer a)
drawn_after d (Turn x y) a = with_moves d (with_reply a (point_at x y))
drawn_after d (Takeback x y) a = with_moves d (taken_back a)
drawn_after d Info a = d
drawn_after d About a = d
drawn_after d End a = d
drawn_after d Blank a = d
drawn_after d Malformed a = d
drawn_after d Unknown a = d

-- what is drawn after these lines
abbrev pub drawn : List Exchange → Drawing
drawn xs = fold (λ (d : Drawing) (x : Exchange). drawn_after d x.line x.answer) blank xs

-- the board that is drawn, if there is one
abbrev pub drawn_board : Drawing → Option Grid
drawn_board d = option_map (λ (sheet : Sheet). board_after sheet.start sheet.moves) d.sheet

-- the board of the brain, if it has one
abbrev pub board_now : Place → Option Grid
board_now NoBoard = None
board_now (Fresh width height) = Some (empty_board width height)
board_now (InGame g) = Some (board_of g)

-- After each session up to END the board of the brain has exactly the stones that a reader of its lines and answers has drawn.
abbrev pub SessionsAreDrawn : Type 0
SessionsAreDrawn =
    (held : HeldTable) (cs : List Command) → HasNoEnd cs
    → board_now (state_after (new_brain held) cs).place ≡ drawn_board (drawn (exchanges (new_brain held) cs))
