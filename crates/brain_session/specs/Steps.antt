-- What the brain does at each command, row by row: for each command the first condition that holds decides.
use Rattle.std.specs.Prelude.{ℕ, Bool, true, false, ◌&&◌, ◌||◌, not, ◌==◌, nat_le, if◌then◌else◌, List, [], ◌∷◌, Option, Some, None}
use Rattle.game_rules.specs.Grid.{Grid, is_on, stones_of}
use Rattle.game_rules.specs.Shapes.{is_same_point}
use Rattle.game_rules.specs.Play.{outcome, mover, goes_on}
use Rattle.game_rules.specs.declared.TheConstants.{MIN_SIDE, MAX_SIDE}
use Rattle.game_rules.specs.declared.RuleKind.{RuleKind}
use Rattle.game_rules.specs.declared.RuleKind.TheVariants.{Freestyle, Exact, Renju}
use Rattle.game_rules.specs.declared.Side.{Side}
use Rattle.game_rules.specs.declared.Side.TheVariants.{Black, White}
use Rattle.game_rules.specs.declared.Outcome.{Outcome}
use Rattle.game_rules.specs.declared.Outcome.TheVariants.{Refused, Wins, Fouls, Draws, GoesOn}
use Rattle.game_rules.specs.declared.Point.{Point}
use Rattle.gomocup_text.specs.declared.Command.{Command}
use Rattle.gomocup_text.specs.declared.Command.TheVariants.{Start, RectStart, Begin, Turn, Board, Stone, Done, Restart, Takeback, Rule}
use Rattle.gomocup_text.specs.declared.Command.TheVariants.{Info, About, End, Blank, Malformed, Unknown}
use Rattle.gomocup_text.specs.declared.Answer.TheVariants.{Ok as SaysOk, Move, About as SaysAbout, Error, Unknown as SaysUnknown}
use Rattle.gomocup_text.specs.declared.ErrorText.{ErrorText}
use Rattle.gomocup_text.specs.declared.ErrorText.TheVariants.{UnsupportedSize, NoBoard as NoBoardText, NotReading, UnsupportedRule}
use Rattle.gomocup_text.specs.declared.ErrorText.TheVariants.{BadBoard, BadArguments, GameStarted, GameOver, WrongTurn, BadMove, GameLost}
use Rattle.gomocup_text.specs.declared.ErrorText.TheVariants.{OpponentFoul, GameDrawn}
use Rattle.brain_session.specs.declared.Reaction.{Reaction}
use Rattle.brain_session.specs.declared.Reaction.TheVariants.{Silent, Says, Ends}
use Rattle.brain_session.specs.States.{Game, board_of, empty_board, new_game, point_at, Place, NoBoard, Fresh, InGame, Batch, State}
use Rattle.brain_session.specs.Batches.{new_batch, spoiled, with_batch_stone, game_from}
use Rattle.brain_session.specs.ChosenMoves.{Choice, chosen}

-- what a row of the protocol says: a reaction and the state after it, or that the brain makes its chosen move in a game
pub data Row : Type 0 where
  Reacts : (reaction : Reaction) (next : State) → Row
  Chooses : (game : Game) → Row

-- an error is answered
abbrev pub fails : ErrorText → State → Row
fails e s = Reacts (Says (Error e)) s

-- the state with no batch
abbrev pub unread : State → State
unread s = record s { batch = None }

-- the state with this batch
abbrev pub reading : State → Batch → State
reading s b = record s { batch = Some b }

-- the state in this place, with no batch
abbrev pub placed : State → Place → State
placed s place = record s { place = place; batch = None }

-- the rule of a wish, where it is supported: 0 is freestyle, 1 exact, 4 and 5 renju
abbrev pub rule_of : ℕ → Option RuleKind
rule_of wish = if wish == 0 then Some Freestyle else if wish == 1 then Some Exact else if wish == 4 || wish == 5 then Some Renju else None

-- the row of a rule that is supported, or that the wish isn't
abbrev pub if_supported : Option RuleKind → State → (RuleKind → Row) → Row
if_supported None unsupported row = fails UnsupportedRule unsupported
if_supported (Some rule) unsupported row = row rule

-- START and RECTSTART

-- whether a board may be so wide or high
abbrev pub is_side : ℕ → Bool
is_side n = nat_le MIN_SIDE n && nat_le n MAX_SIDE

-- a board of this size is begun, unless the size is not supported
abbrev pub start_row : State → ℕ → ℕ → Row
start_row s width height =
    if is_side width && is_side height then Reacts (Says SaysOk) (placed s (Fresh width height)) else fails UnsupportedSize s

-- RESTART: a board of the same size
abbrev pub restart_row : State → Place → Row
restart_row s NoBoard = fails NoBoardText s
restart_row s (Fresh width height) = Reacts (Says SaysOk) (placed s (Fresh width height))
restart_row s (InGame g) = Reacts (Says SaysOk) (placed s (Fresh g.start.width g.start.height))

-- BOARD: a new batch
abbrev pub board_row : State → Place → Row
board_row s NoBoard = fails NoBoardText s
board_row s (Fresh width height) = Reacts Silent (reading s new_batch)
board_row s (InGame g) = Reacts Silent (reading s new_batch)

-- the empty board of the size that the board in this place has
abbrev pub board_in : Place → Grid
board_in NoBoard = empty_board 0 0
board_in (Fresh width height) = empty_board width height
board_in (InGame g) = empty_board g.start.width g.start.height

-- a line X,Y,FIELD: a stone of the batch
abbrev pub stone_row : State → Option Batch → Point → ℕ → Row
stone_row s None p field = Reacts (Says SaysUnknown) s
stone_row s (Some b) p field = Reacts Silent (reading s (with_batch_stone (is_on (board_in s.place) p) b p field))

-- the brain moves in the game, or the position of the batch is bad
abbrev pub batch_row : State → Option Game → Row
batch_row s None = fails BadBoard (unread s)
batch_row s (Some g) = Chooses g

-- DONE: the batch is whole
abbrev pub done_row : State → Option Batch → Row
done_row s None = fails NotReading s
done_row s (Some b) = if_supported (rule_of s.wish) (unread s) (λ rule. batch_row s (game_from rule (board_in s.place) b))

-- BEGIN: the brain is Black on an empty board
abbrev pub begin_row : State → Place → Row
begin_row s NoBoard = fails NoBoardText s
begin_row s (InGame g) = fails GameStarted s
begin_row s (Fresh width height) = if_supported (rule_of s.wish) s (λ rule. Chooses (new_game rule (empty_board width height) Black))

-- whether two sides are one
abbrev pub same_side : Side → Side → Bool
same_side Black Black = true
same_side White White = true
same_side _ _ = false

-- the game after one more move, ended or not
abbrev pub with_move : Game → Point → Bool → Game
with_move g p ended = record g { moves = p ∷ g.moves; ended = ended }

-- the game after the opponent's move that ended it, with this said
abbrev pub end_row : State → Game → Point → ErrorText → Row
end_row s g p e = Reacts (Says (Error e)) (placed s (InGame (with_move g p true)))

-- the opponent's move, by its outcome
abbrev pub move_row : State → Game → Point → Outcome → Row
move_row s g p Refused = fails BadMove s
move_row s g p Wins = end_row s g p GameLost
move_row s g p (Fouls f) = end_row s g p OpponentFoul
move_row s g p Draws = end_row s g p GameDrawn
move_row s g p GoesOn = Chooses (with_move g p false)

-- TURN: the opponent's move. On a board without a game it begins one, and the brain is White.
abbrev pub turn_row : State → Place → Point → Row
turn_row s NoBoard p = fails NoBoardText s
turn_row s (Fresh width height) p =
    if_supported (rule_of s.wish) s
    (λ rule. let g = new_game rule (empty_board width height) White in move_row s g p (outcome rule (board_of g) p))
turn_row s (InGame g) p =
    if g.ended then fails GameOver s
    else if same_side (mover (board_of g)) g.brain then fails WrongTurn s
    else if_supported (rule_of s.wish) s (λ rule. move_row s g p (outcome g.rule (board_of g) p))

-- whether no stone stands on the board
abbrev pub is_bare : Grid → Bool
is_bare b = stones_of b Black == 0 && stones_of b White == 0

-- the place after the last move was taken back and these are left: that of a board without a game, where nothing is left of a
-- game from the empty board
abbrev pub place_before : Game → List Point → Place
place_before g [] = if is_bare g.start then Fresh g.start.width g.start.height else InGame
    (record g { moves = []; ended = false; followed = None })
place_before g (p ∷ before) = InGame (record g { moves = p ∷ before; ended = false; followed = None })

-- the move p of the game, of which these are the moves, is taken back, if it is the last
abbrev pub last_row : State → Game → Point → List Point → Row
last_row s g p [] = fails BadMove s
last_row s g p (last ∷ before) = if is_same_point last p then Reacts (Says SaysOk) (placed s (place_before g before)) else fails BadMove s

-- TAKEBACK: the last move is taken back
abbrev pub takeback_row : State → Place → Point → Row
takeback_row s NoBoard p = fails NoBoardText s
takeback_row s (Fresh width height) p = fails BadMove s
takeback_row s (InGame g) p = last_row s g p g.moves

-- a line that has no place in a batch: while one is read it makes the batch bad, and else the row is this
abbrev pub if_not_reading : State → Option Batch → (Unit {0} → Row) → Row
if_not_reading s (Some b) row = Reacts Silent (reading s (spoiled b))
if_not_reading s None row = row tt

-- the row of each command
unfoldable pub row_of : State → Command → Row
row_of s (Start n) = start_row s n n
row_of s (RectStart width height) = start_row s width height
row_of s Restart = restart_row s s.place
row_of s About = Reacts (Says SaysAbout) s
row_of s End = Reacts Ends s
row_of s (Rule wish) = Reacts Silent (record s { wish = wish })
row_of s Info = Reacts Silent s
row_of s Blank = Reacts Silent s
row_of s Board = board_row s s.place
row_of s (Stone x y field) = stone_row s s.batch (point_at x y) field
row_of s Done = done_row s s.batch
row_of s Malformed = if_not_reading s s.batch (λ _. fails BadArguments s)
row_of s Unknown = if_not_reading s s.batch (λ _. Reacts (Says SaysUnknown) s)
row_of s Begin = if_not_reading s s.batch (λ _. begin_row s s.place)
row_of s (Turn x y) = if_not_reading s s.batch (λ _. turn_row s s.place (point_at x y))
row_of s (Takeback x y) = if_not_reading s s.batch (λ _. takeback_row s s.place (point_at x y))

-- the game after the brain's choice: with another outcome than that it goes on, it is ended
abbrev pub with_choice : Game → Choice → Game
with_choice g c =
    record g { moves = c.at ∷ g.moves; ended = not (goes_on (outcome g.rule (board_of g) c.at)); followed = c.followed }

-- a step of the brain: its reaction, and the state after it
pub record Step : Type 0 where
  pub reaction : Reaction
  pub next : State

-- the step of a row
abbrev pub step_by : State → Row → Step
step_by s (Reacts reaction next) = record { reaction = reaction; next = next }
step_by s (Chooses g) =
    let c = chosen s.held g in record { reaction = Says (Move c.at); next = placed s (InGame (with_choice g c)) }

-- the step at a command
abbrev pub brain_step : State → Command → Step
brain_step s c = step_by s (row_of s c)
