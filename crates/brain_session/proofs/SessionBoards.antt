-- The place of a session's board: empty boards, the size of a board along the moves, the board of a running game, and the rows of
-- the protocol there.
use Rattle.std.proofs.Common.{Option, Some, None, Result, OnOk, OnErr, is_none, IfOk, if◌then◌else◌, rules, ◌≡◌, inl, ℕ, ◌*◌, ◌<◌, ◌≤◌}
use Rattle.std.proofs.Common.{Bool, true, false, ◌&&◌, cond, refl, sym, ap, subst, ◌∙◌, arith, eqb-true, List, [], ◌∷◌}
use Rattle.std.proofs.Math.Nat.{mul-pos}
use Rattle.std.proofs.lemmas.List.Folds.{sum_by-replicate}
use Rattle.std.proofs.lemmas.List.{length-replicate}
use Rattle.brain_session.proofs.Common.{Grid, IsBoard, is_on, is_empty, is_empty_cell, holds, stones_of, empties_of, IsPosition, outcome}
use Rattle.brain_session.proofs.Common.{after, mover, is_same_point, MAX_SIDE, RuleKind, Side, Black, White, Cell, Empty, Refused, Point}
use Rattle.brain_session.proofs.Common.{Outcome, HeldTable, Error, ErrorText, UnsupportedRule, GameOver, WrongTurn, BadMove, SessionGame}
use Rattle.brain_session.proofs.Common.{Game, Fresh, board_after, empty_board, new_game, Place, InGame, State, board_of, last_move, is_game}
use Rattle.brain_session.proofs.Common.{board_in, is_bare, Row, Step, fails, placed, if_supported, move_row, turn_row, last_row}
use Rattle.brain_session.proofs.Common.{restart_row, takeback_row, EndsAlong, IsPlayed, IsRunning, IsPlace, Moves, IsKeptUp, IsSessionBoard}
use Rattle.brain_session.proofs.Common.{IsUntouched, without_last, game_of, place_of, IsPointOn, are_one, in_place, IsRow, IsStateOf, Takes}
use Rattle.brain_session.proofs.Common.{turn_refusal, Reaction, Says}
use Rattle.game_rules.proofs.Common.{place_of as cell_place}
use Rattle.game_rules.specs.declared.TheConstants.{MIN_SIDE}
use Rattle.game_rules.proofs.Boards.{and_left, and_right, is_empty-on}
use Rattle.game_rules.proofs.Positions.{GoesOn-empty}
use Rattle.game_rules.proofs.Points.{taken_refused, same_point-on}
use Rattle.game_rules.proofs.Outcomes.{moved}
use Rattle.game_rules.proofs.Cells.{empty_cell, bare-cells, empty_stone}
use Rattle.gomocup_text.specs.declared.Answer.TheVariants.{Ok as SaysOk}
use Rattle.brain_session.proofs.SessionGames.{start-lawful, ends-empty}

-- ---- empty boards

-- no stone stands on an empty board
pub no-stones : (width height : ℕ) (s : Side) → stones_of (empty_board width height) s ≡ 0
no-stones width height s = search (rules, sum_by-replicate, empty_stone)

-- Black is to move on it
pub empty-mover : (width height : ℕ) → mover (empty_board width height) ≡ Black
empty-mover width height = rw (no-stones width height Black, no-stones width height White) refl

no-stone : (width height : ℕ) (s : Side) (p : Point) → holds (empty_board width height) s p ≡ true → true ≡ false
no-stone width height s p h = search (rules, and_right, empty_cell, empty_stone)

-- an empty board is a lawful position
pub empty-lawful : (rule : RuleKind) (width height : ℕ) → IsBoard (empty_board width height) → IsPosition rule (empty_board width height)
empty-lawful rule width height board =
    let empties : empties_of (empty_board width height) ≡ width * height =
    sum_by-replicate (λ (c : Cell). cond (is_empty_cell c) 1 0) (width * height) Empty ∙ omega arith in
    let wide : 0 < width = let w = board.wide in omega (arith, w) in
    let high : 0 < height = let h = board.high in omega (arith, h) in
    let some : 0 < width * height = mul-pos wide high in
    record {
      board = board;
      turns = inl (no-stones width height Black ∙ sym (no-stones width height White));
      unwon = record { no_winning_run = λ s d p h. let wrong : true ≡ false = no-stone width height s p h in cc };
      open_points = omega arith;
    }

-- a point of an empty board is empty
pub empty-empty : (width height : ℕ) (p : Point) → is_on (empty_board width height) p ≡ true → is_empty (empty_board width height) p ≡ true
empty-empty width height p on = rw (on, empty_cell (width * height) (cell_place (empty_board width height) p)) refl

-- ---- the size of a board along the moves

-- what no move changes of a board is as it was before the moves
after-same : (f : Grid → ℕ) → ((b : Grid) (p : Point) → f (after b p) ≡ f b) → (start : Grid) (moves : List Point)
    → f (board_after start moves) ≡ f start
after-same f kept start [] = refl
after-same f kept start (p ∷ before) = kept (board_after start before) p ∙ after-same f kept start before

pub width-after : (start : Grid) (moves : List Point) → (board_after start moves).width ≡ start.width
width-after = after-same (λ b. b.width) (λ b p. refl)

pub height-after : (start : Grid) (moves : List Point) → (board_after start moves).height ≡ start.height
height-after = after-same (λ b. b.height) (λ b p. refl)

-- a move off the board is refused
pub off-refused : (rule : RuleKind) (start : Grid) (moves : List Point) (p : Point) → is_on (empty_board start.width start.height) p ≡ false
    → outcome rule (board_after start moves) p ≡ Refused
off-refused rule start moves p off = search (rules, width-after, height-after, taken_refused)

-- the empty board in the place of a session's board
pub board_in-place : (m : Moves) (o : Option SessionGame) → board_in (place_of m o) ≡ empty_board m.start.width m.start.height
board_in-place m o = search rules

-- ---- a running game

ends-board : (rule : RuleKind) (start : Grid) (moves : List Point) → EndsAlong rule start moves → IsBoard start
ends-board rule start moves h = search (rules, start-lawful)

played-board : (ended : Bool) (rule : RuleKind) (start : Grid) (moves : List Point) → IsPlayed ended rule start moves → IsBoard start
played-board ended rule start moves h = search (rules, ends-board, start-lawful)

-- a game that runs began on a board
pub running-board : (h : HeldTable) (g : Game) → IsRunning h g → IsBoard g.start
running-board h g run = played-board g.ended g.rule g.start g.moves run.played

-- ---- bare boards

-- a board on which no stone stands is the empty board of its size
pub bare-board : (b : Grid) → IsBoard b → is_bare b ≡ true → b ≡ empty_board b.width b.height
bare-board b board bare = search (rules, eqb-true, and_left, and_right, bare-cells)

-- the empty board of a size that is supported, or that a board has, is a board
pub board-sized : (width height : ℕ) → MIN_SIDE ≤ width → width ≤ MAX_SIDE → MIN_SIDE ≤ height → height ≤ MAX_SIDE
    → IsBoard (empty_board width height)
board-sized width height wide width_fits high height_fits = search (rules, length-replicate)

pub empty-board : (b : Grid) → IsBoard b → IsBoard (empty_board b.width b.height)
empty-board b board = board-sized b.width b.height board.wide board.width_fits board.high board.height_fits

-- the new game on a board on which no game has begun
pub new-game : (m : Moves) (c : SessionGame) (kind : RuleKind) (side : Side) → IsUntouched m
    → c ≡ record { kind = kind; brain = side; ended = false; guide = None }
    → game_of m c ≡ new_game kind (empty_board m.start.width m.start.height) side
new-game m c kind side untouched new = search rules

-- where no game has begun none is in play, and the board is untouched
pub no-game : (m : Moves) (o : Option SessionGame) → is_game (place_of m o) ≡ false → IsSessionBoard m o
    → (place_of m o ≡ Fresh m.start.width m.start.height) × IsUntouched m
no-game m o none session_board = search rules

-- the move that was made last is on the board
last-on : (rule : RuleKind) (start : Grid) (p : Point) (before : List Point) → is_empty (board_after start before) p ≡ true
    → is_on (empty_board start.width start.height) p ≡ true
last-on rule start p before empty = search (rules, width-after, height-after, is_empty-on)

played-on : (ended : Bool) (rule : RuleKind) (start : Grid) (p : Point) (before : List Point) → IsPlayed ended rule start (p ∷ before)
    → is_on (empty_board start.width start.height) p ≡ true
played-on ended rule start p before h = search (rules, last-on, ends-empty, GoesOn-empty)

pub running-on : (h : HeldTable) (g : Game) (p : Point) (before : List Point) → g.moves ≡ p ∷ before → IsRunning h g
    → is_on (empty_board g.start.width g.start.height) p ≡ true
running-on h g p before e run = played-on g.ended g.rule g.start p before (subst (IsPlayed g.ended g.rule g.start) e run.played)

-- a board that is untouched after a move was taken back
pub untouched : (m : Moves) → IsBoard m.start → (is_none (last_move m.moves) && is_bare m.start) ≡ true → IsUntouched m
untouched m board e = search (rules, and_left, bare-board, and_right)

-- a game that is kept up is a session's board
pub session_board-kept : (h : HeldTable) (m : Moves) (c : SessionGame) → IsKeptUp h m c → IsSessionBoard m (Some c)
session_board-kept h m c kept = (running-board h (game_of m c) kept.running, kept.guided)

-- the session's board after a call that kept it up, or that failed and left it as it was
pub session_board-after : {T E : Type 0} (h : HeldTable) (m n : Moves) (c d : SessionGame) (r : Result T E)
    → OnOk r (IsKeptUp h n d) → OnErr r (n ≡ m) → OnErr r (d ≡ c) → IsSessionBoard m (Some c) → IsSessionBoard n (Some d)
session_board-after h m n c d r kept played game session_board = search (rules, session_board-kept)

-- a session's board that is untouched after the last move was taken back
pub untouched-before : (m : Moves) (o : Option SessionGame) → IsSessionBoard m o
    → (is_none (last_move (without_last m.moves)) && is_bare m.start) ≡ true → IsUntouched (record m { moves = without_last m.moves })
untouched-before m None session_board e = record { unmoved = ap without_last session_board.unmoved; bare = session_board.bare }
untouched-before m (Some c) session_board e = untouched (record m { moves = without_last m.moves }) session_board.0 e

-- the same of the moves after the call that took it back
pub untouched_by : (m n : Moves) (o : Option SessionGame) → IsSessionBoard m o → n ≡ record m { moves = without_last m.moves }
    → true ≡ (is_none (last_move n.moves) && is_bare n.start) → IsUntouched n
untouched_by m n o session_board taken e = search (rules, untouched-before)

-- ---- a move of the opponent

takes-by : (s : State) (r q : Reaction) (a b : Place) → r ≡ q → a ≡ b
    → (let step : Step = record { reaction = q; next = placed s b } in step) ≡ record { reaction = r; next = placed s a }
takes-by s r q a b e f = λ i. record { reaction = sym e i; next = placed s (sym f i) }

-- an error leaves the place as it is
fails-takes : (s : State) (e : ErrorText) (r : Reaction) (place : Place) → s.batch ≡ None → r ≡ Says (Error e) → place ≡ s.place
    → Takes (fails e s) s r (placed s place)
fails-takes s e r place unread says same = search (rules, takes-by)

-- what the row of the reply says in a game is its step, also where the reply begins the game and is no bad move
move-takes : (s : State) (g : Game) (p : Point) (o : Outcome) (r : Reaction) (next : Game) → s.batch ≡ None
    → (o ≡ Refused → s.place ≡ InGame g)
    → IsRow s.held (move_row (in_place s.held (InGame g)) g p o) r (InGame next) → Takes (move_row s g p o) s r (placed s (InGame next))
move-takes s g p o r next unread here is = search (rules, fails-takes, takes-by)

-- the same in a state that holds this
held-takes : (h : HeldTable) (s : State) (g : Game) (p : Point) (o : Outcome) (r : Reaction) (next : Game) → s.held ≡ h → s.batch ≡ None
    → (o ≡ Refused → s.place ≡ InGame g)
    → IsRow h (move_row (in_place h (InGame g)) g p o) r (InGame next) → Takes (move_row s g p o) s r (placed s (InGame next))
held-takes h s g p o r next holds unread here is = search (rules, move-takes)

-- ---- RESTART

-- a board from which all stones were taken, with no moves, is untouched
pub cleared-untouched : (m n : Moves) → n ≡ record { start = empty_board m.start.width m.start.height; moves = [] } → IsUntouched n
cleared-untouched m n cleared = subst IsUntouched (sym cleared) (record { unmoved = refl; bare = refl })

-- and a board of its size may stand in the place
pub cleared-place : (h : HeldTable) (m n : Moves) → IsBoard m.start
    → n ≡ record { start = empty_board m.start.width m.start.height; moves = [] } → IsPlace h (place_of n None)
cleared-place h m n board cleared = search (rules, empty-board)

-- it is what a RESTART makes of the session's board
pub restart-takes : (m n : Moves) (o : Option SessionGame) (s : State)
    → n ≡ record { start = empty_board m.start.width m.start.height; moves = [] }
    → Takes (restart_row s (place_of m o)) s (Says SaysOk) (placed s (place_of n None))
restart-takes m n o s cleared = search (rules, takes-by)

-- ---- TURN

-- why no TURN may come, by three tests, and the row by the same tests
abbrev refused_by : Bool → Bool → Option RuleKind → Option ErrorText
refused_by ended wrong rule = if ended then Some GameOver else if wrong then Some WrongTurn else if is_none rule then Some UnsupportedRule
    else None

abbrev row_by : State → Bool → Bool → Option RuleKind → (RuleKind → Row) → Row
row_by s ended wrong rule row = if ended then fails GameOver s else if wrong then fails WrongTurn s else if_supported rule s row

open-row : (s : State) (ended wrong : Bool) (rule : Option RuleKind) (row : Row) → refused_by ended wrong rule ≡ None
    → row_by s ended wrong rule (λ _. row) ≡ row
open-row s ended wrong rule row e = search rules

-- the row of a TURN that may come in a game
turn-in_game : (h : HeldTable) (g : Game) (rule : Option RuleKind) (s : State) (p : Point) → turn_refusal (InGame g) rule ≡ None
    → IsStateOf h (InGame g) rule s → turn_row s (InGame g) p ≡ move_row s g p (outcome g.rule (board_of g) p)
turn-in_game h g rule s p e at = search (rules, open-row)

-- the row of a TURN on a board on which no game has begun, with a rule
turn-fresh : (h : HeldTable) (width height : ℕ) (kind : RuleKind) (s : State) (p : Point) → IsStateOf h (Fresh width height) (Some kind) s
    → turn_row s (Fresh width height) p ≡ move_row s (new_game kind (empty_board width height) White) p
    (outcome kind (empty_board width height) p)
turn-fresh h width height kind s p at = search rules

-- a TURN off the board is a bad move
pub turn-off : (h : HeldTable) (m : Moves) (o : Option SessionGame) (rule : Option RuleKind) (s : State) (p : Point)
    → turn_refusal (place_of m o) rule ≡ None → IsStateOf h (place_of m o) rule s → is_on (board_in (place_of m o)) p ≡ false
    → Takes (turn_row s (place_of m o) p) s (Says (Error BadMove)) (placed s (place_of m o))
turn-off h m None None s p e at off = absurd (cc)
turn-off h m None (Some kind) s p e at off =
    let g : Game = new_game kind (empty_board m.start.width m.start.height) White in
    let row : turn_row s (Fresh m.start.width m.start.height) p ≡ fails BadMove s = turn-fresh h m.start.width m.start.height kind s p at
    ∙ ap (move_row s g p) (off-refused kind (empty_board m.start.width m.start.height) [] p off) in
    subst (λ (w : Row). Takes w s (Says (Error BadMove)) (placed s (Fresh m.start.width m.start.height)))
    (sym row) (fails-takes s BadMove _ _ at.unread refl (sym at.place_is))
turn-off h m (Some c) rule s p e at off =
    let g : Game = game_of m c in
    let row : turn_row s (InGame g) p ≡ fails BadMove s =
    turn-in_game h g rule s p e at ∙ ap (move_row s g p) (off-refused c.kind m.start m.moves p off) in
    subst (λ (w : Row). Takes w s (Says (Error BadMove)) (placed s (InGame g))) (sym row)
    (fails-takes s BadMove _ _ at.unread refl (sym at.place_is))

-- a TURN in a game, after the call that took its reply, with the point as the brain was told it
pub turn-taken : {E : Type 0} (h : HeldTable) (g : Game) (rule : Option RuleKind) (b : Grid) (at : Option Point) (q : Point)
    (r : Result Reaction E) (next : Game) → turn_refusal (InGame g) rule ≡ None → at ≡ Some q
    → IfOk r (λ x. IsRow h (move_row (in_place h (InGame g)) g q (outcome g.rule (board_of g) q)) x (InGame next))
    → IfOk r (λ x. (s : State) (p : Point) → IsStateOf h (InGame g) rule s → IsPointOn b p at
    → Takes (turn_row s (InGame g) p) s x (placed s (InGame next)))
turn-taken h g rule b at q r next may is taken = search (rules, turn-in_game, held-takes)

-- a TURN at a point of a board on which no game has begun, whose reply was taken
pub first-taken : (h : HeldTable) (width height : ℕ) (kind : RuleKind) (s : State) (p : Point) (r : Reaction) (next : Game)
    → IsStateOf h (Fresh width height) (Some kind) s → is_on (empty_board width height) p ≡ true
    → (let g : Game = new_game kind (empty_board width height) White in
    IsRow h (move_row (in_place h (InGame g)) g p (outcome kind (empty_board width height) p)) r (InGame next))
    → Takes (turn_row s (Fresh width height) p) s r (placed s (InGame next))
first-taken h width height kind s p r next at on taken = search (rules, turn-fresh, held-takes, moved, empty-empty)

-- ---- TAKEBACK

-- the move p is not the last one, if the point that was told is not
not-last : (b : Grid) (q p : Point) (at : Option Point) → is_on b q ≡ true → IsPointOn b p at → are_one (Some q) at ≡ false
    → is_same_point q p ≡ false
not-last b q p at on point e = search (rules, same_point-on)

-- a TAKEBACK of a point at which the last move was not made
pub takeback-bad : (m : Moves) (o : Option SessionGame) (s : State) (p : Point) (at : Option Point) → s.place ≡ place_of m o
    → s.batch ≡ None → IsPlace s.held (place_of m o) → IsPointOn (board_in (place_of m o)) p at → are_one (last_move m.moves) at ≡ false
    → Takes (takeback_row s (place_of m o) p) s (Says (Error BadMove)) (placed s (place_of m o))
takeback-bad m None s p at here unread place point e = fails-takes s BadMove _ _ unread refl (sym here)
takeback-bad m (Some c) s p at here unread run point e = by_moves m.moves refl e where
  by_moves : (moves : List Point) → m.moves ≡ moves → are_one (last_move moves) at ≡ false
      → Takes (last_row s (game_of m c) p moves) s (Says (Error BadMove)) (placed s (InGame (game_of m c)))
  by_moves [] same e = fails-takes s BadMove _ _ unread refl (sym here)
  by_moves (q ∷ before) same e =
      let differs : is_same_point q p ≡ false = not-last (empty_board m.start.width m.start.height) q p at
      (running-on s.held (game_of m c) q before same run) point e in
      rw differs (fails-takes s BadMove _ _ unread refl (sym here))
