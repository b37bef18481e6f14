-- The drawing of a session has the board of the brain, line by line.
use Rattle.std.proofs.Common.{◌≡◌, ◌≢◌, ℕ, Bool, true, false, cond, ◌==◌, List, [], ◌∷◌, ◌++◌, refl, sym, ap, subst, ◌∙◌, arith}
use Rattle.std.proofs.Common.{Option, Some, None, IfSome, fold, option_map, rules}
use Rattle.std.proofs.lemmas.Option.{same_Some}
use Rattle.brain_session.proofs.Common.{Grid, IsBoard, is_same_point, mover, outcome, RuleKind, Side, White, Outcome, Point, Command, Start}
use Rattle.brain_session.proofs.Common.{RectStart, Begin, Turn, Board, Stone, Done, Restart, Takeback, Rule, Info, About, Blank, Malformed}
use Rattle.brain_session.proofs.Common.{Unknown, Answer, Move, Error, ErrorText, NotReading, UnsupportedRule, BadBoard, BadArguments}
use Rattle.brain_session.proofs.Common.{GameOver, WrongTurn, BadMove, Says, Ends, BatchStone, Game, board_of, empty_board, new_game}
use Rattle.brain_session.proofs.Common.{point_at, Place, NoBoard, Fresh, InGame, Batch, State, spoiled, colour_in, with_batch_stones}
use Rattle.brain_session.proofs.Common.{game_from, chosen, without_last, Row, Reacts, fails, unread, placed, rule_of, if_supported}
use Rattle.brain_session.proofs.Common.{start_row, restart_row, board_row, board_in, stone_row, batch_row, done_row, begin_row, same_side}
use Rattle.brain_session.proofs.Common.{move_row, turn_row, is_bare, place_before, last_row, takeback_row, if_not_reading, row_of, step_by}
use Rattle.brain_session.proofs.Common.{brain_step, state_after, HasNoEnd, Exchange, Sheet, Drawing, SessionsAreDrawn, answer_in, exchanges}
use Rattle.brain_session.proofs.Common.{blank, set_up, wiped, sent_anew, sent_board, set_out, with_answer, with_reply, taken_back}
use Rattle.brain_session.proofs.Common.{with_moves, drawn_after, drawn}
use Rattle.gomocup_text.specs.declared.Command.TheVariants.{End}
use Rattle.gomocup_text.specs.declared.Answer.TheVariants.{Ok as SaysOk, Unknown as SaysUnknown}
use Rattle.gomocup_text.specs.declared.ErrorText.TheVariants.{NoBoard as NoBoardText}
use Rattle.brain_session.proofs.SessionBoards.{bare-board}
use Rattle.brain_session.proofs.SessionLaws.{first_goes_on, later_go_on, only_end_ends, state_goes_on}
use Rattle.brain_session.proofs.LawfulStates.{BatchFits, LawfulPlace, LawfulState, next-lawful, went_from}

abbrev pub sheet_with : Grid → List Point → Sheet
sheet_with b ms = record { start = b; moves = ms }

same_sheet : (b c : Grid) (ms ns : List Point) → b ≡ c → ms ≡ ns → sheet_with b ms ≡ sheet_with c ns
same_sheet b c ms ns e f = λ i. sheet_with (e i) (f i)

-- the sheet of a place
abbrev pub sheet_of : Place → Option Sheet
sheet_of NoBoard = None
sheet_of (Fresh width height) = Some (sheet_with (empty_board width height) [])
sheet_of (InGame g) = Some (sheet_with g.start g.moves)

-- the stones that were sent are those of the batch, if no line of it was bad
abbrev pub AreSent : Option Batch → Option (List BatchStone) → Type 0
AreSent None None = Unit {0}
AreSent None (Some stones) = ⊥
AreSent (Some b) None = ⊥
AreSent (Some b) (Some stones) = b.bad ≡ false → stones ≡ b.stones

-- the drawing is that of the state
pub record IsDrawn (s : State) (d : Drawing) : Type 0 where
  pub wish : d.wish ≡ s.wish
  pub sheet : d.sheet ≡ sheet_of s.place
  pub sent : AreSent s.batch d.sent

-- ---- a game from a batch

-- the game begins from the stones of a batch that is not bad, of which the colours are the brain's and the opponent's
pub record IsFromBatch (rule : RuleKind) (empty : Grid) (b : Batch) (g : Game) : Type 0 where
  pub good : b.bad ≡ false
  pub brain : Side
  pub colour : colour_in b.stones ≡ Some brain
  pub is : new_game rule (with_batch_stones brain empty b.stones) brain ≡ g

from_batch : (rule : RuleKind) (empty : Grid) (b : Batch) (g : Game) → game_from rule empty b ≡ Some g → IsFromBatch rule empty b g
from_batch rule empty b g = search (rules, same_Some)

-- a batch is read on a board alone
reads_on : (place : Place) → IsBoard (board_in place)
    → (sheet : Sheet) × (sheet_of place ≡ Some sheet) × (board_in place ≡ wiped (Some sheet))
reads_on NoBoard board = let wide = board.wide in absurd (omega (arith, wide))
reads_on (Fresh width height) board = (sheet_with (empty_board width height) [], refl, refl)
reads_on (InGame g) board = (sheet_with g.start g.moves, refl, refl)

-- the position of the game that a batch begins is the one that was sent
pub record IsSent (place : Place) (sent : Option (List BatchStone)) (rule : RuleKind) (g : Game) : Type 0 where
  pub sheet : Sheet
  pub is : sheet_of place ≡ Some sheet
  pub start : sent_board sent sheet ≡ g.start
  pub moves : g.moves ≡ []
  pub rule_is : g.rule ≡ rule
  pub followed : g.followed ≡ None

pub batch-sent : (s : State) (sent : Option (List BatchStone)) → AreSent s.batch sent → LawfulState s → (rule : RuleKind)
    (b : Batch) (g : Game) → s.batch ≡ Some b → game_from rule (board_in s.place) b ≡ Some g → IsSent s.place sent rule g
batch-sent s sent are lawful rule b g read begun = search (rules, reads_on, from_batch)

-- ---- one line

same_sheets : (f : Sheet → Sheet) → ((sheet : Sheet) → f sheet ≡ sheet) → (o : Option Sheet) → option_map f o ≡ o
same_sheets f same o = search rules

-- the sheet of a game to which these moves come
abbrev on_sheet : (List Point → List Point) → Option Sheet → Option Sheet
on_sheet f o = option_map (λ (sheet : Sheet). record sheet { moves = f sheet.moves }) o

same_moves : (f : List Point → List Point) → ((ms : List Point) → f ms ≡ ms) → (o : Option Sheet) → on_sheet f o ≡ o
same_moves f same o = search (rules, same_sheets)

-- a stone that is sent
abbrev sent_stone : Point → ℕ → BatchStone
sent_stone p field = record { at = p; own = field == 1 }

module _ (s : State) (x : Option (List BatchStone)) (sent : AreSent s.batch x) where
  -- what is drawn of the state, with these stones
  abbrev here : Drawing
  here = record { wish = s.wish; sheet = sheet_of s.place; sent = x }

  unchanged : IsDrawn s here
  unchanged = record { wish = refl; sheet = refl; sent = sent }

  none_sent : s.batch ≡ None → AreSent None x
  none_sent e = subst (λ (o : Option Batch). AreSent o x) e sent

  spoiled_sent : (b : Batch) → s.batch ≡ Some b → AreSent (Some (spoiled b)) x
  spoiled_sent b e = search rules

  -- ---- a board

  abbrev SetsUp : Grid → Row → Type 0
  SetsUp b row = IsDrawn (step_by s row).next (set_up here (answer_in (step_by s row).reaction) b)

  start_drawn : (width height : ℕ) → SetsUp (empty_board width height) (start_row s width height)
  start_drawn width height = search rules

  restart_drawn : (place : Place) → SetsUp (wiped (sheet_of place)) (restart_row s place)
  restart_drawn place = search rules

  -- ---- a batch

  abbrev Anew : Row → Type 0
  Anew row = IsDrawn (step_by s row).next (record here { sent = sent_anew (answer_in (step_by s row).reaction) x })

  board_drawn : (place : Place) → Anew (board_row s place)
  board_drawn NoBoard = unchanged
  board_drawn (Fresh width height) = record { wish = refl; sheet = refl; sent = λ good. refl }
  board_drawn (InGame g) = record { wish = refl; sheet = refl; sent = λ good. refl }

  stone_drawn : (p : Point) (field : ℕ) → IsDrawn (step_by s (stone_row s s.batch p field)).next
      (record here { sent = option_map (λ (stones : List BatchStone). stones ++ sent_stone p field ∷ []) x })
  stone_drawn p field = search rules

  abbrev SetsOut : Row → Type 0
  SetsOut row = IsDrawn (step_by s row).next
      (record here { sheet = option_map (set_out (answer_in (step_by s row).reaction) x) (sheet_of s.place); sent = None })

  done_drawn : LawfulState s → SetsOut (done_row s s.batch)
  done_drawn lawful = by_batch s.batch refl where
    by_game : (rule : RuleKind) (b : Batch) → s.batch ≡ Some b → (o : Option Game) → game_from rule (board_in s.place) b ≡ o
        → SetsOut (batch_row s o)
    by_game rule b read None e =
        record { wish = refl; sheet = same_sheets (set_out (Some (Error BadBoard)) x) (λ sheet. refl) (sheet_of s.place); sent = tt }
    by_game rule b read (Some g) e =
        let is = batch-sent s x sent lawful rule b g read e in
        let at = (chosen s.held g).at in
        record {
          wish = refl;
          sheet = ap (option_map (set_out (Some (Move at)) x)) is.is
              ∙ ap Some (same_sheet _ _ _ _ is.start (ap (λ (ms : List Point). at ∷ ms) (sym is.moves)));
          sent = tt;
        }

    by_rule : (b : Batch) → s.batch ≡ Some b → (o : Option RuleKind)
        → SetsOut (if_supported o (unread s) (λ rule. batch_row s (game_from rule (board_in s.place) b)))
    by_rule b read None =
        record { wish = refl; sheet = same_sheets (set_out (Some (Error UnsupportedRule)) x) (λ sheet. refl) (sheet_of s.place); sent = tt }
    by_rule b read (Some rule) = by_game rule b read (game_from rule (board_in s.place) b) refl

    by_batch : (batch : Option Batch) → s.batch ≡ batch → SetsOut (done_row s batch)
    by_batch None e = record {
      wish = refl;
      sheet = same_sheets (set_out (Some (Error NotReading)) x) (λ sheet. refl) (sheet_of s.place);
      sent = subst (λ (o : Option Batch). AreSent o None) (sym e) tt;
    }
    by_batch (Some b) e = by_rule b e (rule_of s.wish)

  -- ---- moves

  abbrev Moves : (Option Answer → List Point → List Point) → Row → Type 0
  Moves f row = IsDrawn (step_by s row).next (with_moves here (f (answer_in (step_by s row).reaction)))

  -- a line that is not taken leaves the moves
  fails_drawn : (f : Option Answer → List Point → List Point) (e : ErrorText) → ((ms : List Point) → f (Some (Error e)) ms ≡ ms)
      → Moves f (fails e s)
  fails_drawn f e same = search (rules, same_moves)

  -- and so does one while a batch is read
  unless_read : (f : Option Answer → List Point → List Point) → ((ms : List Point) → f None ms ≡ ms) → (row : Row)
      → (s.batch ≡ None → Moves f row) → Moves f (if_not_reading s s.batch (λ _. row))
  unless_read f same row drawn_row = by_batch s.batch refl where
    by_batch : (batch : Option Batch) → s.batch ≡ batch → Moves f (if_not_reading s batch (λ _. row))
    by_batch None e = drawn_row e
    by_batch (Some b) e = record { wish = refl; sheet = same_moves (f None) same (sheet_of s.place); sent = spoiled_sent b e }

  begin_drawn : s.batch ≡ None → (place : Place) → s.place ≡ place → Moves with_answer (begin_row s place)
  begin_drawn none place e = search (rules, fails_drawn, none_sent)

  move_drawn : s.batch ≡ None → (g : Game) → sheet_of s.place ≡ Some (sheet_with g.start g.moves) → (p : Point) (o : Outcome)
      → Moves (λ a. with_reply a p) (move_row s g p o)
  move_drawn none g at p o = search (rules, fails_drawn, none_sent)

  turn_drawn : s.batch ≡ None → (p : Point) (place : Place) → s.place ≡ place → Moves (λ a. with_reply a p) (turn_row s place p)
  turn_drawn none p NoBoard e = fails_drawn (λ a. with_reply a p) NoBoardText (λ ms. refl)
  turn_drawn none p (Fresh width height) e = by_rule (rule_of s.wish) where
    by_rule : (o : Option RuleKind) → Moves (λ a. with_reply a p) (if_supported o s (λ rule.
        let g = new_game rule (empty_board width height) White in move_row s g p (outcome rule (board_of g) p)))
    by_rule None = fails_drawn (λ a. with_reply a p) UnsupportedRule (λ ms. refl)
    by_rule (Some rule) = move_drawn none (new_game rule (empty_board width height) White) (ap sheet_of e) p _
  turn_drawn none p (InGame g) e = by_test g.ended (same_side (mover (board_of g)) g.brain) (rule_of s.wish) where
    by_test : (over own : Bool) (o : Option RuleKind) → Moves (λ a. with_reply a p) (cond over (fails GameOver s)
        (cond own (fails WrongTurn s) (if_supported o s (λ rule. move_row s g p (outcome g.rule (board_of g) p)))))
    by_test true own o = fails_drawn (λ a. with_reply a p) GameOver (λ ms. refl)
    by_test false true o = fails_drawn (λ a. with_reply a p) WrongTurn (λ ms. refl)
    by_test false false None = fails_drawn (λ a. with_reply a p) UnsupportedRule (λ ms. refl)
    by_test false false (Some rule) = move_drawn none g (ap sheet_of e) p (outcome g.rule (board_of g) p)

  takeback_drawn : LawfulState s → s.batch ≡ None → (p : Point) (place : Place) → s.place ≡ place
      → Moves taken_back (takeback_row s place p)
  takeback_drawn lawful none p NoBoard e = fails_drawn taken_back NoBoardText (λ ms. refl)
  takeback_drawn lawful none p (Fresh width height) e = fails_drawn taken_back BadMove (λ ms. refl)
  takeback_drawn lawful none p (InGame g) e = by_moves g.moves refl where
    board : IsBoard g.start
    board = (went_from g.ended g.rule g.start g.moves (subst LawfulPlace e lawful.place)).board

    -- the sheet without the last move is that of the place before it
    before_it : (before : List Point) → Some (sheet_with g.start before) ≡ sheet_of (place_before g before)
    before_it (q ∷ before) = refl
    before_it [] = by_bare (is_bare g.start) refl where
      by_bare : (r : Bool) → is_bare g.start ≡ r → Some (sheet_with g.start [])
          ≡ sheet_of (cond r (Fresh g.start.width g.start.height) (InGame (record g { moves = []; ended = false; followed = None })))
      by_bare true bare = ap (λ (b : Grid). Some (sheet_with b [])) (bare-board g.start board bare)
      by_bare false bare = refl

    by_moves : (moves : List Point) → g.moves ≡ moves → Moves taken_back (last_row s g p moves)
    by_moves [] is = fails_drawn taken_back BadMove (λ ms. refl)
    by_moves (last ∷ before) is = by_test (is_same_point last p) where
      by_test : (r : Bool) → Moves taken_back (cond r (Reacts (Says SaysOk) (placed s (place_before g before))) (fails BadMove s))
      by_test true = record {
        wish = refl;
        sheet = ap (λ (place : Place). on_sheet (taken_back (Some SaysOk)) (sheet_of place)) e
            ∙ ap (λ (ms : List Point). Some (sheet_with g.start (without_last ms))) is ∙ before_it before;
        sent = none_sent none;
      }
      by_test false = fails_drawn taken_back BadMove (λ ms. refl)

  -- a line that has no place in a batch, and is drawn as nothing
  plain_drawn : (e : Answer) → IsDrawn (step_by s (if_not_reading s s.batch (λ _. Reacts (Says e) s))).next here
  plain_drawn e = search (rules, spoiled_sent)

  step_drawn : LawfulState s → (c : Command) → IsDrawn (brain_step s c).next (drawn_after here c (answer_in (brain_step s c).reaction))
  unfolding row_of
  step_drawn lawful (Start n) = start_drawn n n
  step_drawn lawful (RectStart width height) = start_drawn width height
  step_drawn lawful Restart = restart_drawn s.place
  step_drawn lawful About = unchanged
  step_drawn lawful End = unchanged
  step_drawn lawful (Rule wish) = record { wish = refl; sheet = refl; sent = sent }
  step_drawn lawful Info = unchanged
  step_drawn lawful Blank = unchanged
  step_drawn lawful Board = board_drawn s.place
  step_drawn lawful (Stone a b field) = stone_drawn (point_at a b) field
  step_drawn lawful Done = done_drawn lawful
  step_drawn lawful Malformed = plain_drawn (Error BadArguments)
  step_drawn lawful Unknown = plain_drawn SaysUnknown
  step_drawn lawful Begin = unless_read with_answer (λ ms. refl) (begin_row s s.place) (λ none. begin_drawn none s.place refl)
  step_drawn lawful (Turn a b) = unless_read (λ r. with_reply r (point_at a b))
      (λ ms. refl) (turn_row s s.place (point_at a b)) (λ none. turn_drawn none (point_at a b) s.place refl)
  step_drawn lawful (Takeback a b) = unless_read taken_back
      (λ ms. refl) (takeback_row s s.place (point_at a b)) (λ none. takeback_drawn lawful none (point_at a b) s.place refl)

-- ---- sessions

next_drawn : (s : State) (d : Drawing) (c : Command) → LawfulState s → IsDrawn s d
    → IsDrawn (brain_step s c).next (drawn_after d c (answer_in (brain_step s c).reaction))
next_drawn s d c lawful is =
    let same : here s d.sent is.sent ≡ d = λ i. record { wish = sym is.wish i; sheet = sym is.sheet i; sent = d.sent } in
    subst (λ (e : Drawing). IsDrawn (brain_step s c).next (drawn_after e c (answer_in (brain_step s c).reaction))) same
    (step_drawn s d.sent is.sent lawful c)

session_drawn : (s : State) (d : Drawing) (cs : List Command) → LawfulState s → IsDrawn s d → HasNoEnd cs
    → IsDrawn (state_after s cs) (fold (λ (d : Drawing) (x : Exchange). drawn_after d x.line x.answer) d (exchanges s cs))
unfolding state_after exchanges
session_drawn s d [] lawful is no_end = is
session_drawn s d (c ∷ cs) lawful is no_end =
    let step = brain_step s c in
    let goes_on : step.reaction ≢ Ends = λ e. first_goes_on c cs no_end (only_end_ends s c e) in
    subst (λ (u : State). IsDrawn u
    (fold (λ (d : Drawing) (x : Exchange). drawn_after d x.line x.answer) (drawn_after d c (answer_in step.reaction))
    (exchanges step.next cs))) (sym (state_goes_on step.reaction step.next (state_after step.next cs) goes_on))
    (session_drawn step.next (drawn_after d c (answer_in step.reaction)) cs (next-lawful s.held s c (lawful, refl)).0
    (next_drawn s d c lawful is) (later_go_on c cs no_end))

-- what is drawn of a session from a new brain on
pub drawn-session : (s : State) (cs : List Command) → s.wish ≡ 0 → s.place ≡ NoBoard → s.batch ≡ None → HasNoEnd cs
    → IsDrawn (state_after s cs) (drawn (exchanges s cs))
drawn-session s cs wish place batch no_end = session_drawn s blank cs (record {
  place = subst LawfulPlace (sym place) tt;
  batch = subst (λ (o : Option Batch). IfSome o (BatchFits (board_in s.place))) (sym batch) tt;
}) (record { wish = sym wish; sheet = ap sheet_of (sym place); sent = subst (λ (o : Option Batch). AreSent o None) (sym batch) tt }) no_end

pub sessions-are_drawn : SessionsAreDrawn
sessions-are_drawn held cs no_end = search (rules, drawn-session)
