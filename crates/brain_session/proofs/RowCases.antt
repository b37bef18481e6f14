-- The rows of the protocol, case by case: what holds of each row that a command may have holds of the row of any command.
use Rattle.std.proofs.Common.{◌≡◌, ℕ, Bool, true, false, cond, List, ◌∷◌, refl, ◌≢◌, Option, Some, None, rules}
use Rattle.brain_session.proofs.Common.{is_on, outcome, mover, RuleKind, Black, White, Point, Command, Start, RectStart, Begin, Turn, Board}
use Rattle.brain_session.proofs.Common.{Stone, Done, Restart, Takeback, Rule, Info, About, Blank, Malformed, Unknown, Answer, Error}
use Rattle.brain_session.proofs.Common.{NotReading, UnsupportedRule, BadBoard, BadArguments, GameOver, WrongTurn, Silent, Says, Ends, Game}
use Rattle.brain_session.proofs.Common.{board_of, empty_board, new_game, point_at, Place, NoBoard, Fresh, InGame, Batch, State, new_batch}
use Rattle.brain_session.proofs.Common.{spoiled, with_batch_stone, game_from, Row, Reacts, Chooses, fails, unread, reading, placed, rule_of}
use Rattle.brain_session.proofs.Common.{if_supported, is_side, start_row, restart_row, board_row, board_in, stone_row, batch_row, done_row}
use Rattle.brain_session.proofs.Common.{begin_row, same_side, move_row, turn_row, place_before, takeback_row, if_not_reading, row_of}
use Rattle.game_rules.proofs.Boards.{and_left, and_right}
use Rattle.gomocup_text.specs.declared.Command.TheVariants.{End}
use Rattle.gomocup_text.specs.declared.Answer.TheVariants.{Ok as SaysOk, About as SaysAbout, Unknown as SaysUnknown}
use Rattle.gomocup_text.specs.declared.ErrorText.TheVariants.{NoBoard as NoBoardText}

-- each row that the command c may have in the state s, with what is known where it has it
pub record RowCases (P : Row → Type 0) (s : State) (c : Command) : Type 0 where
  pub ends : c ≡ End → P (Reacts Ends s)
  pub silent : P (Reacts Silent s)
  pub says : (a : Answer) → P (Reacts (Says a) s)
  pub wishes : (wish : ℕ) → P (Reacts Silent (record s { wish = wish }))
  -- a board of a size that is supported, or that the board there has
  pub sized : (width height : ℕ) → is_side width ≡ true → is_side height ≡ true → P (Reacts (Says SaysOk) (placed s (Fresh width height)))
  pub again : (width height : ℕ) → s.place ≢ NoBoard → board_in s.place ≡ empty_board width height
      → P (Reacts (Says SaysOk) (placed s (Fresh width height)))
  -- a batch
  pub reads : s.place ≢ NoBoard → P (Reacts Silent (reading s new_batch))
  pub stone : (b : Batch) (p : Point) (field : ℕ) → s.batch ≡ Some b
      → P (Reacts Silent (reading s (with_batch_stone (is_on (board_in s.place) p) b p field)))
  pub spoils : (b : Batch) → s.batch ≡ Some b → P (Reacts Silent (reading s (spoiled b)))
  pub is_bad : (a : Answer) → P (Reacts (Says a) (unread s))
  pub whole : (rule : RuleKind) (b : Batch) (g : Game) → rule_of s.wish ≡ Some rule → s.batch ≡ Some b
      → game_from rule (board_in s.place) b ≡ Some g → P (Chooses g)
  -- a game: the first move of the brain or of the opponent, a later one of the opponent, and the last one taken back
  pub first : (rule : RuleKind) (width height : ℕ) → rule_of s.wish ≡ Some rule → s.place ≡ Fresh width height
      → P (Chooses (new_game rule (empty_board width height) Black))
  pub second : (rule : RuleKind) (width height : ℕ) (p : Point) → rule_of s.wish ≡ Some rule → s.place ≡ Fresh width height
      → P (move_row s (new_game rule (empty_board width height) White) p (outcome rule (empty_board width height) p))
  pub later : (rule : RuleKind) (g : Game) (p : Point) → rule_of s.wish ≡ Some rule → s.place ≡ InGame g
      → g.ended ≡ false → same_side (mover (board_of g)) g.brain ≡ false → P (move_row s g p (outcome g.rule (board_of g) p))
  pub back : (g : Game) (p : Point) (before : List Point) → s.place ≡ InGame g → g.moves ≡ p ∷ before
      → P (Reacts (Says SaysOk) (placed s (place_before g before)))

module _ (P : Row → Type 0) (s : State) (c : Command) (cases : RowCases P s c) where
  by_test : (r : Bool) (x y : Row) → (r ≡ true → P x) → (r ≡ false → P y) → P (cond r x y)
  by_test r x y h k = search rules

  by_rule : (o : Option RuleKind) (u : State) (row : RuleKind → Row) → P (fails UnsupportedRule u)
      → ((rule : RuleKind) → o ≡ Some rule → P (row rule)) → P (if_supported o u row)
  by_rule o u row none some = search rules

  start_case : (width height : ℕ) → P (start_row s width height)
  start_case width height = search (rules, by_test, and_left, and_right)

  restart_case : (place : Place) → s.place ≡ place → P (restart_row s place)
  restart_case place e = search rules

  board_case : (place : Place) → s.place ≡ place → P (board_row s place)
  board_case place e = search rules

  stone_case : (batch : Option Batch) (p : Point) (field : ℕ) → s.batch ≡ batch → P (stone_row s batch p field)
  stone_case batch p field e = search rules

  done_case : (batch : Option Batch) → s.batch ≡ batch → P (done_row s batch)
  done_case None e = cases.says (Error NotReading)
  done_case (Some b) e = by_rule (rule_of s.wish) (unread s) _ (cases.is_bad (Error UnsupportedRule))
      (λ rule supported. by_game rule supported (game_from rule (board_in s.place) b) refl) where
        by_game : (rule : RuleKind) → rule_of s.wish ≡ Some rule → (o : Option Game) → game_from rule (board_in s.place) b ≡ o
            → P (batch_row s o)
        by_game rule supported None is = cases.is_bad (Error BadBoard)
        by_game rule supported (Some g) is = cases.whole rule b g supported e is

  begin_case : (place : Place) → s.place ≡ place → P (begin_row s place)
  begin_case place e = search (rules, by_rule)

  turn_case : (place : Place) (p : Point) → s.place ≡ place → P (turn_row s place p)
  turn_case NoBoard p e = cases.says (Error NoBoardText)
  turn_case (Fresh width height) p e = by_rule (rule_of s.wish) s _ (cases.says (Error UnsupportedRule))
      (λ rule supported. cases.second rule width height p supported e)
  turn_case (InGame g) p e = by_test g.ended _ _ (λ over. cases.says (Error GameOver))
      (λ going. by_test (same_side (mover (board_of g)) g.brain) _ _ (λ own. cases.says (Error WrongTurn)) (λ others.
      by_rule (rule_of s.wish) s _ (cases.says (Error UnsupportedRule)) (λ rule supported. cases.later rule g p supported e going others)))

  takeback_case : (place : Place) (p : Point) → s.place ≡ place → P (takeback_row s place p)
  takeback_case place p e = search (rules, by_test)

  reading_case : (batch : Option Batch) (row : Row) → s.batch ≡ batch → P row → P (if_not_reading s batch (λ _. row))
  reading_case batch row e h = search rules

-- what holds in each case holds of the row of the command
pub row-cases : (P : Row → Type 0) (s : State) (c : Command) → RowCases P s c → P (row_of s c)
unfolding row_of
row-cases P s (Start n) m = start_case P s _ m n n
row-cases P s (RectStart width height) m = start_case P s _ m width height
row-cases P s Restart m = restart_case P s _ m s.place refl
row-cases P s About m = m.says SaysAbout
row-cases P s End m = m.ends refl
row-cases P s (Rule wish) m = m.wishes wish
row-cases P s Info m = m.silent
row-cases P s Blank m = m.silent
row-cases P s Board m = board_case P s _ m s.place refl
row-cases P s (Stone x y field) m = stone_case P s _ m s.batch (point_at x y) field refl
row-cases P s Done m = done_case P s _ m s.batch refl
row-cases P s Malformed m = reading_case P s _ m s.batch _ refl (m.says (Error BadArguments))
row-cases P s Unknown m = reading_case P s _ m s.batch _ refl (m.says SaysUnknown)
row-cases P s Begin m = reading_case P s _ m s.batch _ refl (begin_case P s _ m s.place refl)
row-cases P s (Turn x y) m = reading_case P s _ m s.batch _ refl (turn_case P s _ m s.place (point_at x y) refl)
row-cases P s (Takeback x y) m = reading_case P s _ m s.batch _ refl (takeback_case P s _ m s.place (point_at x y) refl)
