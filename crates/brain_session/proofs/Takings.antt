-- Steps of the brain: the step of a command by what its row says, and the stones of a batch that fit the board.
use Rattle.std.proofs.Common.{◌≡◌, ℕ, ◌<◌, Bool, true, false, ◌&&◌, ◌||◌, not, refl, sym, ap, subst, ◌∙◌, arith, List, [], ◌∷◌, ◌++◌}
use Rattle.std.proofs.Common.{length, get_or, Option, Some, None, Result, IfOk, IfSome, IsOk, rules, IsNone, is_some, All, ◌==◌}
use Rattle.std.proofs.Common.{if◌then◌else◌, option_map}
use Rattle.std.proofs.lemmas.List.Elements.{All-push}
use Rattle.std.proofs.lemmas.List.Quantifiers.{all_pairs_push}
use Rattle.std.proofs.lemmas.List.Folds.{list_any_at}
use Rattle.brain_session.proofs.Common.{Grid, is_on, is_same_point, RuleKind, Point, HeldTable, IsHeld, Command, Done, Turn, Reaction}
use Rattle.brain_session.proofs.Common.{Silent, BatchStone, Game, Batch, Place, NoBoard, State, empty_board, point_at, new_batch, spoiled}
use Rattle.brain_session.proofs.Common.{has_stone_at, with_batch_stone, with_stone_at, game_from, Row, Reacts, reading, placed, rule_of}
use Rattle.brain_session.proofs.Common.{turn_row, done_row, board_in, row_of, brain_step, if_not_reading, IsPlace, IsBrain, StonesFit}
use Rattle.brain_session.proofs.Common.{begins_none, is_following, is_settled, takes_none, IsBegun, IsPointOn, IsStateOf, Takes}
use Rattle.brain_session.proofs.Common.{has_no_place_in_batch, is_spoiled}
use Rattle.foul_judge.specs.Lawful.{refusal}
use Rattle.game_rules.proofs.Boards.{and_left, and_right, on_x}

none_from : {X : Type 0} (o : Option X) → IsNone o → o ≡ None
none_from o e = search rules

-- ---- the steps of a session's board

-- the brain answers a TURN, by what its session's board did
pub turn-takes : {E : Type 0} (r : Result Reaction E) (s : State) (place new : Place) (rule : Option RuleKind) (at : Option Point)
    (p : Point) → s.place ≡ place → rule ≡ rule_of s.wish → IsNone s.batch → IsPointOn (board_in place) p at
    → IfOk r (λ x. (t : State) (q : Point) → IsStateOf s.held place rule t → IsPointOn (board_in place) q at
    → Takes (turn_row t place q) t x (placed t new)) → IfOk r (λ x. Takes (turn_row s s.place p) s x (record s { place = new }))
turn-takes r s place new rule at p here by_wish none point rows = search (rules, none_from)

-- a point that the brain was told is on the board
pub told-on : (b : Grid) (p : Point) (at : Option Point) → IsPointOn b p at → IfSome at (λ q. is_on b q ≡ true)
told-on b p at point = search rules

-- ---- batches

no-stone_at : (stones : List BatchStone) (p : Point) → has_stone_at stones p ≡ false → (k : ℕ) (d : BatchStone) → k < length stones
    → is_same_point (get_or stones k d).at p ≡ false
no-stone_at stones p none k d less = search (rules, list_any_at)

-- no stones fit, those of a batch fit that was spoiled, and those after a line of the batch
pub none_fit : (b : Grid) → StonesFit b new_batch
none_fit b = record { on_board = λ k d lt. absurd (omega arith); distinct = λ i j d lt within. absurd (omega arith) }

pub spoiled_fits : (b : Grid) (batch : Batch) → StonesFit b batch → StonesFit b (spoiled batch)
spoiled_fits b batch fit = record { on_board = fit.on_board; distinct = fit.distinct }

pub stone_fits : (b : Grid) (on : Bool) (batch : Batch) (p : Point) (field : ℕ) → (on ≡ true → is_on b p ≡ true) → StonesFit b batch
    → StonesFit b (with_batch_stone on batch p field)
stone_fits b on batch p field there fit = by_tests on (field == 1 || field == 2) (has_stone_at batch.stones p) refl refl where
  by_tests : (o r t : Bool) → on ≡ o → has_stone_at batch.stones p ≡ t
      → StonesFit b (if o && r && not t then record batch { stones = batch.stones ++ record { at = p; own = field == 1 } ∷ [] } else spoiled
      batch)
  by_tests true true false e f = record {
    on_board = All-push (λ x. is_on b x.at ≡ true) batch.stones (record { at = p; own = field == 1 }) fit.on_board (there e);
    distinct = all_pairs_push (λ x u. is_same_point x.at u.at ≡ false) batch.stones (record { at = p; own = field == 1 }) fit.distinct
        (no-stone_at batch.stones p f);
  }
  by_tests true true true e f = spoiled_fits b batch fit
  by_tests true false t e f = spoiled_fits b batch fit
  by_tests false r t e f = spoiled_fits b batch fit

fit-with : (b : Grid) (batch : Batch) (at : Option Point) (field : ℕ) → IfSome at (λ q. is_on b q ≡ true) → StonesFit b batch
    → StonesFit b (with_stone_at batch at field)
fit-with b batch None field on fit = spoiled_fits b batch fit
fit-with b batch (Some p) field on fit = stone_fits b true batch p field (λ _. on) fit

-- without a board no game begins from a batch
pub no-board : (rule : RuleKind) (b : Batch) → StonesFit (empty_board 0 0) b → game_from rule (empty_board 0 0) b ≡ None
unfolding refusal
no-board rule b fit = by_parts b.bad b.stones fit.on_board where
  by_parts : (bad : Bool) (stones : List BatchStone) → All (λ x. is_on (empty_board 0 0) x.at ≡ true) stones
      → game_from rule (empty_board 0 0) (record { stones = stones; bad = bad }) ≡ None
  by_parts true stones on = refl
  by_parts false [] on = refl
  by_parts false (x ∷ xs) on = let off : x.at.x < 0 = on_x (empty_board 0 0) x.at (on 0 x (omega arith)) in absurd (omega arith)

-- the brain begins a game from the batch, by what was begun
pub done-takes : (s : State) (b : Batch) (kind : RuleKind) (r : Reaction) (place : Place) → s.batch ≡ Some b → Some kind ≡ rule_of s.wish
    → IsBegun s.held (game_from kind (board_in s.place) b) (Some (place, r)) → Takes (done_row s s.batch) s r (placed s place)
done-takes s b kind r place read by_wish begun = search rules

pub done-row : (s : State) (kind : RuleKind) (r : Reaction) (place : Place) → is_some s.batch ≡ true → Some kind ≡ rule_of s.wish
    → IfSome s.batch (λ b. IsBegun s.held (game_from kind (board_in s.place) b) (Some (place, r)))
    → Takes (done_row s s.batch) s r (placed s place)
done-row s kind r place read by_wish begun = search (rules, done-takes)

-- without a board nothing is begun
pub none-begun : (h : HeldTable) (kind : RuleKind) (place : Place) (o : Option Batch) → place ≡ NoBoard
    → IfSome o (StonesFit (board_in place)) → IfSome o (λ b. IsBegun h (game_from kind (board_in place) b) None)
none-begun h kind place None none fit = tt
none-begun h kind place (Some b) none fit =
    let nothing : game_from kind (board_in place) b ≡ None =
    ap (λ (w : Place). game_from kind (board_in w) b) none ∙ no-board kind b (subst (λ (w : Place). StonesFit (board_in w) b) none fit) in
    subst (λ (g : Option Game). IsBegun h g None) (sym nothing) tt

-- the batch that fits after a line
fit-after : (b : Grid) (old : Option Batch) (at : Option Point) (field : ℕ) → IfSome at (λ q. is_on b q ≡ true) → IfSome old (StonesFit b)
    → IfSome (option_map (λ x. with_stone_at x at field) old) (StonesFit b)
fit-after b None at field on fit = tt
fit-after b (Some x) at field on fit = fit-with b x at field on fit

-- the brain as it stands after the line, by what the batch became
pub stone-running : (s : State) (p : Point) (at : Option Point) (field : ℕ) (next : Option Batch) → IsBrain s
    → IsPointOn (board_in s.place) p at → next ≡ option_map (λ x. with_stone_at x at field) s.batch → IsBrain (record s { batch = next })
stone-running s p at field next brain point is = search (rules, fit-after, told-on)

-- the brain in another place, where no batch is read
pub placed-running : (s : State) (place : Place) → IsHeld s.held → IsNone s.batch → IsPlace s.held place
    → IsBrain (record s { place = place })
placed-running s place held none is = search (rules, none_from)

-- ---- the step of each command

outside-row : (s : State) (c : Command) (b : Batch) → has_no_place_in_batch c ≡ true → s.batch ≡ Some b
    → row_of s c ≡ Reacts Silent (reading s (spoiled b))
unfolding row_of
outside-row s c b e read = search rules

-- a command that has no place in the batch that is read
pub spoiled-step : (s : State) (c : Command) → is_spoiled s c ≡ true
    → brain_step s c ≡ record { reaction = Silent; next = record s { batch = option_map spoiled s.batch } }
spoiled-step s c e = search (rules, and_left, outside-row, and_right)

-- the step of a command is that of the one that it is
pub at-command : {E : Type 0} (r : Result Reaction E) (s new : State) (c d : Command) → c ≡ d → IfOk r (λ x. Takes (row_of s d) s x new)
    → IfOk r (λ x. Takes (row_of s c) s x new)
at-command r s new c d e takes = subst (λ (b : Command). IfOk r (λ x. Takes (row_of s b) s x new)) (sym e) takes

pub said-at : (s new : State) (c d : Command) (r : Reaction) → c ≡ d → Takes (row_of s d) s r new → Takes (row_of s c) s r new
said-at s new c d r e takes = subst (λ (b : Command). Takes (row_of s b) s r new) (sym e) takes

-- where no batch is read, the row of a command that has no place in one is its own
pub row-unread : (s : State) (row : Row) → IsNone s.batch → if_not_reading s s.batch (λ _. row) ≡ row
row-unread s row none = ap (λ (o : Option Batch). if_not_reading s o (λ _. row)) (none_from s.batch none)

pub if-unread : {E : Type 0} (r : Result Reaction E) (s new : State) (row : Row) → IsNone s.batch → IfOk r (λ x. Takes row s x new)
    → IfOk r (λ x. Takes (if_not_reading s s.batch (λ _. row)) s x new)
if-unread r s new row none takes = subst (λ (w : Row). IfOk r (λ x. Takes w s x new)) (sym (row-unread s row none)) takes

pub said-unread : (s new : State) (row : Row) (r : Reaction) → IsNone s.batch → Takes row s r new
    → Takes (if_not_reading s s.batch (λ _. row)) s r new
said-unread s new row r none takes = subst (λ (w : Row). Takes w s r new) (sym (row-unread s row none)) takes

-- a command that has no place in a batch is taken only where none is read
pub unread-at : (s : State) (c d : Command) → c ≡ d → has_no_place_in_batch d ≡ true → is_spoiled s c ≡ false → IsNone s.batch
unread-at s c d same outside e = search rules

-- a batch that is done and takes none: no game begins from it, or there is no rule
pub done-free : {E : Type 0} (r : Result Reaction E) (s : State) (c : Command) → c ≡ Done → (begins_none s.batch ≡ true → IsOk r)
    → (IsNone (rule_of s.wish) → IsOk r) → takes_none s c ≡ true → IsOk r
done-free r s c is none unsupported free = search rules

-- a TURN that takes no memory
pub turn-free : {E : Type 0} (r : Result Reaction E) (s : State) (c : Command) (x y : ℕ) → c ≡ Turn x y → IsNone s.batch
    → (is_following s.place ≡ true → IsOk r) → (is_settled s.held (turn_row s s.place (point_at x y)) ≡ true → IsOk r)
    → takes_none s c ≡ true → IsOk r
unfolding row_of
turn-free r s c x y is none following settled free = search (rules, row-unread)
