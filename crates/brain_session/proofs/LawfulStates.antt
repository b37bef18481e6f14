-- What is true of the brain's state whatever it was told, as far as held games need it: the moves of a game that is not ended
-- went on from a lawful position, and those of an ended one did so up to the last.
use Rattle.std.proofs.Common.{◌≡◌, ℕ, Bool, true, false, List, [], ◌∷◌, refl, sym, ap, subst, ◌∙◌, IfSome, ◌≢◌, Option, Some, leb-true}
use Rattle.std.proofs.Common.{rules}
use Rattle.brain_session.proofs.Common.{Grid, IsBoard, is_on, put, IsPosition, outcome, mover, other, RuleKind, Side, White, Point}
use Rattle.brain_session.proofs.Common.{HeldTable, Command, Reaction, BatchStone, Game, board_of, empty_board, new_game, Place, NoBoard}
use Rattle.brain_session.proofs.Common.{Fresh, InGame, Batch, State, new_brain, side_of, colour_in, with_batch_stones, game_from, Choice}
use Rattle.brain_session.proofs.Common.{Row, Reacts, Chooses, placed, is_side, board_in, same_side, move_row, place_before, row_of}
use Rattle.brain_session.proofs.Common.{with_choice, step_by, brain_step, then_state, state_after, GoesOnAlong, StonesFit}
use Rattle.game_rules.proofs.Boards.{and_left, and_right}
use Rattle.game_rules.proofs.Positions.{mover-then, IsBoard-put}
use Rattle.foul_judge.proofs.Lawfulness.{lawful_from_none}
use Rattle.brain_session.proofs.SessionGames.{along-lawful, start-lawful}
use Rattle.brain_session.proofs.SessionBoards.{empty-mover, empty-lawful, board-sized, empty-board}
use Rattle.brain_session.proofs.BatchGames.{batch-mover}
use Rattle.brain_session.proofs.Takings.{none_fit, spoiled_fits, stone_fits}
use Rattle.brain_session.proofs.RowCases.{row-cases}

-- the moves of a game, of which the last may have ended it
abbrev pub WentOn : Bool → RuleKind → Grid → List Point → Type 0
WentOn false rule start moves = GoesOnAlong rule start moves
WentOn true rule start [] = IsPosition rule start
WentOn true rule start (p ∷ before) = GoesOnAlong rule start before

abbrev pub LawfulPlace : Place → Type 0
LawfulPlace NoBoard = Unit {0}
LawfulPlace (Fresh width height) = IsBoard (empty_board width height)
LawfulPlace (InGame g) = WentOn g.ended g.rule g.start g.moves

-- a batch on the board of this size: there is a board, and the stones fit
abbrev pub BatchFits : Grid → Batch → Type 0
BatchFits board b = IsBoard board × StonesFit board b

pub record LawfulState (s : State) : Type 0 where
  pub place : LawfulPlace s.place
  pub batch : IfSome s.batch (BatchFits (board_in s.place))

-- a game in which the brain is to move
pub record IsToMove (g : Game) : Type 0 where
  pub along : GoesOnAlong g.rule g.start g.moves
  pub turn : mover (board_of g) ≡ g.brain

-- what a row leads to
abbrev pub LawfulRow : HeldTable → Row → Type 0
LawfulRow h (Reacts r next) = LawfulState next × (next.held ≡ h)
LawfulRow h (Chooses g) = IsToMove g

-- ---- moves that went on

pub went_from : (ended : Bool) (rule : RuleKind) (start : Grid) (moves : List Point) → WentOn ended rule start moves → IsPosition rule start
went_from false rule start moves h = start-lawful rule start moves h
went_from true rule start [] h = h
went_from true rule start (p ∷ before) h = start-lawful rule start before h

-- the moves before the last one went on
went_before : (ended : Bool) (rule : RuleKind) (start : Grid) (p : Point) (before : List Point) → WentOn ended rule start (p ∷ before)
    → GoesOnAlong rule start before
went_before ended rule start p before h = search rules

not_ended : (ended : Bool) (rule : RuleKind) (start : Grid) (moves : List Point) → ended ≡ false → WentOn ended rule start moves
    → GoesOnAlong rule start moves
not_ended ended rule start moves e h = search rules

-- ---- boards

IsBoard-empty : (width height : ℕ) → is_side width ≡ true → is_side height ≡ true → IsBoard (empty_board width height)
IsBoard-empty width height w h = search (rules, board-sized, leb-true, and_left, and_right)

IsBoard-with : (brain : Side) (b : Grid) (stones : List BatchStone) → IsBoard b → IsBoard (with_batch_stones brain b stones)
IsBoard-with brain b [] ok = ok
IsBoard-with brain b (s ∷ stones) ok = IsBoard-with brain (put b (side_of brain s) s.at) stones (IsBoard-put b (side_of brain s) s.at ok)

placed_lawful : (s : State) (place : Place) → LawfulPlace place → LawfulState (placed s place)
placed_lawful s place h = record { place = h; batch = tt }

-- the board of the size of that in a place
sized_board : (place : Place) → place ≢ NoBoard → LawfulPlace place → IsBoard (board_in place)
sized_board place some h = search (rules, empty-board, went_from)

batch_of : (s : State) (b : Batch) → s.batch ≡ Some b → LawfulState s → BatchFits (board_in s.place) b
batch_of s b e h = subst (λ (o : Option Batch). IfSome o (BatchFits (board_in s.place))) e h.batch

-- ---- DONE

-- the board in a place is an empty one
board_in_is : (place : Place) → (width : ℕ) × (height : ℕ) × (board_in place ≡ empty_board width height)
board_in_is NoBoard = (0, 0, refl)
board_in_is (Fresh width height) = (width, height, refl)
board_in_is (InGame g) = (g.start.width, g.start.height, refl)

mover_in_batch : (brain : Side) (board : Grid) (width height : ℕ) (b : Batch) → board ≡ empty_board width height → BatchFits board b
    → colour_in b.stones ≡ Some brain → mover (with_batch_stones brain board b.stones) ≡ brain
mover_in_batch brain board width height b e fits h =
    subst (λ (c : Grid). mover (with_batch_stones brain c b.stones) ≡ brain) (sym e) (let there : BatchFits (empty_board width height) b =
    subst (λ (c : Grid). BatchFits c b) e fits in batch-mover brain width height b.stones b.bad there.0 there.1 h)

-- the game that a batch begins is one in which the brain is to move
batch_game : (rule : RuleKind) (place : Place) (b : Batch) → BatchFits (board_in place) b
    → IfSome (game_from rule (board_in place) b) IsToMove
batch_game rule place b fits = search (rules, lawful_from_none, IsBoard-with, board_in_is, mover_in_batch)

-- ---- a move of the opponent

not_same : (s t : Side) → same_side s t ≡ false → other s ≡ t
not_same s t e = search rules

-- the opponent's move in a game in which the opponent is to move
move_lawful : (s : State) (g : Game) (p : Point) → LawfulState s → GoesOnAlong g.rule g.start g.moves → other (mover (board_of g)) ≡ g.brain
    → LawfulRow s.held (move_row s g p (outcome g.rule (board_of g) p))
move_lawful s g p h along turn = search (rules, mover-then, along-lawful, placed_lawful)

-- ---- the last move taken back

place_before_lawful : (g : Game) (before : List Point) → GoesOnAlong g.rule g.start before → LawfulPlace (place_before g before)
place_before_lawful g before h = search (rules, empty-board)

-- ---- each command

pub row-lawful : (s : State) (c : Command) → LawfulState s → LawfulRow s.held (row_of s c)
row-lawful s c h = row-cases (LawfulRow s.held) s c (record {
  ends = λ is. (h, refl);
  silent = (h, refl);
  says = λ a. (h, refl);
  wishes = λ wish. (record { place = h.place; batch = h.batch }, refl);
  sized = λ width height wide high. (placed_lawful s (Fresh width height) (IsBoard-empty width height wide high), refl);
  again = λ width height some size. (placed_lawful s (Fresh width height) (subst IsBoard size (sized_board s.place some h.place)), refl);
  reads = λ some. (record { place = h.place; batch = (sized_board s.place some h.place, none_fit (board_in s.place)) }, refl);
  stone = λ b p field read.
      let fits = batch_of s b read h in (
        record {
          place = h.place;
          batch = (fits.0, stone_fits (board_in s.place) (is_on (board_in s.place) p) b p field (λ on. on) fits.1);
        },
        refl,
      );
  spoils = λ b read. let fits = batch_of s b read h in
      (record { place = h.place; batch = (fits.0, spoiled_fits (board_in s.place) b fits.1) }, refl);
  is_bad = λ a. (record { place = h.place; batch = tt }, refl);
  whole = λ rule b g by_wish read is. subst (λ (o : Option Game). IfSome o IsToMove) is (batch_game rule s.place b (batch_of s b read h));
  first = λ rule width height by_wish at.
      record { along = empty-lawful rule width height (subst LawfulPlace at h.place); turn = empty-mover width height };
  second = λ rule width height p by_wish at. move_lawful s (new_game rule (empty_board width height) White) p h
      (empty-lawful rule width height (subst LawfulPlace at h.place)) (ap other (empty-mover width height));
  later = λ rule g p by_wish at going others. move_lawful s g p h
      (not_ended g.ended g.rule g.start g.moves going (subst LawfulPlace at h.place)) (not_same (mover (board_of g)) g.brain others);
  back = λ g p before at are.
      let went = subst LawfulPlace at h.place in
      let before_it = went_before g.ended g.rule g.start p before (subst (WentOn g.ended g.rule g.start) are went) in
      (placed_lawful s (place_before g before) (place_before_lawful g before before_it), refl);
})

-- ---- sessions

choice_lawful : (g : Game) (c : Choice) → IsToMove g → LawfulPlace (InGame (with_choice g c))
choice_lawful g c h = search rules

step_lawful : (s : State) (row : Row) → LawfulState s → LawfulRow s.held row
    → LawfulState (step_by s row).next × ((step_by s row).next.held ≡ s.held)
step_lawful s row h l = search (rules, placed_lawful, choice_lawful)

-- a state that holds this, and is lawful
abbrev pub IsKept : HeldTable → State → Type 0
IsKept held s = LawfulState s × (s.held ≡ held)

-- each command leaves it so
pub next-lawful : (held : HeldTable) (s : State) (c : Command) → IsKept held s → IsKept held (brain_step s c).next
next-lawful held s c h = let l = step_lawful s (row_of s c) h.0 (row-lawful s c h.0) in (l.0, l.1 ∙ h.1)

then_lawful : (held : HeldTable) (r : Reaction) (s later : State) → IsKept held s → IsKept held later → IsKept held (then_state r s later)
then_lawful held r s later h k = search rules

pub session-lawful : (held : HeldTable) (s : State) (cs : List Command) → IsKept held s → IsKept held (state_after s cs)
unfolding state_after
session-lawful held s [] h = h
session-lawful held s (c ∷ cs) h =
    let next = next-lawful held s c h in
    then_lawful held (brain_step s c).reaction (brain_step s c).next (state_after (brain_step s c).next cs) next
    (session-lawful held (brain_step s c).next cs next)

pub new-lawful : (held : HeldTable) → IsKept held (new_brain held)
new-lawful held = (record { place = tt; batch = tt }, refl)
