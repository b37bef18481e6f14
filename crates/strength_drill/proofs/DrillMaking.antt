-- A position of the drill, draw by draw.
use Rattle.std.proofs.Common.{◌≡◌, refl, sym, ap, ◌∙◌, ℕ, zero, suc, ◌+◌, ◌/◌, ◌^◌, ◌<◌, ◌≤◌}
use Rattle.std.proofs.Common.{Bool, true, false, cond, ◌&&◌, nat_lt, add-one, arith, ◌≢◌, rules}
use Rattle.std.proofs.lemmas.Bool.Decides.{nat_tests}
use Rattle.std.proofs.lemmas.List.{length-replicate}
use Rattle.strength_drill.proofs.Common.{Grid, IsPosition, outcome, after, goes_on, RuleKind, Outcome, GoesOn, Point, empty_board, SIDE}
use Rattle.strength_drill.proofs.Common.{next_number, number_after, draw_at, middle_point, all_stones, with_point, board_drawn}
use Rattle.game_rules.proofs.Common.{IsBoard}
use Rattle.game_rules.proofs.Positions.{IsPosition-after}
use Rattle.brain_session.proofs.SessionBoards.{empty-lawful}
use Rattle.strength_drill.specs.declared.positions.TheConstants.{MOST_STONES}

-- ---- one draw

pub number-next : (s k : ℕ) → number_after s (k + 1) ≡ next_number (number_after s k)
unfolding number_after
number-next s k = rw add-one refl

module _ (rule : RuleKind) (b : Grid) (p : Point) where
  point-by : (few on : Bool) → nat_lt (all_stones b) MOST_STONES ≡ few → goes_on (outcome rule b p) ≡ on
      → with_point rule b p ≡ cond (few && on) (after b p) b
  unfolding with_point
  point-by few on e f = rw (e, f) refl

  -- no more stones are put
  pub point-many : MOST_STONES ≤ all_stones b → with_point rule b p ≡ b
  point-many many = let test : nat_lt (all_stones b) MOST_STONES ≡ false =
      grind (arith, nat_tests) in point-by false (goes_on (outcome rule b p)) test refl

  -- the move does not go on
  pub point-not : outcome rule b p ≢ GoesOn → with_point rule b p ≡ b
  point-not other = point-by (nat_lt (all_stones b) MOST_STONES) false refl (not_on (outcome rule b p) other)
      ∙ neither (nat_lt (all_stones b) MOST_STONES) where
        not_on : (o : Outcome) → o ≢ GoesOn → goes_on o ≡ false
        not_on GoesOn h = absurd (h refl)
        not_on _ h = refl

        neither : (r : Bool) → cond (r && false) (after b p) b ≡ b
        neither true = refl
        neither false = refl

  -- the move is made
  pub point-on : all_stones b < MOST_STONES → outcome rule b p ≡ GoesOn → with_point rule b p ≡ after b p
  point-on few on = let test : nat_lt (all_stones b) MOST_STONES ≡ true =
      grind (arith, nat_tests) in point-by true true test (ap goes_on on)

  -- what no move changes of the board is the same
  pub point-same : (f : Grid → ℕ) → f (after b p) ≡ f b → f (with_point rule b p) ≡ f b
  unfolding with_point
  point-same f kept = search rules

  -- and the position is lawful
  pub point-lawful : IsPosition rule b → IsPosition rule (with_point rule b p)
  unfolding with_point
  point-lawful lawful = by_test (nat_lt (all_stones b) MOST_STONES) (outcome rule b p) refl where
    by_test : (r : Bool) (o : Outcome) → outcome rule b p ≡ o → IsPosition rule (cond (r && goes_on o) (after b p) b)
    by_test false o e = lawful
    by_test true GoesOn e = IsPosition-after rule b p lawful e
    by_test true _ e = lawful

-- ---- all draws

pub board-next : (rule : RuleKind) (s k : ℕ) → board_drawn rule s (k + 1) ≡ with_point rule (board_drawn rule s k)
    (middle_point (draw_at s k))
unfolding board_drawn
board-next rule s k = rw add-one refl

board-same : (f : Grid → ℕ) → ((b : Grid) (p : Point) → f (after b p) ≡ f b) → (rule : RuleKind) (s k : ℕ)
    → f (board_drawn rule s k) ≡ f (empty_board SIDE SIDE)
unfolding board_drawn
board-same f kept rule s zero = refl
board-same f kept rule s (suc k) = point-same rule (board_drawn rule s k)
    (middle_point (draw_at s k)) f (kept (board_drawn rule s k) (middle_point (draw_at s k))) ∙ board-same f kept rule s k

pub board-wide : (rule : RuleKind) (s k : ℕ) → (board_drawn rule s k).width ≡ SIDE
board-wide = board-same (λ b. b.width) (λ b p. refl)

pub board-high : (rule : RuleKind) (s k : ℕ) → (board_drawn rule s k).height ≡ SIDE
board-high = board-same (λ b. b.height) (λ b p. refl)

-- the empty board of the drill
pub side-board : IsBoard (empty_board SIDE SIDE)
side-board = search (rules, length-replicate)

pub side-lawful : (rule : RuleKind) → IsPosition rule (empty_board SIDE SIDE)
side-lawful rule = empty-lawful rule SIDE SIDE side-board

pub board-lawful : (rule : RuleKind) (s k : ℕ) → IsPosition rule (board_drawn rule s k)
unfolding board_drawn
board-lawful rule s zero = side-lawful rule
board-lawful rule s (suc k) = point-lawful rule (board_drawn rule s k) (middle_point (draw_at s k)) (board-lawful rule s k)

-- before any draw
pub board-none : (rule : RuleKind) (s : ℕ) → board_drawn rule s 0 ≡ empty_board SIDE SIDE
unfolding board_drawn
board-none rule s = refl

pub number-none : (s : ℕ) → number_after s 0 ≡ s
unfolding number_after
number-none s = refl

-- one more draw, of a board and a number that are those after so many
pub board-more : (rule : RuleKind) (s k number more : ℕ) (b c : Grid) (v : ℕ) (p : Point) → b ≡ board_drawn rule s k
    → number ≡ number_after s k → more ≡ next_number number → v ≡ more / 2 ^ 33 → p ≡ middle_point v → c ≡ with_point rule b p
    → c ≡ board_drawn rule s (k + 1)
board-more rule s k number more b c v p at same next draw point made =
    let here : more ≡ number_after s (k + 1) = next ∙ ap next_number same ∙ sym (number-next s k) in
    let number_is : number_after s (suc k) ≡ number_after s (k + 1) = rw add-one refl in
    made ∙ ap (λ (x : Grid). with_point rule x p) at ∙ ap (with_point rule (board_drawn rule s k))
    (point ∙ ap middle_point (draw ∙ ap (λ (n : ℕ). n / 2 ^ 33) (here ∙ sym number_is))) ∙ sym (board-next rule s k)

pub number-more : (s k number more : ℕ) → number ≡ number_after s k → more ≡ next_number number → more ≡ number_after s (k + 1)
number-more s k number more same next = next ∙ ap next_number same ∙ sym (number-next s k)
