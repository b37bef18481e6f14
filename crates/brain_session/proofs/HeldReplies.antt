-- Each legal reply that is sent to a brain in a held game is answered.
use Rattle.std.proofs.Common.{◌≡◌, ℕ, true, List, ◌∷◌, ap, subst, ◌∙◌, Some, is_some, rules}
use Rattle.brain_session.proofs.Common.{outcome, RuleKind, White, Outcome, GoesOn, Point, attacks, IsHeld, Command, Game, board_of}
use Rattle.brain_session.proofs.Common.{empty_board, new_game, State, Row, Reacts, Chooses, rule_of, move_row, row_of, Step, brain_step}
use Rattle.brain_session.proofs.Common.{then_answers, answers_from, BeginsHeldGame, AreReplies, turns, game_answers}
use Rattle.brain_session.proofs.Common.{LegalRepliesAreAnswered}
use Rattle.brain_session.proofs.HeldSteps.{held-answered}
use Rattle.brain_session.proofs.RowCases.{row-cases}
use Rattle.brain_session.proofs.LawfulStates.{LawfulState, session-lawful, new-lawful}
use Rattle.brain_session.proofs.HeldGames.{begins, stands_where}

-- ---- a game is begun, or goes on, only under a rule that is supported

Supported : State → Row → Type 0
Supported s (Reacts r next) = Unit {0}
Supported s (Chooses g) = is_some (rule_of s.wish) ≡ true

pub supported : (s : State) (c : Command) (g : Game) → row_of s c ≡ Chooses g → is_some (rule_of s.wish) ≡ true
unfolding Supported
supported s c g e = subst (Supported s) e (row-cases (Supported s) s c (record {
  ends = λ is. tt;
  silent = tt;
  says = λ a. tt;
  wishes = λ wish. tt;
  sized = λ width height wide high. tt;
  again = λ width height some size. tt;
  reads = λ some. tt;
  stone = λ b p field read. tt;
  spoils = λ b read. tt;
  is_bad = λ a. tt;
  whole = λ rule b g by_wish read is. ap is_some by_wish;
  first = λ rule width height by_wish at. ap is_some by_wish;
  second = λ rule width height p by_wish at. moves rule by_wish (new_game rule (empty_board width height) White) p
      (outcome rule (empty_board width height) p);
  later = λ rule g p by_wish at going others. moves rule by_wish g p (outcome g.rule (board_of g) p);
  back = λ g p before at are. tt;
})) where
  moves : (rule : RuleKind) → rule_of s.wish ≡ Some rule → (g : Game) (p : Point) (o : Outcome) → Supported s (move_row s g p o)
  moves rule by_wish g p GoesOn = ap is_some by_wish
  moves rule by_wish g p _ = tt

-- ---- one reply after another

-- the answers from a state on, by the step that is taken first
pub session_by : (s : State) (c : Command) (cs : List Command) (st : Step) → brain_step s c ≡ st
    → answers_from s (c ∷ cs) ≡ then_answers st.reaction (answers_from st.next cs)
unfolding answers_from
session_by s c cs st e = ap (λ (x : Step). then_answers x.reaction (answers_from x.next cs)) e

-- the answers to a command that begins a held game, and to the legal replies after it
answers_from_there : (s : State) (c : Command) (g : Game) (i : ℕ) (qs : List Point) → IsHeld s.held → LawfulState s → BeginsHeldGame s c g i
    → AreReplies g.rule (board_of g) (attacks g.rule s.held.table i (board_of g) qs) qs
    → answers_from s (c ∷ turns qs) ≡ game_answers g.rule s.held.table i (board_of g) qs
answers_from_there s c g i qs held lawful b are =
    let at = stands_where s c g i held lawful b in
    session_by s c (turns qs) _ (begins s c g i at.1 b at.3.node)
    ∙ (held-answered s.held qs at.0 s.wish g i at.1 at.3 (supported s c g b.chooses) are).answers

pub legal-replies-are_answered : LegalRepliesAreAnswered
legal-replies-are_answered held is_held before c g i qs b are = search (rules, session-lawful, new-lawful, answers_from_there)
