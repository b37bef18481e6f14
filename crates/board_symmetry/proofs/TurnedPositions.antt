-- A board and what a turn makes of it: lawful positions.
use Rattle.std.proofs.Common.{◌≡◌, ◌↔◌, ◌⊎◌, ℕ, ◌+◌, ◌<◌, true, false, sym, ap, subst, ◌∙◌, List}
use Rattle.std.proofs.lemmas.Bool.{both_ways, false_from_ne_true}
use Rattle.game_rules.proofs.Common.{holds, row_wins, NamesMover, IsPosition, IsUnwon}
use Rattle.board_symmetry.proofs.Common.{run_of, Cell, Side, Black, White, Axis, Point, RuleKind}
use Rattle.game_rules.proofs.Axes.{axis_of, some_axis}
use Rattle.game_rules.proofs.Boards.{and_left}
use Rattle.board_symmetry.proofs.Turns.{Turn, within}
use Rattle.board_symmetry.proofs.Alike.{grid, Turned, holds-same, run-same}
use Rattle.board_symmetry.proofs.TurnedOutcomes.{stones-same, empties-same}

module _ (w h : ℕ) (to from : Point → Point) (turn : Turn w h to from) (xs ys : List Cell) (turned : Turned w h to xs ys)
    (rule : RuleKind) where
  unwon-at : IsUnwon rule (grid w h xs) → (s : Side) (d : Axis) (q : Point) → within w h q ≡ true → holds (grid w h ys) s (to q) ≡ true
      → row_wins rule s (run_of (grid w h ys) s d (to q)) ≡ false
  unwon-at unwon s d q on mine = false_from_ne_true _ (λ won.
      let some = some_axis (λ e. row_wins rule s (run_of (grid w h ys) s (turn.axis e) (to q)))
      (sym (turn.anys (λ e. row_wins rule s (run_of (grid w h ys) s e (to q))))
      ∙ axis_of (λ e. row_wins rule s (run_of (grid w h ys) s e (to q))) d won) in
      both_ways _ (unwon.no_winning_run s some.0 q (sym (holds-same w h to from turn xs ys turned s q on) ∙ mine))
      (ap (row_wins rule s) (sym (run-same w h to from turn xs ys turned s some.0 q on)) ∙ some.1))

  unwon-there : IsUnwon rule (grid w h xs) → IsUnwon rule (grid w h ys)
  unwon-there unwon = record {
    no_winning_run = λ s d p mine.
        let on : within w h p ≡ true = and_left (within w h p) _ mine in
        subst (λ (z : Point). row_wins rule s (run_of (grid w h ys) s d z) ≡ false) (turn.redone p on)
        (unwon-at unwon s d (from p) (turn.come p on) (ap (holds (grid w h ys) s) (turn.redone p on) ∙ mine));
  }

  unwon-here : IsUnwon rule (grid w h ys) → IsUnwon rule (grid w h xs)
  unwon-here unwon = record {
    no_winning_run = λ s d p mine.
        let on : within w h p ≡ true = and_left (within w h p) _ mine in
        sym (ap (row_wins rule s) (run-same w h to from turn xs ys turned s d p on))
        ∙ unwon.no_winning_run s (turn.axis d) (to p) (holds-same w h to from turn xs ys turned s p on ∙ mine);
  }

  names_same : NamesMover (grid w h ys) ≡ NamesMover (grid w h xs)
  names_same = λ i. (stones-same w h to from turn xs ys turned Black i ≡ stones-same w h to from turn xs ys turned White i)
      ⊎ (stones-same w h to from turn xs ys turned Black i ≡ stones-same w h to from turn xs ys turned White i + 1)

  pub position-same : IsPosition rule (grid w h ys) ↔ IsPosition rule (grid w h xs)
  position-same = (
    λ there. record {
      board = turned.board;
      turns = subst (λ (X : Type 0). X) names_same there.turns;
      unwon = unwon-here there.unwon;
      open_points = subst (λ n. 0 < n) (empties-same w h to from turn xs ys turned) there.open_points;
    },
    λ here. record {
      board = turned.image;
      turns = subst (λ (X : Type 0). X) (sym names_same) here.turns;
      unwon = unwon-there here.unwon;
      open_points = subst (λ n. 0 < n) (sym (empties-same w h to from turn xs ys turned)) here.open_points;
    },
  )
