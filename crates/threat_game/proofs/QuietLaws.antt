-- Quiet points: Black's stone there neither wins nor fouls, and a stone of White on another point leaves it so. So where two points are
-- quiet, White has no move to which each reply fouls.
use Rattle.std.proofs.Common.{rules}
use Rattle.std.proofs.Common.{◌≡◌, ℕ, ◌≤◌, ◌<◌, Bool, true, false, cond, refl, sym, ap, ◌∙◌, arith, nat_eq, nat_le, Option, None}
use Rattle.std.specs.List.{count_by, list_any}
use Rattle.std.proofs.lemmas.Bool.{false_from_ne_true, both_ways}
use Rattle.std.proofs.lemmas.Bool.Decides.{nat_tests}
use Rattle.game_rules.specs.declared.RuleKind.{RuleKind}
use Rattle.game_rules.specs.declared.Side.{Side}
use Rattle.game_rules.specs.declared.Side.TheVariants.{Black, White}
use Rattle.game_rules.specs.declared.Axis.{Axis}
use Rattle.game_rules.specs.declared.Axis.TheVariants.{Row, Column, Down, Up}
use Rattle.game_rules.specs.declared.Way.TheVariants.{Ahead}
use Rattle.game_rules.specs.declared.Foul.{Foul}
use Rattle.game_rules.specs.declared.Outcome.TheVariants.{GoesOn}
use Rattle.game_rules.specs.declared.Point.{Point}
use Rattle.game_rules.proofs.Common.{Grid, IsBoard, IsPosition, is_empty, is_on, put, axes, outcome, outcome_by, mover, other}
use Rattle.game_rules.proofs.Common.{five, wins_on, foul_of, black_foul, has_fouls, empties_of, goes_on, loses_or, points_of, is_same_point}
use Rattle.game_rules.proofs.Axes.{some_axis, fewer_axes}
use Rattle.game_rules.proofs.Boards.{other-other, and_right, is_empty-on, is_empty-put, holds-put_same}
use Rattle.game_rules.proofs.PointLists.{Apart-back, other_first}
use Rattle.game_rules.proofs.Positions.{IsBoard-put, GoesOn-empty, mover-then}
use Rattle.game_rules.proofs.Outcomes.{goes_on-is, unfouled-stays}
use Rattle.game_rules.proofs.Points.{all_at, any_witness, is_same_point-apart, is_same_point-same}
use Rattle.game_rules.proofs.Wins.{wins_on-ways, row_wins-five}
use Rattle.row_shapes.specs.Reach.{stones_in_reach}
use Rattle.row_shapes.proofs.Reaches.{reach-put}
use Rattle.foul_judge.specs.ShortCut.{reaches_of, may_have_two_threes, may_foul, has_line_three}
use Rattle.foul_judge.proofs.MayFoul.{few_three_points, no_foul}
use Rattle.foul_judge.proofs.FewerEmpties.{white-no_foul}
use Rattle.threat_moves.specs.OneBlock.{all_foul}
use Rattle.threat_game.specs.Attacks.{is_last_move}
use Rattle.threat_game.specs.QuietPoints.{IsQuiet, HasTwoQuiet}
use Rattle.threat_game.proofs.AttackLaws.{stopped-last, unfouled-last}
use Rattle.threat_game.proofs.FreeMoves.{not_one}

-- the side that has fouls is Black
pub fouls-black : (rule : RuleKind) (s : Side) → has_fouls rule s ≡ true → s ≡ Black
fouls-black rule s h = search rules

-- and then White is to move, if the other side has fouls
pub white-turn : (rule : RuleKind) (s : Side) → has_fouls rule (other s) ≡ true → s ≡ White
white-turn rule s h = sym (other-other s) ∙ ap other (fouls-black rule (other s) h)

no_one-fouls : (r : Bool) → ◌≡◌ {A = Option Foul} (cond r None None) None
no_one-fouls r = search rules

-- ---- too few stones within reach for two threes

module _ (rule : RuleKind) (b : Grid) (p : Point) (ok : IsBoard b) (empty : is_empty b p ≡ true)
    (rows : count_by (λ d. nat_le 2 (stones_in_reach b Black d p)) axes < 2) where
  here : is_on b p ≡ true
  here = is_empty-on b p empty

  abbrev black : Grid
  black = put b Black p

  line_reach : (d : Axis) → has_line_three rule black d p ≡ true → nat_le 2 (stones_in_reach b Black d p) ≡ true
  line_reach d h = by_test (nat_le 2 (stones_in_reach b Black d p)) refl where
    by_test : (r : Bool) → nat_le 2 (stones_in_reach b Black d p) ≡ r → r ≡ true
    by_test true e = refl
    by_test false e =
        let few : stones_in_reach b Black d p < 2 = grind (arith, nat_tests) in
        absurd (both_ways _ (few_three_points rule black p (holds-put_same b Black p ok here) (IsBoard-put b Black p ok) d
        (stones_in_reach b Black d p) (sym (reach-put b Black p here d)) few) h)

  few_lines : count_by (λ d. has_line_three rule black d p) axes < 2
  few_lines =
      let fewer = fewer_axes (λ d. has_line_three rule black d p) (λ d. nat_le 2 (stones_in_reach b Black d p)) line_reach in
      omega (arith, fewer, rows)

  -- then Black's stone, if it is no foul, stays none wherever White puts a stone
  pub rows-free : black_foul rule b p ≡ None → (z : Point) → is_empty b z ≡ true → is_same_point p z ≡ false
      → foul_of rule (put b White z) Black p ≡ None
  rows-free none z free apart =
      ap (λ (o : Option Foul). cond (has_fouls rule Black) o None)
      (white-no_foul b p z ok empty free (Apart-back p z (is_same_point-apart p z apart)) rule few_lines none)
      ∙ no_one-fouls (has_fouls rule Black)

module _ (rule : RuleKind) (b : Grid) (q : Point) (ok : IsBoard b) (quiet : IsQuiet b q) where
  low : (d : Axis) (n : ℕ) → 2 ≤ n → nat_le n (stones_in_reach b Black d q) ≡ false
  low d n least = let few = quiet.few d in grind (arith, nat_tests)

  no_rows : may_have_two_threes (reaches_of b q) ≡ false
  unfolding may_have_two_threes reaches_of
  no_rows = rw (low Row 2 (omega arith), low Column 2 (omega arith), low Down 2 (omega arith), low Up 2 (omega arith)) refl

  few_rows : count_by (λ d. nat_le 2 (stones_in_reach b Black d q)) axes < 2
  few_rows = rw (low Row 2 (omega arith), low Column 2 (omega arith), low Down 2 (omega arith), low Up 2 (omega arith)) (omega arith)

  may_none : may_foul (reaches_of b q) ≡ false
  unfolding may_foul reaches_of
  may_none = rw (low Row 3 (omega arith), low Column 3 (omega arith), low Down 3 (omega arith), low Up 3 (omega arith), no_rows) refl

  -- Black's stone there is no foul
  pub quiet-no_foul : black_foul rule b q ≡ None
  quiet-no_foul = no_foul rule b q ok quiet.empty may_none

  -- and makes no five
  quiet-no_five : five rule b Black q ≡ false
  quiet-no_five = false_from_ne_true _ (λ h.
      let made = some_axis (λ d. wins_on rule b Black d q) h in
      let run = sym (wins_on-ways rule b Black Ahead made.0 q ok) ∙ made.1 in
      let five = row_wins-five rule Black _ (and_right (is_empty b q) _ run) in
      let few = quiet.few made.0 in
      omega (arith, five, few))

  -- so where Black is to move, and another point is empty, it goes on
  pub quiet-goes_on : mover b ≡ Black → 2 ≤ empties_of b → outcome rule b q ≡ GoesOn
  unfolding outcome
  quiet-goes_on turn many =
      ap (λ (s : Side). outcome_by (is_empty b q) (five rule b s q) (foul_of rule b s q) (nat_eq (empties_of b) 1)) turn
      ∙ ap (λ e. outcome_by e (five rule b Black q) (foul_of rule b Black q) (nat_eq (empties_of b) 1)) quiet.empty
      ∙ ap (λ f. outcome_by true f (foul_of rule b Black q) (nat_eq (empties_of b) 1)) quiet-no_five
      ∙ ap (λ (o : Option Foul). outcome_by true false o (nat_eq (empties_of b) 1))
      (ap (λ (o : Option Foul). cond (has_fouls rule Black) o None) quiet-no_foul ∙ no_one-fouls (has_fouls rule Black))
      ∙ ap (λ l. outcome_by true false None l) (not_one (empties_of b) many)

  -- ---- a stone of White on another point

  module _ (p : Point) (empty : is_empty b p ≡ true) (apart : is_same_point p q ≡ false) where
    abbrev white : Grid
    white = put b White p

    still_empty : is_empty white q ≡ true
    still_empty = is_empty-put b White p q (is_empty-on b p empty) (is_same_point-apart p q apart) ∙ quiet.empty

    still_none : foul_of rule white Black q ≡ None
    still_none = rows-free rule b q ok quiet.empty few_rows quiet-no_foul p empty (other_first p q apart)

    still_stays : mover white ≡ Black → loses_or (outcome rule white q) false ≡ false
    still_stays turn = unfouled-stays rule white q still_empty (ap (λ (s : Side). foul_of rule white s q) turn ∙ still_none)

    -- then not each reply fouls
    pub quiet-reply : mover white ≡ Black → all_foul rule white ≡ false
    quiet-reply turn = search (rules, false_from_ne_true, both_ways, still_stays, all_at, is_empty-on, still_empty)

-- ---- two quiet points

module _ (rule : RuleKind) (b : Grid) (lawful : IsPosition rule b) (turn : mover b ≡ White) (two : HasTwoQuiet b) where
  not_by : (p q : Point) → outcome rule b p ≡ GoesOn → IsQuiet b q → is_same_point p q ≡ false → false ≡ is_last_move rule b p
  not_by p q on quiet apart = search (rules, mover-then, unfouled-last, quiet-reply, GoesOn-empty)

  -- a move leaves one of them, so no move is a last one
  pub quiet-no_last : (p : Point) → false ≡ is_last_move rule b p
  quiet-no_last p = by_test (goes_on (outcome rule b p)) refl where
    by_first : (r : Bool) → is_same_point p two.first ≡ r → outcome rule b p ≡ GoesOn → false ≡ is_last_move rule b p
    by_first false e on = not_by p two.first on two.first_quiet e
    by_first true e on = not_by p two.second on two.second_quiet
        (ap (λ (x : Point). is_same_point x two.second) (is_same_point-same p two.first e) ∙ two.apart)

    by_test : (r : Bool) → goes_on (outcome rule b p) ≡ r → false ≡ is_last_move rule b p
    by_test false e = stopped-last rule b p e
    by_test true e = by_first (is_same_point p two.first) refl (goes_on-is (outcome rule b p) e)

  -- of no list of points is one a last move
  pub no_last : false ≡ list_any (is_last_move rule b) (points_of b)
  no_last = search (rules, false_from_ne_true, any_witness, both_ways, quiet-no_last)
