-- What the stone on a gain is asked for, and what is found where it is taken off again; double points. The points at which a three becomes
-- a straight four are among the places of its line; a gain lies in an open window with two stones of its side.
use Rattle.std.proofs.Common.{◌≡◌, ◌≤◌, Bool, true, false, cond, ◌&&◌, not, List, [], ◌∷◌, length, refl, sym, ap, ◌∙◌, arith, ◌||◌, nat_le}
use Rattle.std.proofs.Common.{ℕ, ◌+◌, ◌<◌, Option, Some, None, is_none}
use Rattle.std.specs.List.{flat_map, list_any}
use Rattle.std.proofs.lemmas.Bool.{both_ways}
use Rattle.std.proofs.lemmas.Bool.Decides.{nat_tests}
use Rattle.std.proofs.Math.Bool.{and-false, and-true}
use Rattle.game_rules.specs.declared.RuleKind.{RuleKind}
use Rattle.game_rules.specs.declared.Side.{Side}
use Rattle.game_rules.specs.declared.Outcome.TheVariants.{GoesOn}
use Rattle.game_rules.specs.declared.Axis.{Axis}
use Rattle.game_rules.specs.declared.Point.{Point}
use Rattle.game_rules.specs.declared.Axis.TheVariants.{Row, Column, Down, Up}
use Rattle.game_rules.proofs.Common.{Grid, is_empty, put, axes, points_of, five, other, outcome, mover, goes_on_with, five_points}
use Rattle.game_rules.proofs.Common.{is_double_point, has_five, has_threat, IsBoard, is_on, along, holds, is_line_three_point}
use Rattle.game_rules.proofs.Common.{is_line_three_at, foul_of}
use Rattle.game_rules.proofs.Boards.{and_left, is_empty-on, holds-put_same}
use Rattle.game_rules.proofs.Points.{any_witness, points-found, none_of}
use Rattle.game_rules.proofs.Fives.{five-empty}
use Rattle.game_rules.proofs.Common.{towards}
use Rattle.game_rules.proofs.Ways.{towards-put}
use Rattle.game_rules.proofs.Positions.{IsBoard-put}
use Rattle.game_rules.proofs.Threes.{three_empty, three_by}
use Rattle.stone_board.specs.Steps.{kept_on}
use Rattle.stone_board.proofs.Looks.{three-kept}
use Rattle.row_shapes.specs.FivePoints.{in_short}
use Rattle.row_shapes.specs.Reach.{stones_in_reach}
use Rattle.row_shapes.proofs.Reaches.{few-no_three}
use Rattle.row_shapes.proofs.FiveLaws.{none-short}
use Rattle.row_shapes.proofs.ThreePoints.{three_near}
use Rattle.open_windows.specs.OpenWindows.{in_window}
use Rattle.open_windows.proofs.Fewer.{in-fewer}
use Rattle.open_windows.proofs.NewFives.{five-in, end-in}
use Rattle.open_windows.proofs.NewThrees.{three-in}
use Rattle.threat_moves.specs.declared.threat_list.ThreatKind.{ThreatKind}
use Rattle.threat_moves.proofs.Common.{is_gain, is_threat, makes_threat, stops_three, has_straight_point, threats_on, threats_at}
use Rattle.threat_moves.proofs.Common.{is_several, is_three_move, makes_double_point, has_double_point, is_straight_point, is_straight_at}
use Rattle.threat_moves.specs.declared.threat_list.ThreatKind.TheVariants.{Four}
use Rattle.threat_moves.proofs.Common.{fills_five}
use Rattle.threat_moves.proofs.FourEnds.{few-no_four, fills_first, fills_wins}

module _ (rule : RuleKind) (b : Grid) (s : Side) (g : Point) where
  pub gain-empty : is_gain rule b s g ≡ true → is_empty b g ≡ true
  gain-empty h = and_left (is_empty b g) _ (and_left (is_empty b g && not (five rule b s g)) _ h)

  pub taken-no_gain : is_empty b g ≡ false → is_gain rule b s g ≡ false
  taken-no_gain h = rw h refl

  pub no_gain-no_threat : (d : Axis) (kind : ThreatKind) → is_gain rule b s g ≡ false → is_threat rule b s g d kind ≡ false
  unfolding is_threat
  no_gain-no_threat d kind h = ap (λ r. r && makes_threat rule (put b s g) s d g kind) h

  pub gain-threat : (d : Axis) (kind : ThreatKind) → is_gain rule b s g ≡ true
      → is_threat rule b s g d kind ≡ makes_threat rule (put b s g) s d g kind
  unfolding is_threat
  gain-threat d kind h = ap (λ r. r && makes_threat rule (put b s g) s d g kind) h

  pub no_gain-threats : is_gain rule b s g ≡ false → threats_at rule b s g ≡ []
  unfolding threats_at
  no_gain-threats h = ap (λ r. cond r (flat_map (threats_on rule (put b s g) s g) axes) []) h

  pub gain-threats : is_gain rule b s g ≡ true → threats_at rule b s g ≡ flat_map (threats_on rule (put b s g) s g) axes
  unfolding threats_at
  gain-threats h = ap (λ r. cond r (flat_map (threats_on rule (put b s g) s g) axes) []) h

  -- ---- double points

  pub double-parts : is_double_point rule b s g ≡ (is_gain rule b s g && nat_le 2 (length (five_points rule (put b s g) s)))
  unfolding is_double_point
  double-parts = refl

  pub no_gain-double : is_gain rule b s g ≡ false → is_double_point rule b s g ≡ false
  no_gain-double h = double-parts ∙ ap (λ r. r && nat_le 2 (length (five_points rule (put b s g) s))) h

-- two five points or more, as the list in short tells
pub several : (ps : List Point) → is_several (in_short ps) ≡ nat_le 2 (length ps)
several [] = refl
several (w ∷ []) = refl
several (w ∷ v ∷ ps) =
    let long : 2 ≤ length (w ∷ v ∷ ps) = omega arith in
    grind (arith, nat_tests)

module _ (rule : RuleKind) (b : Grid) (s : Side) (g : Point) where
  pub gain-double : is_gain rule b s g ≡ true → is_double_point rule b s g ≡ is_several (in_short (five_points rule (put b s g) s))
  gain-double h = double-parts rule b s g ∙ ap (λ r. r && nat_le 2 (length (five_points rule (put b s g) s))) h
      ∙ sym (several (five_points rule (put b s g) s))

  pub few-double : is_several (in_short (five_points rule (put b s g) s)) ≡ false → is_double_point rule b s g ≡ false
  few-double h = double-parts rule b s g ∙ ap (λ r. is_gain rule b s g && r) (sym (several (five_points rule (put b s g) s)) ∙ h)
      ∙ and-false (is_gain rule b s g)

  pub several-double : is_several (in_short (five_points rule (put b s g) s)) ≡ true → is_double_point rule b s g ≡ is_gain rule b s g
  several-double h = double-parts rule b s g ∙ ap (λ r. is_gain rule b s g && r) (sym (several (five_points rule (put b s g) s)) ∙ h)
      ∙ and-true (is_gain rule b s g)

-- ---- costs of a three

module _ (rule : RuleKind) (b : Grid) (s : Side) (d : Axis) (g q : Point) where
  pub taken-no_stop : is_empty b q ≡ false → stops_three rule b s d g q ≡ false
  unfolding stops_three
  taken-no_stop h = ap (λ r. r && not (has_straight_point rule (put b (other s) q) s d g)) h

  pub empty-stops : is_empty b q ≡ true → stops_three rule b s d g q ≡ not (has_straight_point rule (put b (other s) q) s d g)
  unfolding stops_three
  empty-stops h = ap (λ r. r && not (has_straight_point rule (put b (other s) q) s d g)) h

-- ---- three moves

-- a move that goes on is a three move where its stone leaves no five point but a double point
pub goes_on-three : (rule : RuleKind) (b : Grid) (p : Point) → outcome rule b p ≡ GoesOn
    → is_three_move rule b p ≡ makes_double_point rule b (mover b) p
unfolding is_three_move
goes_on-three rule b p h = ap (λ o. goes_on_with o (makes_double_point rule b (mover b) p)) h

-- a double point is empty
pub double-empty : (rule : RuleKind) (c : Grid) (s : Side) (w : Point) → is_double_point rule c s w ≡ true → is_empty c w ≡ true
double-empty rule c s w e = gain-empty rule c s w (and_left (is_gain rule c s w) _ (sym (double-parts rule c s w) ∙ e))

-- a threat leaves a point empty
pub threat-empty : (rule : RuleKind) (c : Grid) (s : Side) → has_threat rule c s ≡ true → (w : Point) × (is_empty c w ≡ true)
threat-empty rule c s h = by_test (has_five rule c s) refl h where
  by_test : (r : Bool) → has_five rule c s ≡ r → (r || list_any (is_double_point rule c s) (points_of c)) ≡ true
      → (w : Point) × (is_empty c w ≡ true)
  by_test true e k = let found = any_witness (five rule c s) (points_of c) e in (found.0, five-empty rule c s found.0 found.1)
  by_test false e k = let found = any_witness (is_double_point rule c s) (points_of c) k in (found.0, double-empty rule c s found.0 found.1)

pub threat-by_five : (rule : RuleKind) (c : Grid) (s : Side) → has_five rule c s ≡ true → true ≡ has_threat rule c s
threat-by_five rule c s h = sym (ap (λ r. r || has_double_point rule c s) h)

pub threat-by_double : (rule : RuleKind) (c : Grid) (s : Side) → has_five rule c s ≡ false → has_double_point rule c s ≡ has_threat rule c s
threat-by_double rule c s h = sym (ap (λ r. r || has_double_point rule c s) h)

-- ---- one point

module _ (rule : RuleKind) (b : Grid) (s : Side) (d : Axis) (p : Point) where
  pub straight-line : (q : Point) → is_straight_point rule b s d p q
      ≡ (is_line_three_point rule b s d p q && not (five rule b s q) && is_none (foul_of rule b s q))
  unfolding is_straight_point
  straight-line q = ap (λ r. r && is_none (foul_of rule b s q)) ((three_by rule b s d p) q (five rule b s q) refl)

  pub line_three : (q : Point) → is_straight_point rule b s d p q ≡ true → is_line_three_point rule b s d p q ≡ true
  line_three q h = and_left (is_line_three_point rule b s d p q) _
      (and_left (is_line_three_point rule b s d p q && not (five rule b s q)) _ (sym (straight-line q) ∙ h))

  -- no three point as far as the axis decides is none
  pub not_straight : (o : Option Point) → is_line_three_at rule b s d p o ≡ false → is_straight_at rule b s d p o ≡ false
  not_straight None h = refl
  not_straight (Some q) h = straight-line q ∙ ap (λ r. r && not (five rule b s q) && is_none (foul_of rule b s q)) h

  -- where no point is kept, none is one
  pub no_straight : (o : Option Point) → kept_on b o ≡ None → is_straight_at rule b s d p o ≡ false
  no_straight o e = not_straight o (sym (three-kept rule b s d p o) ∙ ap (is_line_three_at rule b s d p) e)

  -- a three point as far as the axis decides is one where it may be a gain
  pub straight-gain : (o : Option Point) (q : Point) → o ≡ Some q → is_line_three_at rule b s d p o ≡ true
      → is_straight_at rule b s d p o ≡ is_gain rule b s q
  straight-gain o q e h =
      let here : is_line_three_point rule b s d p q ≡ true = ap (is_line_three_at rule b s d p) (sym e) ∙ h in
      let empty : is_empty b q ≡ true = three_empty rule b s d p q here in
      ap (is_straight_at rule b s d p) e ∙ straight-line q ∙ rw (here, empty) refl

  found_straight : (o : Option Point) → is_straight_at rule b s d p o ≡ true → has_straight_point rule b s d p ≡ true
  unfolding has_straight_point
  found_straight None h = cc
  found_straight (Some q) h = points-found b (is_straight_point rule b s d p) q
      (is_empty-on b q (three_empty rule b s d p q (line_three q h))) h

  -- there is such a point exactly where one of the places is one
  pub straight_by_place : (i : ℕ) → is_straight_at rule b s d p (along d p i 5) ≡ true → has_straight_point rule b s d p ≡ true
  straight_by_place i h = found_straight (along d p i 5) h

  pub no_straight_place : IsBoard b → holds b s p ≡ true → ((i : ℕ) → i < 11 → is_straight_at rule b s d p (along d p i 5) ≡ false)
      → has_straight_point rule b s d p ≡ false
  unfolding has_straight_point
  no_straight_place ok mine none = none_of (is_straight_point rule b s d p) (points_of b) (λ q h.
      let near = three_near rule b s d p ok mine q (line_three q h) in
      let yes : is_straight_at rule b s d p (along d p near.0 5) ≡ true = ap (is_straight_at rule b s d p) near.2 ∙ h in
      let no = none near.0 near.1 in
      let differ : true ≡ false = sym yes ∙ no in
      cc)

  -- ---- few stones within reach
  few-no_straight : IsBoard b → holds b s p ≡ true → stones_in_reach b s d p < 2 → has_straight_point rule b s d p ≡ false
  unfolding has_straight_point
  few-no_straight ok mine few = none_of (is_straight_point rule b s d p) (points_of b) (λ q h.
      let no = few-no_three b s d p (and_left (is_on b p) _ mine) rule q ok mine few in
      let differ : false ≡ true = sym no ∙ line_three q h in
      cc)

  -- a stone with fewer than two others within reach makes no threat
  pub few-no_threats : IsBoard b → holds b s p ≡ true → stones_in_reach b s d p < 2 → threats_on rule b s p d ≡ []
  few-no_threats ok mine few = rw (few-no_four rule b s d p ok mine few, few-no_straight ok mine few) refl

-- ---- open windows

-- where the side has no five point, a point at which its stone makes two lies in a window with three stones
pub several-in : (rule : RuleKind) (b : Grid) (s : Side) (p : Point) → IsBoard b → has_five rule b s ≡ false → is_empty b p ≡ true
    → is_several (in_short (five_points rule (put b s p) s)) ≡ true → in_window b s 3 p ≡ true
several-in rule b s p ok none empty two = by_five (has_five rule (put b s p) s) refl where
  by_five : (r : Bool) → has_five rule (put b s p) s ≡ r → in_window b s 3 p ≡ true
  by_five true made = five-in rule b s p ok empty none made
  by_five false quiet = absurd (both_ways _ (ap is_several (none-short rule (put b s p) s quiet)) two)

-- a point in no window with two stones is the gain of no threat
module _ (rule : RuleKind) (b : Grid) (s : Side) (g : Point) (ok : IsBoard b) (out : in_window b s 2 g ≡ false) where
  module _ (empty : is_empty b g ≡ true) (d : Axis) where
    on_g : is_on b g ≡ true
    on_g = is_empty-on b g empty

    ok_g : IsBoard (put b s g)
    ok_g = IsBoard-put b s g ok

    mine : holds (put b s g) s g ≡ true
    mine = holds-put_same b s g ok on_g

    outside-no_four : makes_threat rule (put b s g) s d g Four ≡ false
    outside-no_four = none_of (fills_five rule (put b s g) s d g) (points_of (put b s g)) (λ c h.
        let end = fills_first rule (put b s g) s d g ok_g mine c h in
        both_ways _ out (in-fewer b s 3 2 g (omega arith) (end-in rule b s g c d ok empty (fills_wins rule (put b s g) s d g ok_g mine c h)
        end.0 (ap (λ k. towards end.0 d g (1 + k)) (sym (towards-put b s g on_g end.0 d)) ∙ end.1))))

    outside-no_three : has_straight_point rule (put b s g) s d g ≡ false
    unfolding has_straight_point
    outside-no_three = none_of (is_straight_point rule (put b s g) s d g) (points_of (put b s g)) (λ q h.
        both_ways _ out (three-in rule b s d g q ok empty (line_three rule (put b s g) s d g q h)))

    none_on : threats_on rule (put b s g) s g d ≡ []
    none_on = rw (outside-no_four, outside-no_three) refl

  pub outside-threats : threats_at rule b s g ≡ []
  outside-threats = by_gain (is_gain rule b s g) refl where
    by_gain : (r : Bool) → is_gain rule b s g ≡ r → threats_at rule b s g ≡ []
    by_gain false h = no_gain-threats rule b s g h
    by_gain true h = let empty = gain-empty rule b s g h in
        gain-threats rule b s g h ∙ rw (none_on empty Row, none_on empty Column, none_on empty Down, none_on empty Up) refl

-- ---- single steps of the code
