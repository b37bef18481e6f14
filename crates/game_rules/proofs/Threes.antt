-- Three points of a line: on empty points alone, and seen along a way.
use Rattle.std.proofs.Common.{rules, ◌≡◌, ℕ, ◌+◌, Bool, true, false, refl, nat_eq, eq-eqb, ◌&&◌, not, cond, sym, ◌∙◌, Some, None, is_none}
use Rattle.std.proofs.Math.Bool.{and-true, and-false}
use Rattle.std.specs.List.{list_any}
use Rattle.game_rules.proofs.Common.{Grid, holds, along, is_empty, is_on, points_of, wins_at, is_straight, wins_on, is_line_three_point}
use Rattle.game_rules.proofs.Common.{is_line_three_at, is_three_point, five, towards, opposite, stones_towards, black_foul, is_three}
use Rattle.game_rules.proofs.Common.{RuleKind, Side, Axis, Point, Way, Black}
use Rattle.game_rules.proofs.Boards.{and_left}
use Rattle.game_rules.proofs.Axes.{no_axis}
use Rattle.game_rules.proofs.Points.{none_of}
use Rattle.game_rules.proofs.PointLists.{any-filter}

four_by : (n m : ℕ) → n ≡ m + 1 → nat_eq n 4 ≡ nat_eq m 3
four_by n m e = search (rules, eq-eqb)

and-swap : (a c e : Bool) → (a && c && e) ≡ (a && e && c)
and-swap a c e = search rules

-- a straight four, seen in either way
pub straight_towards : (rule : RuleKind) (b : Grid) (s : Side) (w : Way) (d : Axis) (p : Point) → holds b s p ≡ true
    → is_straight rule b s d p ≡ (nat_eq (stones_towards w b s d p + stones_towards (opposite w) b s d p) 3 && wins_at rule b s d
    (towards w d p (1 + stones_towards w b s d p)) && wins_at rule b s d
    (towards (opposite w) d p (1 + stones_towards (opposite w) b s d p)))
unfolding is_straight
straight_towards rule b s w d p mine = search (rules, four_by, and-swap)

pub three_empty : (rule : RuleKind) (b : Grid) (s : Side) (d : Axis) (p q : Point) → is_line_three_point rule b s d p q ≡ true
    → is_empty b q ≡ true
unfolding is_line_three_point
three_empty rule b s d p q h = and_left (is_empty b q) _ (and_left (is_empty b q && not (wins_on rule b s d q)) _ h)

-- a point that is not empty is no three point, and so is none off the board
pub taken_three : (rule : RuleKind) (b : Grid) (s : Side) (d : Axis) (p q : Point) → is_empty b q ≡ false
    → is_line_three_point rule b s d p q ≡ false
unfolding is_line_three_point
taken_three rule b s d p q h = rw h refl

pub kept_three_by : (rule : RuleKind) (b : Grid) (s : Side) (d : Axis) (p q : Point) (r : Bool) → is_on b q ≡ r
    → is_line_three_at rule b s d p (cond r (Some q) None) ≡ is_line_three_point rule b s d p q
kept_three_by rule b s d p q r h = search (rules, taken_three)

module _ (rule : RuleKind) (b : Grid) (s : Side) (d : Axis) (p : Point) where
  pub three_by : (q : Point) (r : Bool) → five rule b s q ≡ r
      → is_three_point rule b s d p q ≡ (is_line_three_point rule b s d p q && not r)
  unfolding is_three_point is_line_three_point
  three_by q true h = rw (h, and-false (is_empty b q)) (sym (and-false _))
  three_by q false h = rw (h, no_axis (λ d. wins_on rule b s d q) h d) (sym (and-true _))

module _ (rule : RuleKind) (b : Grid) (d : Axis) (p : Point) where
  -- a three point is one as far as the axis decides, and no five point
  pub three_point-line : (q : Point) → is_three_point rule b Black d p q
      ≡ (is_line_three_point rule b Black d p q && not (five rule b Black q))
  three_point-line q = three_by rule b Black d p q (five rule b Black q) refl

  pub line_three : (q : Point) → is_three_point rule b Black d p q ≡ true → is_line_three_point rule b Black d p q ≡ true
  line_three q h = and_left (is_line_three_point rule b Black d p q) _ (sym (three_point-line q) ∙ h)

  pub is_three-free : is_three rule b d p (black_foul rule b) ≡ list_any
      (λ q. is_three_point rule b Black d p q && is_none (black_foul rule b q)) (points_of b)
  unfolding is_three
  is_three-free = any-filter (is_three_point rule b Black d p) (λ q. is_none (black_foul rule b q)) (points_of b)

  -- an axis with no three point, as far as it decides, is no three
  pub no_line_points : ((q : Point) → is_line_three_point rule b Black d p q ≡ false) → is_three rule b d p (black_foul rule b) ≡ false
  no_line_points none = is_three-free ∙ none_of _ (points_of b) (λ q h.
      let yes = line_three q (and_left (is_three_point rule b Black d p q) _ h) in
      let differ : false ≡ true = sym (none q) ∙ yes in
      cc)
