-- Turns of a board: maps of its points onto themselves that carry lines to lines. The eight symmetries are turns, and what holds
-- of a board holds of what a turn makes of it.
use Rattle.std.proofs.Common.{◌≡◌, ℕ, ◌-◌, ◌<◌, Bool, true, false, ◌&&◌, ◌||◌, cond, refl, sym, ap, ◌∙◌, arith, Some, nat_lt, sum_by, rules}
use Rattle.std.specs.List.{list_any, range_with_len}
use Rattle.std.proofs.lemmas.Bool.{lt-ltb}
use Rattle.board_symmetry.proofs.Common.{axes, points_within, go, opposite, Axis, Point, Way, Ahead, Behind, empty_board}
use Rattle.game_rules.specs.declared.Axis.TheVariants.{Row, Column, Down, Up}
use Rattle.game_rules.proofs.Boards.{on_x, on_y}
use Rattle.game_rules.proofs.Lines.{OnLine, along-OnLine, OnLine-along}
use Rattle.board_symmetry.proofs.Sums.{reversed, exchanged, points_sum, row_sum}

-- whether the point is on a board of this width and height
abbrev pub within : ℕ → ℕ → Point → Bool
within w h p = nat_lt p.x w && nat_lt p.y h

within_x : (w h : ℕ) (p : Point) → within w h p ≡ true → p.x < w
within_x w h p on = on_x (empty_board w h) p on

within_y : (w h : ℕ) (p : Point) → within w h p ≡ true → p.y < h
within_y w h p on = on_y (empty_board w h) p on

within_by : (w h : ℕ) (p : Point) → p.x < w → p.y < h → within w h p ≡ true
within_by w h p x y = rw (lt-ltb p.x w x, lt-ltb p.y h y) refl

-- a map of the points of a board of this width and height, and the map back: each line goes to a line, whose axis and whose two
-- ways are those that `axis` and `way` tell
pub record Turn (w h : ℕ) (to from : Point → Point) : Type 0 where
  pub axis : Axis → Axis
  pub way : Axis → Way → Way
  pub kept : (p : Point) → within w h p ≡ true → within w h (to p) ≡ true
  pub come : (p : Point) → within w h p ≡ true → within w h (from p) ≡ true
  pub undone : (p : Point) → within w h p ≡ true → from (to p) ≡ p
  pub redone : (p : Point) → within w h p ≡ true → to (from p) ≡ p
  pub steps : (v : Way) (d : Axis) (p q : Point) (x y : ℕ) → within w h p ≡ true → within w h q ≡ true → go v d p x y ≡ Some q
      → go (way d v) (axis d) (to p) x y ≡ Some (to q)
  pub back : (v : Way) (d : Axis) (p q : Point) (x y : ℕ) → within w h p ≡ true → within w h q ≡ true
      → go (way d v) (axis d) (to p) x y ≡ Some (to q) → go v d p x y ≡ Some q
  pub ways : (d : Axis) (v : Way) → way d (opposite v) ≡ opposite (way d v)
  pub sums : (f : Axis → ℕ) → sum_by f axes ≡ sum_by (λ d. f (axis d)) axes
  pub anys : (f : Axis → Bool) → list_any f axes ≡ list_any (λ d. f (axis d)) axes
  pub points : (f : Point → ℕ) → sum_by (λ q. f (to q)) (points_within w h) ≡ sum_by f (points_within w h)

-- one turn after another
pub turn-then : (w h : ℕ) (to from next before : Point → Point) → Turn w h to from → Turn w h next before
    → Turn w h (λ p. next (to p)) (λ p. from (before p))
turn-then w h to from next before one two = record {
  axis = λ d. two.axis (one.axis d);
  way = λ d v. two.way (one.axis d) (one.way d v);
  kept = λ p on. two.kept (to p) (one.kept p on);
  come = λ p on. one.come (before p) (two.come p on);
  undone = λ p on. ap from (two.undone (to p) (one.kept p on)) ∙ one.undone p on;
  redone = λ p on. ap next (one.redone (before p) (two.come p on)) ∙ two.redone p on;
  steps = λ v d p q x y on_p on_q e. two.steps (one.way d v) (one.axis d) (to p) (to q) x y (one.kept p on_p) (one.kept q on_q)
      (one.steps v d p q x y on_p on_q e);
  back = λ v d p q x y on_p on_q e. one.back v d p q x y on_p on_q
      (two.back (one.way d v) (one.axis d) (to p) (to q) x y (one.kept p on_p) (one.kept q on_q) e);
  ways = λ d v. ap (two.way (one.axis d)) (one.ways d v) ∙ two.ways (one.axis d) (one.way d v);
  sums = λ f. two.sums f ∙ one.sums (λ d. f (two.axis d));
  anys = λ f. two.anys f ∙ one.anys (λ d. f (two.axis d));
  points = λ f. one.points (λ q. f (next q)) ∙ two.points f;
}

-- ---- places in one of the two ways, by sums alone

abbrev OnWay : Way → Axis → Point → ℕ → ℕ → Point → Type 0
OnWay Ahead d p x y q = OnLine d p x y q
OnWay Behind d p x y q = OnLine d p y x q

go-OnWay : (v : Way) (d : Axis) (p q : Point) (x y : ℕ) → go v d p x y ≡ Some q → OnWay v d p x y q
go-OnWay v d p q x y e = search (rules, along-OnLine)

OnWay-go : (v : Way) (d : Axis) (p q : Point) (x y : ℕ) → OnWay v d p x y q → go v d p x y ≡ Some q
OnWay-go v d p q x y l = search (rules, OnLine-along)

-- ---- the turn that moves nothing

abbrev same_axis : Axis → Axis
same_axis d = d

abbrev same_way : Axis → Way → Way
same_way d v = v

pub stay : (w h : ℕ) → Turn w h (λ p. p) (λ p. p)
stay w h = record {
  axis = same_axis;
  way = same_way;
  kept = λ p on. on;
  come = λ p on. on;
  undone = λ p on. refl;
  redone = λ p on. refl;
  steps = λ v d p q x y on_p on_q e. e;
  back = λ v d p q x y on_p on_q e. e;
  ways = λ d v. refl;
  sums = λ f. refl;
  anys = λ f. refl;
  points = λ f. refl;
}

-- ---- flips of one axis

or-swap : (a b c : Bool) → (a || (b || c)) ≡ (b || (a || c))
or-swap a b c = search rules

-- the two slanting axes change places
abbrev flip_axis : Axis → Axis
flip_axis Row = Row
flip_axis Column = Column
flip_axis Down = Up
flip_axis Up = Down

flip_sums : (f : Axis → ℕ) → sum_by f axes ≡ sum_by (λ d. f (flip_axis d)) axes
flip_sums f = omega arith

flip_anys : (f : Axis → Bool) → list_any f axes ≡ list_any (λ d. f (flip_axis d)) axes
flip_anys f = ap (λ r. f Row || (f Column || r)) (or-swap (f Down) (f Up) false)

-- ways along the axes, turned round on some of them
abbrev turned_way : (Axis → Bool) → Axis → Way → Way
turned_way turned d v = cond (turned d) (opposite v) v

turned_way-opposite : (turned : Axis → Bool) (d : Axis) (v : Way) → turned_way turned d (opposite v) ≡ opposite (turned_way turned d v)
turned_way-opposite turned d v = search rules

-- left and right
abbrev flip_x : ℕ → Point → Point
flip_x w p = record { x = w - 1 - p.x; y = p.y }

abbrev turns_x : Axis → Bool
turns_x Row = true
turns_x Column = false
turns_x Down = true
turns_x Up = true

abbrev way_x : Axis → Way → Way
way_x = turned_way turns_x

module _ (w h : ℕ) where
  flip_x-steps : (v : Way) (d : Axis) (p q : Point) (x y : ℕ) → p.x < w → q.x < w → OnWay v d p x y q
      → OnWay (way_x d v) (flip_axis d) (flip_x w p) x y (flip_x w q)
  flip_x-steps v d p q x y l k e = search rules

  flip_x-back : (v : Way) (d : Axis) (p q : Point) (x y : ℕ) → p.x < w → q.x < w
      → OnWay (way_x d v) (flip_axis d) (flip_x w p) x y (flip_x w q) → OnWay v d p x y q
  flip_x-back v d p q x y l k e = search rules

  flip_x-undone : (p : Point) → within w h p ≡ true → flip_x w (flip_x w p) ≡ p
  flip_x-undone p on = search (rules, within_x)

  flip_x-kept : (p : Point) → within w h p ≡ true → within w h (flip_x w p) ≡ true
  flip_x-kept p on = let low = within_x w h p on in within_by w h (flip_x w p) (omega (arith, low)) (within_y w h p on)

  flip_x-points : (f : Point → ℕ) → sum_by (λ q. f (flip_x w q)) (points_within w h) ≡ sum_by f (points_within w h)
  flip_x-points f = points_sum (λ q. f (flip_x w q)) w h ∙ ap (λ (g : ℕ → ℕ). sum_by g (range_with_len 0 h))
      (λ i y. reversed (λ x. let p : Point = record { x = x; y = y } in f p) w i) ∙ sym (points_sum f w h)

  pub turn_x : Turn w h (flip_x w) (flip_x w)
  turn_x = record {
    axis = flip_axis;
    way = way_x;
    kept = flip_x-kept;
    come = flip_x-kept;
    undone = flip_x-undone;
    redone = flip_x-undone;
    steps = λ v d p q x y on_p on_q e. OnWay-go (way_x d v) (flip_axis d)
        (flip_x w p) (flip_x w q) x y (flip_x-steps v d p q x y (within_x w h p on_p) (within_x w h q on_q) (go-OnWay v d p q x y e));
    back = λ v d p q x y on_p on_q e. OnWay-go v d p q x y (flip_x-back v d p q x y (within_x w h p on_p) (within_x w h q on_q)
        (go-OnWay (way_x d v) (flip_axis d) (flip_x w p) (flip_x w q) x y e));
    ways = turned_way-opposite turns_x;
    sums = flip_sums;
    anys = flip_anys;
    points = flip_x-points;
  }

-- top and bottom
abbrev flip_y : ℕ → Point → Point
flip_y h p = record { x = p.x; y = h - 1 - p.y }

abbrev turns_y : Axis → Bool
turns_y Row = false
turns_y Column = true
turns_y Down = false
turns_y Up = false

abbrev way_y : Axis → Way → Way
way_y = turned_way turns_y

module _ (w h : ℕ) where
  flip_y-steps : (v : Way) (d : Axis) (p q : Point) (x y : ℕ) → p.y < h → q.y < h → OnWay v d p x y q
      → OnWay (way_y d v) (flip_axis d) (flip_y h p) x y (flip_y h q)
  flip_y-steps v d p q x y l k e = search rules

  flip_y-back : (v : Way) (d : Axis) (p q : Point) (x y : ℕ) → p.y < h → q.y < h
      → OnWay (way_y d v) (flip_axis d) (flip_y h p) x y (flip_y h q) → OnWay v d p x y q
  flip_y-back v d p q x y l k e = search rules

  flip_y-undone : (p : Point) → within w h p ≡ true → flip_y h (flip_y h p) ≡ p
  flip_y-undone p on = search (rules, within_y)

  flip_y-kept : (p : Point) → within w h p ≡ true → within w h (flip_y h p) ≡ true
  flip_y-kept p on = let low = within_y w h p on in within_by w h (flip_y h p) (within_x w h p on) (omega (arith, low))

  flip_y-points : (f : Point → ℕ) → sum_by (λ q. f (flip_y h q)) (points_within w h) ≡ sum_by f (points_within w h)
  flip_y-points f = points_sum (λ q. f (flip_y h q)) w h ∙ reversed (row_sum f w h) h ∙ sym (points_sum f w h)

  pub turn_y : Turn w h (flip_y h) (flip_y h)
  turn_y = record {
    axis = flip_axis;
    way = way_y;
    kept = flip_y-kept;
    come = flip_y-kept;
    undone = flip_y-undone;
    redone = flip_y-undone;
    steps = λ v d p q x y on_p on_q e. OnWay-go (way_y d v) (flip_axis d)
        (flip_y h p) (flip_y h q) x y (flip_y-steps v d p q x y (within_y w h p on_p) (within_y w h q on_q) (go-OnWay v d p q x y e));
    back = λ v d p q x y on_p on_q e. OnWay-go v d p q x y (flip_y-back v d p q x y (within_y w h p on_p) (within_y w h q on_q)
        (go-OnWay (way_y d v) (flip_axis d) (flip_y h p) (flip_y h q) x y e));
    ways = turned_way-opposite turns_y;
    sums = flip_sums;
    anys = flip_anys;
    points = flip_y-points;
  }

-- ---- the exchange of x and y, on a square board

abbrev swap : Point → Point
swap p = record { x = p.y; y = p.x }

-- rows and columns change places
abbrev swap_axis : Axis → Axis
swap_axis Row = Column
swap_axis Column = Row
swap_axis Down = Down
swap_axis Up = Up

abbrev turns_swap : Axis → Bool
turns_swap Row = false
turns_swap Column = false
turns_swap Down = false
turns_swap Up = true

abbrev swap_way : Axis → Way → Way
swap_way = turned_way turns_swap

swap-steps : (v : Way) (d : Axis) (p q : Point) (x y : ℕ) → OnWay v d p x y q → OnWay (swap_way d v) (swap_axis d) (swap p) x y (swap q)
swap-steps v d p q x y e = search rules

swap-back : (v : Way) (d : Axis) (p q : Point) (x y : ℕ) → OnWay (swap_way d v) (swap_axis d) (swap p) x y (swap q) → OnWay v d p x y q
swap-back v d p q x y e = search rules

module _ (n : ℕ) where
  swap-kept : (p : Point) → within n n p ≡ true → within n n (swap p) ≡ true
  swap-kept p on = within_by n n (swap p) (within_y n n p on) (within_x n n p on)

  swap-points : (f : Point → ℕ) → sum_by (λ q. f (swap q)) (points_within n n) ≡ sum_by f (points_within n n)
  swap-points f = points_sum (λ q. f (swap q)) n n
      ∙ exchanged (λ x y. let p : Point = record { x = y; y = x } in f p) (range_with_len 0 n) (range_with_len 0 n) ∙ sym (points_sum f n n)

  pub turn_swap : Turn n n swap swap
  turn_swap = record {
    axis = swap_axis;
    way = swap_way;
    kept = swap-kept;
    come = swap-kept;
    undone = λ p on. refl;
    redone = λ p on. refl;
    steps = λ v d p q x y on_p on_q e. OnWay-go (swap_way d v) (swap_axis d) (swap p) (swap q) x y
        (swap-steps v d p q x y (go-OnWay v d p q x y e));
    back = λ v d p q x y on_p on_q e. OnWay-go v d p q x y
        (swap-back v d p q x y (go-OnWay (swap_way d v) (swap_axis d) (swap p) (swap q) x y e));
    ways = turned_way-opposite turns_swap;
    sums = λ f. omega arith;
    anys = λ f. or-swap (f Row) (f Column) (f Down || (f Up || false));
    points = swap-points;
  }
