-- Five points: they are empty, and a stone changes none of the other side, but the point that it takes.
use Rattle.std.proofs.Common.{◌≡◌, Bool, true, false, ◌&&◌, refl, sym, ap, ◌∙◌, ℕ, cond, nat_eq, nat_le, ◌≤◌, ◌<◌, arith, not, List, length}
use Rattle.std.proofs.Common.{[], ◌∷◌, get_or, inl, inr, subst, rules, Option, Some, find, filter}
use Rattle.std.specs.List.{list_all}
use Rattle.std.proofs.lemmas.Bool.{false_from_ne_true}
use Rattle.game_rules.proofs.Common.{Grid, IsBoard, is_on, is_empty, put, points_of, run_of, row_wins, wins_on, five, is_same_point, other}
use Rattle.game_rules.proofs.Common.{has_fouls, mover, IsPosition, outcome, after, five_points, has_five, Side, Axis, Point, RuleKind, Row}
use Rattle.game_rules.proofs.Common.{Column, Down, Up, Black, GoesOn}
use Rattle.game_rules.proofs.Boards.{Apart, and-same, is_empty-on, is_empty-put, stone_of-other, run_of-put, and_left, and_right}
use Rattle.game_rules.proofs.Boards.{cell_at-put_same, same_or_apart, stone_of-taken}
use Rattle.game_rules.proofs.Positions.{IsBoard-put, ahead-other, behind-other, GoesOn-empty, mover-then}
use Rattle.game_rules.specs.declared.RuleKind.TheVariants.{Freestyle, Exact}
use Rattle.game_rules.proofs.PointLists.{no_points, passing, apart_same, find-and}
use Rattle.game_rules.proofs.Points.{filter-none, filter-passes, points-found, is_same_point-itself, is_same_point-same}
use Rattle.game_rules.proofs.Places.{two_passing-apart}

-- a five point is empty
pub five-empty : (rule : RuleKind) (b : Grid) (s : Side) (q : Point) → five rule b s q ≡ true → is_empty b q ≡ true
five-empty rule b s q h = search rules

module _ (b : Grid) (s : Side) (p : Point) (ok : IsBoard b) (empty : is_empty b p ≡ true) where
  run_of-other : (d : Axis) (q : Point) → is_on b q ≡ true
      → run_of (put (put b s p) (other s) q) (other s) d q ≡ run_of (put b (other s) q) (other s) d q
  run_of-other d q on = run_of-put (put b s p) (other s) q on (IsBoard-put b s p ok) d
      ∙ rw (ahead-other b s (other s) p ok empty (stone_of-other s) d q, behind-other b s (other s) p ok empty (stone_of-other s) d q) refl
      ∙ sym (run_of-put b (other s) q on ok d)

  wins_on-other : (rule : RuleKind) (q : Point) → Apart p q → (d : Axis)
      → wins_on rule (put b s p) (other s) d q ≡ wins_on rule b (other s) d q
  wins_on-other rule q apart d = search (rules, is_empty-put, is_empty-on, and-same, run_of-other)

  -- a five point of the other side is one as before, unless its point is taken
  pub five-other : (rule : RuleKind) (q : Point) → Apart p q → five rule (put b s p) (other s) q ≡ five rule b (other s) q
  five-other rule q apart = search (rules, wins_on-other)

pub wins-line_by : (t : Bool) (n : ℕ) → row_wins (cond t Freestyle Exact) Black n ≡ cond t (nat_le 5 n) (nat_eq n 5)
wins-line_by t n = search rules

pub same_fives : (rule : RuleKind) (b c : Grid) (s : Side) (q : Point) → ((d : Axis) → wins_on rule c s d q ≡ wins_on rule b s d q)
    → five rule c s q ≡ five rule b s q
same_fives rule b c s q h = rw (h Row, h Column, h Down, h Up) refl

pub five_alone : (rule : RuleKind) → has_fouls rule Black ≡ true → (n : ℕ) → row_wins rule Black n ≡ nat_eq n 5
five_alone rule f n = search rules

-- the least five point of the side to move
abbrev pub least_five : RuleKind → Grid → Option Point
least_five rule d = find (five rule d (mover d)) (points_of d)

pub no-fives : (rule : RuleKind) (b : Grid) (xs : List Point) → xs ≡ five_points rule b (mover b) → length xs < 1
    → has_five rule b (mover b) ≡ false
no-fives rule b xs e low = filter-none (five rule b (mover b)) (points_of b) (sym e ∙ nil xs low) where
  nil : (l : List Point) → length l < 1 → l ≡ []
  nil [] h = refl
  nil (x ∷ l) h = absurd (omega arith)

-- a side with a list of no five points has none
pub none_counted : (rule : RuleKind) (b : Grid) (s : Side) (n : ℕ) → n ≡ length (five_points rule b s) → n ≡ 0 → has_five rule b s ≡ false
none_counted rule b s n is none = filter-none (five rule b s) (points_of b) (no_points (five_points rule b s) (sym is ∙ none))

pub none_listed : (rule : RuleKind) (b : Grid) (s : Side) (xs : List Point) → xs ≡ five_points rule b s → length xs < 1
    → has_five rule b s ≡ false
none_listed rule b s [] are none = filter-none (five rule b s) (points_of b) (sym are)
none_listed rule b s (w ∷ more) are none = absurd (omega (arith, none))

pub first_listed : (rule : RuleKind) (b : Grid) (s : Side) (xs : List Point) (d : Point) → xs ≡ five_points rule b s → 1 ≤ length xs
    → five rule b s (get_or xs 0 d) ≡ true
first_listed rule b s [] d are some = absurd (omega (arith, some))
first_listed rule b s (w ∷ more) d are some =
    let all : list_all (five rule b s) (w ∷ more) ≡ true =
    ap (list_all (five rule b s)) are ∙ filter-passes (five rule b s) (points_of b) in
    and_left (five rule b s w) _ all

-- each point of the board is listed once
pub only : (b : Grid) (w : Point) → is_on b w ≡ true → filter (λ p. is_same_point p w) (points_of b) ≡ w ∷ []
only b w on = by_points (filter (λ p. is_same_point p w) (points_of b)) refl where
  by_points : (xs : List Point) → filter (λ p. is_same_point p w) (points_of b) ≡ xs
      → filter (λ p. is_same_point p w) (points_of b) ≡ w ∷ []
  by_points [] e =
      let none = filter-none (λ p. is_same_point p w) (points_of b) e in
      let some = points-found b (λ p. is_same_point p w) w on (is_same_point-itself w) in
      let no : false ≡ true = sym none ∙ some in cc
  by_points (u ∷ []) e =
      let here = and_left (is_same_point u w) _ (passing (λ p. is_same_point p w) (points_of b) (u ∷ []) e) in
      e ∙ ap (λ (p : Point). p ∷ []) (is_same_point-same u w here)
  by_points (u ∷ v ∷ more) e =
      let both = passing (λ p. is_same_point p w) (points_of b) (u ∷ v ∷ more) e in
      let first = is_same_point-same u w (and_left (is_same_point u w) _ both) in
      let second = is_same_point-same v w (and_left (is_same_point v w) _ (and_right (is_same_point u w) _ both)) in
      let apart = two_passing-apart b (λ p. is_same_point p w) u v more e in
      let same : u ≡ v = first ∙ sym second in
      absurd (apart.apart (ap (λ (r : Point). r.x) same) (ap (λ (r : Point). r.y) same))

module _ (rule : RuleKind) (c : Grid) (lawful : IsPosition rule c) (q : Point) (on : outcome rule c q ≡ GoesOn) where
  taken : is_empty (after c q) q ≡ false
  taken = search (rules, is_empty-on, GoesOn-empty, cell_at-put_same, stone_of-taken)

  five_left : (x : Point) → five rule (after c q) (other (mover c)) x ≡ (five rule c (other (mover c)) x && not (is_same_point x q))
  five_left x = elim (same_or_apart q x) [
    | inl same ↦ subst (λ (y : Point). five rule (after c q) (other (mover c)) y
        ≡ (five rule c (other (mover c)) y && not (is_same_point y q))) same
        (not_there ∙ sym (drop_right (five rule c (other (mover c)) q) _ (ap not (is_same_point-itself q))))
    | inr apart ↦ five-other c (mover c) q lawful.board (GoesOn-empty rule c q on) rule x apart
        ∙ sym (keep_left (five rule c (other (mover c)) x) _ (ap not (apart_same q x apart)))
  ] where
    not_there : five rule (after c q) (other (mover c)) q ≡ false
    not_there = false_from_ne_true _
        (λ h. let yes = five-empty rule (after c q) (other (mover c)) q h in let bad : false ≡ true = sym taken ∙ yes in cc)

    drop_right : (a b : Bool) → b ≡ false → (a && b) ≡ false
    drop_right true b h = h
    drop_right false b h = refl

    keep_left : (a b : Bool) → b ≡ true → (a && b) ≡ a
    keep_left true b h = h
    keep_left false b h = refl

  -- the least of those five points of the attacker that the reply does not take
  least-left : least_five rule (after c q) ≡ find (λ x. not (is_same_point x q)) (five_points rule c (other (mover c)))
  least-left = ap (λ (s : Side). find (five rule (after c q) s) (points_of c)) (mover-then rule c q lawful on)
      ∙ ap (λ (f : Point → Bool). find f (points_of c)) (λ i x. five_left x i)
      ∙ find-and (five rule c (other (mover c))) (λ x. not (is_same_point x q)) (points_of c)

  pub first-left : (w : Point) (more : List Point) → five_points rule c (other (mover c)) ≡ w ∷ more → Apart q w
      → least_five rule (after c q) ≡ Some w
  first-left w more e apart = search (rules, least-left, apart_same)

  pub second-left : (w v : Point) (more : List Point) → five_points rule c (other (mover c)) ≡ w ∷ v ∷ more → q ≡ w
      → least_five rule (after c q) ≡ Some v
  second-left w v more e same =
      let apart : Apart w v = two_passing-apart c (five rule c (other (mover c))) w v more e in
      let here : is_same_point w q ≡ true = ap (λ (x : Point). is_same_point w x) same ∙ is_same_point-itself w in
      let there : is_same_point v q ≡ false = ap (λ (x : Point). is_same_point v x) same ∙ apart_same w v apart in
      least-left ∙ ap (find (λ x. not (is_same_point x q))) e
      ∙ ap (λ r. cond (not r) (Some w) (cond (not (is_same_point v q)) (Some v) (find (λ x. not (is_same_point x q)) more))) here
      ∙ ap (λ r. cond (not r) (Some v) (find (λ x. not (is_same_point x q)) more)) there
