-- A board and what a turn makes of it: points, places, stones in a row, runs, five points.
use Rattle.std.proofs.Common.{◌≡◌, inl, inr, ℕ, ◌+◌, Bool, true, false, ◌&&◌, cond, refl, sym, ap, subst, ◌∙◌, arith, List, Option, Some}
use Rattle.std.proofs.Common.{None, rules}
use Rattle.std.specs.Cmp.{both_ways}
use Rattle.std.specs.List.{list_any}
use Rattle.std.proofs.lemmas.Bool.{both_ways as both_values}
use Rattle.board_symmetry.proofs.Common.{Grid, IsBoard, is_empty, cell_at, put, axes, run_of, five, go, opposite, Cell, Side, Axis, Point}
use Rattle.board_symmetry.proofs.Common.{RuleKind, Way, Ahead, Behind}
use Rattle.game_rules.proofs.Common.{holds, stone_at, stones_ahead, stones_behind, row_wins, wins_on, wins_at, stones_towards}
use Rattle.game_rules.proofs.Boards.{Apart, and_left, same_or_apart, cell_at-put_same, cell_at-put_other}
use Rattle.game_rules.proofs.Positions.{IsBoard-put}
use Rattle.game_rules.proofs.Ways.{leads, leads_is}
use Rattle.game_rules.proofs.Wins.{wins_on-ways}
use Rattle.board_symmetry.proofs.Turns.{Turn, within}

-- the board of this width and height with these cells
abbrev pub grid : ℕ → ℕ → List Cell → Grid
grid w h cells = record { width = w; height = h; cells = cells }

-- the cells ys are what the turn makes of the cells xs
pub record Turned (w h : ℕ) (to : Point → Point) (xs ys : List Cell) : Type 0 where
  pub board : IsBoard (grid w h xs)
  pub image : IsBoard (grid w h ys)
  pub cells : (p : Point) → within w h p ≡ true → cell_at (grid w h ys) (to p) ≡ cell_at (grid w h xs) p

-- a test of places holds at points of the board alone
pub record OfPoints (w h : ℕ) (f : Option Point → Bool) : Type 0 where
  pub none : f None ≡ false
  pub on : (q : Point) → f (Some q) ≡ true → within w h q ≡ true

some_point : (w h : ℕ) (f : Option Point → Bool) → OfPoints w h f → (o : Option Point) → f o ≡ true
    → (q : Point) × (o ≡ Some q) × (within w h q ≡ true)
some_point w h f of o e = search (rules, both_values)

module _ (w h : ℕ) (to from : Point → Point) (turn : Turn w h to from) where
  -- tests of places that agree at each point and its image agree at all places
  pub place-same : (f g : Option Point → Bool) → OfPoints w h f → OfPoints w h g
      → ((q : Point) → within w h q ≡ true → g (Some (to q)) ≡ f (Some q))
      → (v : Way) (d : Axis) (p : Point) (x y : ℕ) → within w h p ≡ true → g (go (turn.way d v) (turn.axis d) (to p) x y) ≡ f (go v d p x y)
  place-same f g of_f of_g same v d p x y on = both_ways _ _ there here where
    here : f (go v d p x y) ≡ true → g (go (turn.way d v) (turn.axis d) (to p) x y) ≡ true
    here e =
        let s = some_point w h f of_f (go v d p x y) e in
        ap g (turn.steps v d p s.0 x y on s.2 s.1) ∙ same s.0 s.2 ∙ sym (ap f s.1) ∙ e

    there : g (go (turn.way d v) (turn.axis d) (to p) x y) ≡ true → f (go v d p x y) ≡ true
    there e =
        let s = some_point w h g of_g (go (turn.way d v) (turn.axis d) (to p) x y) e in
        let on_q : within w h (from s.0) ≡ true = turn.come s.0 s.2 in
        let back : to (from s.0) ≡ s.0 = turn.redone s.0 s.2 in
        ap f (turn.back v d p (from s.0) x y on on_q (s.1 ∙ ap Some (sym back)))
        ∙ sym (same (from s.0) on_q) ∙ ap (λ (z : Point). g (Some z)) back ∙ sym (ap g s.1) ∙ e

  -- points that the turn takes apart are apart, and so are their images
  pub to-apart : (p q : Point) → within w h p ≡ true → within w h q ≡ true → Apart p q → Apart (to p) (to q)
  to-apart p q on_p on_q apart = search (rules, same_or_apart)

  module _ (xs ys : List Cell) (turned : Turned w h to xs ys) where
    pub empty-same : (p : Point) → within w h p ≡ true → is_empty (grid w h ys) (to p) ≡ is_empty (grid w h xs) p
    empty-same p on = rw (on, turn.kept p on, turned.cells p on) refl

    pub holds-same : (s : Side) (p : Point) → within w h p ≡ true → holds (grid w h ys) s (to p) ≡ holds (grid w h xs) s p
    holds-same s p on = rw (on, turn.kept p on, turned.cells p on) refl

    stone_of_points : (zs : List Cell) (s : Side) → OfPoints w h (stone_at (grid w h zs) s)
    stone_of_points zs s = record { none = refl; on = λ q e. and_left (within w h q) _ e }

    pub stone-same : (s : Side) (v : Way) (d : Axis) (p : Point) (x y : ℕ) → within w h p ≡ true
        → stone_at (grid w h ys) s (go (turn.way d v) (turn.axis d) (to p) x y) ≡ stone_at (grid w h xs) s (go v d p x y)
    stone-same s v d p x y on = place-same
        (stone_at (grid w h xs) s) (stone_at (grid w h ys) s) (stone_of_points xs s) (stone_of_points ys s) (holds-same s) v d p x y on

    -- as many stones stand in a row next to the point
    pub towards-same : (s : Side) (v : Way) (d : Axis) (p : Point) → within w h p ≡ true
        → stones_towards (turn.way d v) (grid w h ys) s (turn.axis d) (to p) ≡ stones_towards v (grid w h xs) s d p
    towards-same s v d p on =
        let row = leads (grid w h xs) s d p on v in
        leads_is (grid w h ys) s (turn.axis d) (to p) (turn.kept p on) (turn.way d v) (stones_towards v (grid w h xs) s d p) (record {
          holds = λ j low high. stone-same s v d p j 0 on ∙ row.holds j low high;
          stops = stone-same s v d p (1 + stones_towards v (grid w h xs) s d p) 0 on ∙ row.stops;
        })

    -- the stones next to it in both ways
    pub both-same : (s : Side) (d : Axis) (p : Point) → within w h p ≡ true
        → stones_ahead (grid w h ys) s (turn.axis d) (to p) + stones_behind (grid w h ys) s (turn.axis d) (to p)
        ≡ stones_ahead (grid w h xs) s d p + stones_behind (grid w h xs) s d p
    both-same s d p on = by_way (turn.way d Ahead) (turn.way d Behind) (turn.ways d Ahead) (towards-same s Ahead d p on)
        (towards-same s Behind d p on) where
          by_way : (v u : Way) → u ≡ opposite v → stones_towards v (grid w h ys) s (turn.axis d) (to p) ≡ stones_ahead (grid w h xs) s d p
              → stones_towards u (grid w h ys) s (turn.axis d) (to p) ≡ stones_behind (grid w h xs) s d p
              → stones_ahead (grid w h ys) s (turn.axis d) (to p) + stones_behind (grid w h ys) s (turn.axis d) (to p)
              ≡ stones_ahead (grid w h xs) s d p + stones_behind (grid w h xs) s d p
          by_way Ahead Ahead e f g = cc
          by_way Ahead Behind e f g = omega arith
          by_way Behind Ahead e f g = omega arith
          by_way Behind Behind e f g = cc

    pub run-same : (s : Side) (d : Axis) (p : Point) → within w h p ≡ true → run_of (grid w h ys) s (turn.axis d) (to p)
        ≡ run_of (grid w h xs) s d p
    run-same s d p on =
        ap (λ r. cond r (1 + stones_ahead (grid w h ys) s (turn.axis d) (to p) + stones_behind (grid w h ys) s (turn.axis d) (to p)) 0)
        (holds-same s p on) ∙ ap (λ n. cond (holds (grid w h xs) s p) n 0) (let both = both-same s d p on in omega (arith, both))

    pub wins-same : (rule : RuleKind) (s : Side) (d : Axis) (p : Point) → within w h p ≡ true
        → wins_on rule (grid w h ys) s (turn.axis d) (to p) ≡ wins_on rule (grid w h xs) s d p
    wins-same rule s d p on = wins_on-ways rule (grid w h ys) s Ahead (turn.axis d) (to p) turned.image
        ∙ ap (λ r. r && row_wins rule s (1 + stones_ahead (grid w h ys) s (turn.axis d) (to p) + stones_behind (grid w h ys) s
        (turn.axis d) (to p))) (empty-same p on) ∙ ap (λ n. is_empty (grid w h xs) p && row_wins rule s n)
        (let both = both-same s d p on in omega (arith, both)) ∙ sym (wins_on-ways rule (grid w h xs) s Ahead d p turned.board)

    win_of_points : (zs : List Cell) (rule : RuleKind) (s : Side) (d : Axis) → OfPoints w h (wins_at rule (grid w h zs) s d)
    win_of_points zs rule s d = search (rules, and_left, within)

    pub wins_at-same : (rule : RuleKind) (s : Side) (v : Way) (d : Axis) (p : Point) (x y : ℕ) → within w h p ≡ true
        → wins_at rule (grid w h ys) s (turn.axis d) (go (turn.way d v) (turn.axis d) (to p) x y)
        ≡ wins_at rule (grid w h xs) s d (go v d p x y)
    wins_at-same rule s v d p x y on = place-same (wins_at rule (grid w h xs) s d) (wins_at rule (grid w h ys) s (turn.axis d))
        (win_of_points xs rule s d) (win_of_points ys rule s (turn.axis d)) (wins-same rule s d) v d p x y on

    pub five-same : (rule : RuleKind) (s : Side) (p : Point) → within w h p ≡ true → five rule (grid w h ys) s (to p)
        ≡ five rule (grid w h xs) s p
    five-same rule s p on = turn.anys (λ d. wins_on rule (grid w h ys) s d (to p))
        ∙ ap (λ (f : Axis → Bool). list_any f axes) (λ i d. wins-same rule s d p on i)

    -- the same stone on a point and on its image
    pub put-turned : (s : Side) (q : Point) → within w h q ≡ true
        → Turned w h to (put (grid w h xs) s q).cells (put (grid w h ys) s (to q)).cells
    put-turned s q on = record {
      board = IsBoard-put (grid w h xs) s q turned.board;
      image = IsBoard-put (grid w h ys) s (to q) turned.image;
      cells = λ p on_p. elim (same_or_apart q p) [
        | inl same ↦ subst (λ (z : Point). cell_at (put (grid w h ys) s (to q)) (to z) ≡ cell_at (put (grid w h xs) s q) z) same
            (cell_at-put_same (grid w h ys) s (to q) turned.image (turn.kept q on)
            ∙ sym (cell_at-put_same (grid w h xs) s q turned.board on))
        | inr apart ↦ cell_at-put_other (grid w h ys) s (to q) (to p) (turn.kept q on) (turn.kept p on_p) (to-apart q p on on_p apart)
            ∙ turned.cells p on_p ∙ sym (cell_at-put_other (grid w h xs) s q p on on_p apart)
      ];
    }
