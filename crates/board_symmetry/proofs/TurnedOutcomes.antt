-- A board and what a turn makes of it: sums and tests over all points, numbers of stones, threes, fouls, outcomes.
use Rattle.std.proofs.Common.{◌≡◌, ℕ, zero, suc, Bool, true, ◌&&◌, nat_eq, nat_le, cond, refl, sym, ap, ◌∙◌, List, [], ◌∷◌, map, Option}
use Rattle.std.proofs.Common.{None, is_none, sum_by, count_by, rules}
use Rattle.std.specs.Cmp.{both_ways}
use Rattle.std.specs.List.{list_any, list_all}
use Rattle.std.proofs.lemmas.List.Sums.{sum_by-cons}
use Rattle.board_symmetry.proofs.Common.{is_empty, cell_at, put, axes, points_within, run_of, five, outcome, after, Cell, Side, Black}
use Rattle.board_symmetry.proofs.Common.{White, Axis, Point, RuleKind, empty_board}
use Rattle.game_rules.proofs.Common.{is_empty_cell, is_stone_of, stones_of, empties_of, fours_of, is_three_point, first_foul, outcome_by}
use Rattle.game_rules.proofs.Common.{is_three, stone_foul, black_foul_within, black_foul, has_fouls, foul_of, mover}
use Rattle.game_rules.specs.declared.Foul.{Foul}
use Rattle.game_rules.proofs.Boards.{and_left, and_right}
use Rattle.game_rules.proofs.Points.{points-found}
use Rattle.game_rules.proofs.Places.{points_on}
use Rattle.game_rules.proofs.PointLists.{any-filter}
use Rattle.board_symmetry.proofs.Sums.{sum_by-map}
use Rattle.board_symmetry.proofs.Turns.{Turn, within}
use Rattle.board_symmetry.proofs.Alike.{grid, Turned, empty-same, run-same, five-same, put-turned}
use Rattle.board_symmetry.proofs.TurnedShapes.{fours-same, three-same}
use Rattle.board_symmetry.proofs.Listed.{cells_listed}

-- ---- lists of points that pass a test

sum_where : (on : Point → Bool) (f g : Point → ℕ) (ps : List Point) → list_all on ps ≡ true → ((q : Point) → on q ≡ true → f q ≡ g q)
    → sum_by f ps ≡ sum_by g ps
sum_where on f g [] all same = refl
sum_where on f g (p ∷ ps) all same = search (rules, sum_by-cons, and_left, and_right, sum_where on f g ps (and_right (on p) _ all) same)

any_where : (on f : Point → Bool) (ps : List Point) → list_all on ps ≡ true → list_any f ps ≡ true → (q : Point) × (on q ≡ true)
    × (f q ≡ true)
any_where on f [] all h = cc
any_where on f (p ∷ ps) all h = search (rules, and_right, and_left, any_where on f ps (and_right (on p) _ all))

module _ (w h : ℕ) (to from : Point → Point) (turn : Turn w h to from) where
  -- ---- all points of a board, and their images

  pub points-sum : (f g : Point → ℕ) → ((q : Point) → within w h q ≡ true → g (to q) ≡ f q) → sum_by g (points_within w h)
      ≡ sum_by f (points_within w h)
  points-sum f g same =
      sym (turn.points g) ∙ sum_where (within w h) (λ q. g (to q)) f (points_within w h) (points_on (empty_board w h)) same

  pub points-any : (f g : Point → Bool) → ((q : Point) → within w h q ≡ true → g (to q) ≡ f q) → list_any g (points_within w h)
      ≡ list_any f (points_within w h)
  points-any f g same = both_ways _ _ there here where
    here : list_any f (points_within w h) ≡ true → list_any g (points_within w h) ≡ true
    here e =
        let some = any_where (within w h) f (points_within w h) (points_on (empty_board w h)) e in
        points-found (empty_board w h) g (to some.0) (turn.kept some.0 some.1) (same some.0 some.1 ∙ some.2)

    there : list_any g (points_within w h) ≡ true → list_any f (points_within w h) ≡ true
    there e =
        let some = any_where (within w h) g (points_within w h) (points_on (empty_board w h)) e in
        let on : within w h (from some.0) ≡ true = turn.come some.0 some.1 in
        points-found (empty_board w h) f (from some.0) on (sym (same (from some.0) on) ∙ ap g (turn.redone some.0 some.1) ∙ some.2)

  module _ (xs ys : List Cell) (turned : Turned w h to xs ys) where
    -- ---- numbers of stones

    cells_counted : (f : Cell → Bool) (zs : List Cell) → map (cell_at (grid w h zs)) (points_within w h) ≡ zs
        → count_by f zs ≡ sum_by (λ q. cond (f (cell_at (grid w h zs) q)) 1 0) (points_within w h)
    cells_counted f zs e = ap (count_by f) (sym e) ∙ sum_by-map (λ c. cond (f c) 1 0) (cell_at (grid w h zs)) (points_within w h)

    count-same : (f : Cell → Bool) → count_by f ys ≡ count_by f xs
    count-same f = cells_counted f ys (cells_listed w h ys turned.image.filled)
        ∙ points-sum (λ q. cond (f (cell_at (grid w h xs) q)) 1 0) (λ q. cond (f (cell_at (grid w h ys) q)) 1 0)
        (λ q on. ap (λ c. cond (f c) 1 0) (turned.cells q on)) ∙ sym (cells_counted f xs (cells_listed w h xs turned.board.filled))

    pub stones-same : (s : Side) → stones_of (grid w h ys) s ≡ stones_of (grid w h xs) s
    stones-same s = count-same (is_stone_of s)

    pub empties-same : empties_of (grid w h ys) ≡ empties_of (grid w h xs)
    empties-same = count-same is_empty_cell

    pub mover-same : mover (grid w h ys) ≡ mover (grid w h xs)
    mover-same = rw (stones-same Black, stones-same White) refl

    -- ---- threes and fouls

    module _ (rule : RuleKind) (p : Point) (on : within w h p ≡ true) (foul_at foul_there : Point → Option Foul)
        (alike : (q : Point) → within w h q ≡ true → foul_there (to q) ≡ foul_at q) where
      three_of-same : (d : Axis) → is_three rule (grid w h ys) (turn.axis d) (to p) foul_there ≡ is_three rule (grid w h xs) d p foul_at
      unfolding is_three
      three_of-same d = any-filter (is_three_point rule (grid w h ys) Black (turn.axis d) (to p)) (λ q. is_none (foul_there q))
          (points_within w h) ∙ points-any (λ q. is_three_point rule (grid w h xs) Black d p q && is_none (foul_at q))
          (λ q. is_three_point rule (grid w h ys) Black (turn.axis d) (to p) q && is_none (foul_there q))
          (λ q on_q. ap (λ r. r && is_none (foul_there (to q))) (three-same w h to from turn xs ys turned rule Black d p q on on_q)
          ∙ ap (λ (o : Option Foul). is_three_point rule (grid w h xs) Black d p q && is_none o) (alike q on_q))
          ∙ sym (any-filter (is_three_point rule (grid w h xs) Black d p) (λ q. is_none (foul_at q)) (points_within w h))

      pub stone_foul-same : stone_foul rule (grid w h ys) (to p) foul_there ≡ stone_foul rule (grid w h xs) p foul_at
      unfolding stone_foul
      stone_foul-same =
          let five_there : list_any (λ d. nat_eq (run_of (grid w h ys) Black d (to p)) 5) axes
          ≡ list_any (λ d. nat_eq (run_of (grid w h xs) Black d p) 5) axes = turn.anys (λ d. nat_eq (run_of (grid w h ys) Black d (to p)) 5)
          ∙ ap (λ (f : Axis → Bool). list_any f axes) (λ i d. nat_eq (run-same w h to from turn xs ys turned Black d p on i) 5) in
          let over : list_any (λ d. nat_le 6 (run_of (grid w h ys) Black d (to p))) axes
          ≡ list_any (λ d. nat_le 6 (run_of (grid w h xs) Black d p)) axes = turn.anys (λ d. nat_le 6 (run_of (grid w h ys) Black d (to p)))
          ∙ ap (λ (f : Axis → Bool). list_any f axes) (λ i d. nat_le 6 (run-same w h to from turn xs ys turned Black d p on i)) in
          let fours : sum_by (λ d. fours_of rule (grid w h ys) Black d (to p)) axes
          ≡ sum_by (λ d. fours_of rule (grid w h xs) Black d p) axes = turn.sums (λ d. fours_of rule (grid w h ys) Black d (to p))
          ∙ ap (λ (f : Axis → ℕ). sum_by f axes) (λ i d. fours-same w h to from turn xs ys turned rule Black d p on i) in
          let threes : count_by (λ d. is_three rule (grid w h ys) d (to p) foul_there) axes ≡ count_by
          (λ d. is_three rule (grid w h xs) d p foul_at) axes = turn.sums (λ d. cond (is_three rule (grid w h ys) d (to p) foul_there) 1 0)
          ∙ ap (λ (f : Axis → ℕ). sum_by f axes) (λ i d. cond (three_of-same d i) 1 0) in
          λ i. first_foul (five_there i) (over i) (nat_le 2 (fours i)) (nat_le 2 (threes i))

-- the foul of a stone, by the empty points that are left
pub foul_within-same : (w h : ℕ) (to from : Point → Point) (turn : Turn w h to from) (n : ℕ) (xs ys : List Cell) → Turned w h to xs ys
    → (rule : RuleKind) (p : Point) → within w h p ≡ true → black_foul_within n rule (grid w h ys) (to p)
    ≡ black_foul_within n rule (grid w h xs) p
unfolding black_foul_within
foul_within-same w h to from turn zero xs ys turned rule p on = refl
foul_within-same w h to from turn (suc n) xs ys turned rule p on =
    let next = put-turned w h to from turn xs ys turned Black p on in
    stone_foul-same w h to from turn _ _ next rule p on (black_foul_within n rule (put (grid w h xs) Black p))
    (black_foul_within n rule (put (grid w h ys) Black (to p))) (λ q on_q. foul_within-same w h to from turn n _ _ next rule q on_q)

module _ (w h : ℕ) (to from : Point → Point) (turn : Turn w h to from) (xs ys : List Cell) (turned : Turned w h to xs ys) (rule : RuleKind)
    (p : Point)
    (on : within w h p ≡ true) where
  black_foul-same : black_foul rule (grid w h ys) (to p) ≡ black_foul rule (grid w h xs) p
  unfolding black_foul
  black_foul-same = search (rules, grid, empties-same, foul_within-same)

  pub foul-same : (s : Side) → foul_of rule (grid w h ys) s (to p) ≡ foul_of rule (grid w h xs) s p
  foul-same s = ap (λ (o : Option Foul). cond (has_fouls rule s) o None) black_foul-same

  pub outcome-same : outcome rule (grid w h ys) (to p) ≡ outcome rule (grid w h xs) p
  unfolding outcome
  outcome-same =
      let moves : mover (grid w h ys) ≡ mover (grid w h xs) = mover-same w h to from turn xs ys turned in
      ap (λ (s : Side). outcome_by (is_empty (grid w h ys) (to p)) (five rule (grid w h ys) s (to p)) (foul_of rule (grid w h ys) s (to p))
      (nat_eq (empties_of (grid w h ys)) 1)) moves ∙ (λ i. outcome_by (empty-same w h to from turn xs ys turned p on i)
      (five-same w h to from turn xs ys turned rule (mover (grid w h xs)) p on i)
      (foul-same (mover (grid w h xs)) i) (nat_eq (empties-same w h to from turn xs ys turned i) 1))

  -- after the move on a point and that on its image
  pub after-turned : Turned w h to (after (grid w h xs) p).cells (after (grid w h ys) (to p)).cells
  after-turned =
      let put_turned = put-turned w h to from turn xs ys turned (mover (grid w h xs)) p on in
      record {
        board = put_turned.board;
        image = rw (mover-same w h to from turn xs ys turned) put_turned.image;
        cells = rw (mover-same w h to from turn xs ys turned) put_turned.cells;
      }
