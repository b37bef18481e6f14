-- A board and what a turn makes of it: fours, straight fours, three points.
use Rattle.std.proofs.Common.{◌≡◌, inl, inr, ℕ, zero, suc, ◌+◌, ◌-◌, ◌≤◌, Bool, true, ◌&&◌, not, nat_eq, refl, sym, ap, subst, ◌∙◌, arith}
use Rattle.std.proofs.Common.{List, Some, rules}
use Rattle.std.specs.Cmp.{both_ways}
use Rattle.std.specs.List.{list_any, range_with_len}
use Rattle.std.proofs.lemmas.Bool.{or_left, or_right, or_cases}
use Rattle.board_symmetry.proofs.Common.{Grid, is_empty, put, run_of, five, go, opposite, Cell, Side, Axis, Point, RuleKind, Way, Ahead}
use Rattle.board_symmetry.proofs.Common.{Behind}
use Rattle.game_rules.proofs.Common.{along, count_fours, place_stone, place_wins, stone_at, stones_ahead, stones_behind, wins_at, fours_of}
use Rattle.game_rules.proofs.Common.{is_straight, is_at, is_in_run, gives_straight, is_three_point, stones_towards, run_end}
use Rattle.game_rules.proofs.Rows.{any_found, any_in_range}
use Rattle.game_rules.proofs.Points.{is_at-here, is_at-Some}
use Rattle.game_rules.proofs.Lines.{along-same}
use Rattle.board_symmetry.proofs.Turns.{Turn, within}
use Rattle.board_symmetry.proofs.Alike.{grid, Turned, empty-same, stone-same, towards-same, run-same, wins_at-same, five-same, put-turned}
use Rattle.board_symmetry.proofs.MirroredFours.{count_fours-back}

-- ---- the run through a point, from either way

-- q is in the run through p: so many steps away in one way, and not past the stones there
abbrev InRun : Grid → Side → Axis → Point → Point → Type 0
InRun b s d p q = (v : Way) × (k : ℕ) × (k ≤ stones_towards v b s d p) × (go v d p k 0 ≡ Some q)

in_run-InRun : (b : Grid) (s : Side) (d : Axis) (p q : Point) → is_in_run b s d p q ≡ true → InRun b s d p q
in_run-InRun b s d p q h = elim (or_cases (list_any (λ k. is_at q (along d p k 0)) (range_with_len 0 (1 + stones_ahead b s d p))) _ h) [
  | inl ahead ↦
      let found = any_in_range (λ k. is_at q (along d p k 0)) (1 + stones_ahead b s d p) 0 ahead in
      (Ahead, found.0, (let far = found.2 in omega (arith, far)), is_at-Some q _ found.3)
  | inr behind ↦
      let found = any_in_range (λ k. is_at q (along d p 0 k)) (stones_behind b s d p) 1 behind in
      (Behind, found.0, (let far = found.2 in omega (arith, far)), is_at-Some q _ found.3)
]

InRun-in_run : (b : Grid) (s : Side) (d : Axis) (p q : Point) → InRun b s d p q → is_in_run b s d p q ≡ true
InRun-in_run b s d p q (Ahead, k, far, here) =
    or_left (list_any (λ k. is_at q (along d p k 0)) (range_with_len 0 (1 + stones_ahead b s d p))) _
    (any_found (λ k. is_at q (along d p k 0)) (1 + stones_ahead b s d p) 0 k (omega arith) (omega arith) (is_at-here q _ here))
InRun-in_run b s d p q (Behind, zero, far, here) =
    or_left (list_any (λ k. is_at q (along d p k 0)) (range_with_len 0 (1 + stones_ahead b s d p))) _
    (any_found (λ k. is_at q (along d p k 0)) (1 + stones_ahead b s d p) 0 0 (omega arith) (omega arith) (is_at-here q _ here))
InRun-in_run b s d p q (Behind, suc k, far, here) =
    or_right (list_any (λ k. is_at q (along d p k 0)) (range_with_len 0 (1 + stones_ahead b s d p))) _
    (any_found (λ k. is_at q (along d p 0 k)) (stones_behind b s d p) 1 (suc k) (omega arith) (omega arith) (is_at-here q _ here))

and-turned : (r a b : Bool) → ((r && a) && b) ≡ ((r && b) && a)
and-turned r a b = search rules

module _ (w h : ℕ) (to from : Point → Point) (turn : Turn w h to from) where
  -- each way is that of one of the two ways
  way-onto : (d : Axis) (u : Way) → (v : Way) × (turn.way d v ≡ u)
  way-onto d u = by_way (turn.way d Ahead) refl (turn.way d Behind) refl (turn.ways d Ahead) u where
    by_way : (a : Way) → turn.way d Ahead ≡ a
        → (c : Way) → turn.way d Behind ≡ c → turn.way d Behind ≡ opposite (turn.way d Ahead) → (u : Way) → (v : Way) × (turn.way d v ≡ u)
    by_way Ahead e c f o Ahead = (Ahead, e)
    by_way Behind e c f o Behind = (Ahead, e)
    by_way Ahead e c f o Behind = (Behind, o ∙ ap opposite e)
    by_way Behind e c f o Ahead = (Behind, o ∙ ap opposite e)

  module _ (xs ys : List Cell) (turned : Turned w h to xs ys) where
    -- ---- fours

    pub fours-same : (rule : RuleKind) (s : Side) (d : Axis) (p : Point) → within w h p ≡ true
        → fours_of rule (grid w h ys) s (turn.axis d) (to p) ≡ fours_of rule (grid w h xs) s d p
    unfolding fours_of
    fours-same rule s d p on = by_way (turn.way d Ahead) refl where
      by_way : (v : Way) → turn.way d Ahead ≡ v
          → count_fours (place_stone (grid w h ys) s (turn.axis d) (to p)) (place_wins rule (grid w h ys) s (turn.axis d) (to p))
          ≡ count_fours (place_stone (grid w h xs) s d p) (place_wins rule (grid w h xs) s d p)
      by_way Ahead e =
          let stones : place_stone (grid w h ys) s (turn.axis d) (to p) ≡ place_stone (grid w h xs) s d p =
          λ j i. (ap (λ (v : Way). stone_at (grid w h ys) s (go v (turn.axis d) (to p) i 4)) (sym e)
          ∙ stone-same w h to from turn xs ys turned s Ahead d p i 4 on) j in
          let wins : place_wins rule (grid w h ys) s (turn.axis d) (to p) ≡ place_wins rule (grid w h xs) s d p =
          λ j i. (ap (λ (v : Way). wins_at rule (grid w h ys) s (turn.axis d) (go v (turn.axis d) (to p) i 4)) (sym e)
          ∙ wins_at-same w h to from turn xs ys turned rule s Ahead d p i 4 on) j in
          ap (λ (f : ℕ → Bool). count_fours f (place_wins rule (grid w h ys) s (turn.axis d) (to p))) stones
          ∙ ap (λ (f : ℕ → Bool). count_fours (place_stone (grid w h xs) s d p) f) wins
      by_way Behind e = count_fours-back (place_stone (grid w h xs) s d p) (place_wins rule (grid w h xs) s d p) _ _
          (λ i low. ap (stone_at (grid w h ys) s) (along-same (turn.axis d) (to p) i 4 4 (8 - i) (omega arith))
          ∙ ap (λ (v : Way). stone_at (grid w h ys) s (go v (turn.axis d) (to p) (8 - i) 4)) (sym e)
          ∙ stone-same w h to from turn xs ys turned s Ahead d p (8 - i) 4 on)
          (λ i low. ap (wins_at rule (grid w h ys) s (turn.axis d)) (along-same (turn.axis d) (to p) i 4 4 (8 - i) (omega arith))
          ∙ ap (λ (v : Way). wins_at rule (grid w h ys) s (turn.axis d) (go v (turn.axis d) (to p) (8 - i) 4)) (sym e)
          ∙ wins_at-same w h to from turn xs ys turned rule s Ahead d p (8 - i) 4 on)

    -- ---- straight fours

    end-same : (rule : RuleKind) (s : Side) (v : Way) (d : Axis) (p : Point) → within w h p ≡ true
        → wins_at rule (grid w h ys) s (turn.axis d) (run_end (grid w h ys) s (turn.axis d) (turn.way d v) (to p))
        ≡ wins_at rule (grid w h xs) s d (run_end (grid w h xs) s d v p)
    end-same rule s v d p on = ap (λ n. wins_at rule (grid w h ys) s (turn.axis d) (go (turn.way d v) (turn.axis d) (to p) (1 + n) 0))
        (towards-same w h to from turn xs ys turned s v d p on)
        ∙ wins_at-same w h to from turn xs ys turned rule s v d p (1 + stones_towards v (grid w h xs) s d p) 0 on

    pub straight-same : (rule : RuleKind) (s : Side) (d : Axis) (p : Point) → within w h p ≡ true
        → is_straight rule (grid w h ys) s (turn.axis d) (to p) ≡ is_straight rule (grid w h xs) s d p
    unfolding is_straight
    straight-same rule s d p on =
        ap (λ n. (nat_eq n 4 && end_there Ahead) && end_there Behind) (run-same w h to from turn xs ys turned s d p on) ∙ by_way
        (turn.way d Ahead) (turn.way d Behind) (turn.ways d Ahead) (end-same rule s Ahead d p on) (end-same rule s Behind d p on) where
          end_there : Way → Bool
          end_there v = wins_at rule (grid w h ys) s (turn.axis d) (run_end (grid w h ys) s (turn.axis d) v (to p))

          end_here : Way → Bool
          end_here v = wins_at rule (grid w h xs) s d (run_end (grid w h xs) s d v p)

          by_way : (v u : Way) → u ≡ opposite v
              → wins_at rule (grid w h ys) s (turn.axis d) (run_end (grid w h ys) s (turn.axis d) v (to p))
              ≡ wins_at rule (grid w h xs) s d (run_end (grid w h xs) s d Ahead p)
              → wins_at rule (grid w h ys) s (turn.axis d) (run_end (grid w h ys) s (turn.axis d) u (to p))
              ≡ wins_at rule (grid w h xs) s d (run_end (grid w h xs) s d Behind p)
              → ((nat_eq (run_of (grid w h xs) s d p) 4 && end_there Ahead) && end_there Behind)
              ≡ ((nat_eq (run_of (grid w h xs) s d p) 4 && end_here Ahead) && end_here Behind)
          by_way Ahead Ahead e f g = cc
          by_way Ahead Behind e f g = ap (λ r. (nat_eq (run_of (grid w h xs) s d p) 4 && r) && end_there Behind) f
              ∙ ap (λ r. (nat_eq (run_of (grid w h xs) s d p) 4 && end_here Ahead) && r) g
          by_way Behind Ahead e f g = ap (λ r. (nat_eq (run_of (grid w h xs) s d p) 4 && r) && end_there Behind) g
              ∙ ap (λ r. (nat_eq (run_of (grid w h xs) s d p) 4 && end_here Behind) && r) f
              ∙ and-turned (nat_eq (run_of (grid w h xs) s d p) 4) (end_here Behind) (end_here Ahead)
          by_way Behind Behind e f g = cc

    -- ---- three points

    pub in_run-same : (s : Side) (d : Axis) (p q : Point) → within w h p ≡ true → within w h q ≡ true
        → is_in_run (grid w h ys) s (turn.axis d) (to p) (to q) ≡ is_in_run (grid w h xs) s d p q
    in_run-same s d p q on on_q = both_ways _ _ there here where
      here : is_in_run (grid w h xs) s d p q ≡ true → is_in_run (grid w h ys) s (turn.axis d) (to p) (to q) ≡ true
      here e =
          let r = in_run-InRun (grid w h xs) s d p q e in
          InRun-in_run (grid w h ys) s (turn.axis d) (to p) (to q) (
            turn.way d r.0,
            r.1,
            subst (λ n. r.1 ≤ n) (sym (towards-same w h to from turn xs ys turned s r.0 d p on)) r.2,
            turn.steps r.0 d p q r.1 0 on on_q r.3,
          )

      back : (v u : Way) → turn.way d v ≡ u → (k : ℕ) → k ≤ stones_towards u (grid w h ys) s (turn.axis d) (to p)
          → go u (turn.axis d) (to p) k 0 ≡ Some (to q) → is_in_run (grid w h xs) s d p q ≡ true
      back v u e k far at = InRun-in_run (grid w h xs) s d p q (
        v,
        k,
        subst (λ n. k ≤ n) (ap (λ (z : Way). stones_towards z (grid w h ys) s (turn.axis d) (to p)) (sym e)
            ∙ towards-same w h to from turn xs ys turned s v d p on) far,
        turn.back v d p q k 0 on on_q (ap (λ (z : Way). go z (turn.axis d) (to p) k 0) e ∙ at),
      )

      there : is_in_run (grid w h ys) s (turn.axis d) (to p) (to q) ≡ true → is_in_run (grid w h xs) s d p q ≡ true
      there e =
          let r = in_run-InRun (grid w h ys) s (turn.axis d) (to p) (to q) e in
          let v = way-onto d r.0 in
          back v.0 r.0 v.1 r.1 r.2 r.3

-- the same, with the stone on q too
module _ (w h : ℕ) (to from : Point → Point) (turn : Turn w h to from) (xs ys : List Cell) (turned : Turned w h to xs ys) where
  pub gives_straight-same : (rule : RuleKind) (s : Side) (d : Axis) (p q : Point) → within w h p ≡ true → within w h q ≡ true
      → gives_straight rule (grid w h ys) s (turn.axis d) (to p) (to q) ≡ gives_straight rule (grid w h xs) s d p q
  unfolding gives_straight
  gives_straight-same rule s d p q on on_q =
      let next = put-turned w h to from turn xs ys turned s q on_q in
      ap (λ r. r && is_in_run (put (grid w h ys) s (to q)) s (turn.axis d) (to p) (to q))
      (straight-same w h to from turn _ _ next rule s d p on)
      ∙ ap (λ r. is_straight rule (put (grid w h xs) s q) s d p && r) (in_run-same w h to from turn _ _ next s d p q on on_q)

  pub three-same : (rule : RuleKind) (s : Side) (d : Axis) (p q : Point) → within w h p ≡ true → within w h q ≡ true
      → is_three_point rule (grid w h ys) s (turn.axis d) (to p) (to q) ≡ is_three_point rule (grid w h xs) s d p q
  unfolding is_three_point
  three-same rule s d p q on on_q =
      ap (λ r. (r && not (five rule (grid w h ys) s (to q))) && gives_straight rule (grid w h ys) s (turn.axis d) (to p) (to q))
      (empty-same w h to from turn xs ys turned q on_q)
      ∙ ap (λ r. (is_empty (grid w h xs) q && not r) && gives_straight rule (grid w h ys) s (turn.axis d) (to p) (to q))
      (five-same w h to from turn xs ys turned rule s q on_q)
      ∙ ap (λ r. (is_empty (grid w h xs) q && not (five rule (grid w h xs) s q)) && r) (gives_straight-same rule s d p q on on_q)
