-- A stone changes the five points of its side at the ends of its runs alone: there its run joins what stands past the end.
use Rattle.std.proofs.Common.{rules, ◌≡◌, ◌≢◌, ◌⊎◌, inl, inr, ℕ, ◌+◌, ◌-◌, ◌≤◌, ◌<◌, true, false, ◌&&◌, refl, sym, ap, ◌∙◌, arith, Some}
use Rattle.std.specs.List.{list_any, range_with_len}
use Rattle.std.proofs.lemmas.Bool.{both_ways, cases_lt, or_left, or_right, or_cases}
use Rattle.game_rules.proofs.Common.{Grid, IsBoard, is_on, is_empty, holds, put, along, row_wins, stone_at, stones_ahead, stones_behind}
use Rattle.game_rules.proofs.Common.{wins_on, is_at, is_in_run, towards, go, opposite, stones_towards, run_end, RuleKind, Side, Axis, Way}
use Rattle.game_rules.proofs.Common.{Point, Ahead, Behind}
use Rattle.game_rules.proofs.Boards.{Apart, and_left, and-same, empty_holds, holds-put_same, is_empty-on, is_empty-put}
use Rattle.game_rules.proofs.Points.{is_at-here, is_at-Some}
use Rattle.game_rules.proofs.Positions.{IsBoard-put, is_at_or_not, stone_at-else, stone_at-more}
use Rattle.game_rules.proofs.Rows.{any_found, any_in_range}
use Rattle.game_rules.proofs.Ways.{go-then, go-same, go-zero, go-back, go-apart, go-opposite, else_at, leads, leads_is, leads_back}
use Rattle.game_rules.proofs.Ways.{leads_back_is, towards-put, least}
use Rattle.game_rules.proofs.Wins.{wins_on-stones}
use Rattle.game_rules.proofs.OneLine.{empty-before}

-- ---- where the ends are

-- and it is not the point of the stone
pub end_apart : (b : Grid) (s : Side) (p q : Point) (d : Axis) (w : Way) → run_end b s d w p ≡ Some q → Apart p q
end_apart b s p q d w h = go-apart w d p p q 0 0 (1 + stones_towards w b s d p) 0 (go-zero w d p) h (λ same. absurd (omega arith))

-- the ends of a run are the same whether the stone stands or not
pub end_same : (b : Grid) (s : Side) (p : Point) → is_on b p ≡ true → (d : Axis) (w : Way) → run_end (put b s p) s d w p ≡ run_end b s d w p
end_same b s p on d w = ap (λ k. towards w d p (1 + k)) (towards-put b s p on w d)

-- ---- a stone on the empty point p

module _ (b : Grid) (s : Side) (p : Point) (ok : IsBoard b) (empty : is_empty b p ≡ true) where
  on_p : is_on b p ≡ true
  on_p = is_empty-on b p empty

  module _ (q : Point) (on_q : is_on b q ≡ true) (bare : holds b s q ≡ false) (d : Axis) where
    abbrev far : Way → ℕ
    far v = 1 + stones_towards v b s d q

    -- where p is the first point past the stones next to q, q is the end of its run
    is_the_end : (v : Way) → run_end b s d v q ≡ Some p → run_end b s d (opposite v) p ≡ Some q
    is_the_end v there = ap (λ k. go (opposite v) d p (1 + k) 0) as_far ∙ go-opposite v d p (far v) 0 ∙ last where
      from : (k x y : ℕ) → far v + y ≡ x + k → go v d p 0 k ≡ go v d q x y
      from k x y h = go-then v d q p (far v) 0 0 k there ∙ go-same v d q (far v + 0) (0 + k) x y (omega arith)

      last : go v d p 0 (far v) ≡ Some q
      last = go-back v d q p (far v) there

      as_far : stones_towards (opposite v) b s d p ≡ stones_towards v b s d q
      as_far = leads_back_is b s d p on_p v (stones_towards v b s d q) (record {
        holds = λ j low high. ap (stone_at b s) (from j (far v - j) 0 (omega arith))
            ∙ (leads b s d q on_q v).holds (far v - j) (omega arith) (omega arith);
        stops = ap (stone_at b s) last ∙ bare;
      })

    -- where q is no end, as many stones stand next to it as before
    as_many : ((v : Way) → run_end b s d v p ≢ Some q) → (v : Way) → stones_towards v (put b s p) s d q ≡ stones_towards v b s d q
    as_many no_end v = leads_is (put b s p) s d q on_q v (stones_towards v b s d q) (record {
      holds = λ j low high. stone_at-more b s p ok empty (go v d q j 0) ((leads b s d q on_q v).holds j low high);
      stops = stone_at-else b s p ok empty s (run_end b s d v q) (λ e. no_end (opposite v) (is_the_end v e)) ∙ (leads b s d q on_q v).stops;
    })

  -- a point that is no end on the axis wins there as before
  pub wins_same : (rule : RuleKind) (q : Point) → Apart p q → (d : Axis) → ((v : Way) → is_empty b q ≡ true → run_end b s d v p ≢ Some q)
      → wins_on rule (put b s p) s d q ≡ wins_on rule b s d q
  wins_same rule q apart d no_end = wins_on-stones rule (put b s p) s d q (IsBoard-put b s p ok) ∙ ap
      (λ r. r && row_wins rule s (1 + stones_ahead (put b s p) s d q + stones_behind (put b s p) s d q)) (is_empty-put b s p q on_p apart)
      ∙ and-same (is_empty b q) _ _ (λ free. rw (many free Ahead, many free Behind) refl) ∙ sym (wins_on-stones rule b s d q ok) where
        many : is_empty b q ≡ true → (v : Way) → stones_towards v (put b s p) s d q ≡ stones_towards v b s d q
        many free = as_many q (is_empty-on b q free) (empty_holds b s q free) d (λ v. no_end v free)

  -- a point that wins and did not before is an end
  pub new_end : (rule : RuleKind) (d : Axis) (q : Point) → wins_on rule b s d q ≡ false → wins_on rule (put b s p) s d q ≡ true
      → (w : Way) × (run_end b s d w p ≡ Some q)
  new_end rule d q none wins = elim (is_at_or_not (run_end b s d Ahead p) q) [
    | inl here ↦ (Ahead, here)
    | inr not_ahead ↦ elim (is_at_or_not (run_end b s d Behind p) q) [
      | inl here ↦ (Behind, here)
      | inr not_behind ↦ absurd (both_ways _ none (sym (wins_same rule q apart d (λ v free. no_end not_ahead not_behind v)) ∙ wins))
    ]
  ] where
    apart : Apart p q
    apart = (empty-before b s p q ok on_p (and_left (is_empty (put b s p) q) _ wins)).0

    no_end : run_end b s d Ahead p ≢ Some q → run_end b s d Behind p ≢ Some q → (v : Way) → run_end b s d v p ≢ Some q
    no_end a z Ahead = a
    no_end a z Behind = z

-- ---- a stone on the empty end of a run

-- a point of the stones next to p, in either way, is in the run
in_run_towards : (b : Grid) (s : Side) (w : Way) (d : Axis) (p q : Point) (k : ℕ) → go w d p k 0 ≡ Some q → 1 ≤ k
    → k ≤ stones_towards w b s d p → is_in_run b s d p q ≡ true
in_run_towards b s Ahead d p q k here low high =
    or_left _ _ (any_found (λ j. is_at q (along d p j 0)) (1 + stones_ahead b s d p) 0 k (omega arith) (omega arith)
    (is_at-here q (along d p k 0) here))
in_run_towards b s Behind d p q k here low high = or_right _ _
    (any_found (λ j. is_at q (along d p 0 j)) (stones_behind b s d p) 1 k low (omega arith) (is_at-here q (along d p 0 k) here))

-- q is the end in that way of the run through the stone on p, and empty
module _ (b : Grid) (s : Side) (w : Way) (d : Axis) (p q : Point) (ok : IsBoard b) (mine : holds b s p ≡ true) (empty : is_empty b q ≡ true)
    (here : run_end b s d w p ≡ Some q) where
  filled_p : is_on b p ≡ true
  filled_p = and_left (is_on b p) _ mine

  filled_q : is_on b q ≡ true
  filled_q = is_empty-on b q empty

  abbrev near : ℕ
  near = stones_towards w b s d p

  abbrev more : ℕ
  more = stones_towards w b s d q

  from_q : (j : ℕ) → 1 + near ≤ j → go w d p j 0 ≡ go w d q (j - (1 + near)) 0
  from_q j low = go-same w d p j 0 (1 + near + (j - (1 + near))) (0 + 0) (omega arith)
      ∙ sym (go-then w d p q (1 + near) 0 (j - (1 + near)) 0 here)

  -- its stone joins the run to what stands past it
  pub end_joins : stones_towards w (put b s q) s d p ≡ 1 + near + more
  end_joins = leads_is (put b s q) s d p filled_p w (1 + near + more) (record { holds = inside; stops = stop }) where
    inside : (j : ℕ) → 1 ≤ j → j ≤ 1 + near + more → stone_at (put b s q) s (go w d p j 0) ≡ true
    inside j low high = elim (cases_lt near j) [
      | inr old ↦ stone_at-more b s q ok empty (go w d p j 0) ((leads b s d p filled_p w).holds j low old)
      | inl new ↦ elim (cases_lt (1 + near) j) [
        | inl past ↦ stone_at-more b s q ok empty (go w d p j 0) (ap (stone_at b s) (from_q j (omega arith))
            ∙ (leads b s d q filled_q w).holds (j - (1 + near)) (omega arith) (omega arith))
        | inr last ↦ ap (stone_at (put b s q) s) (go-same w d p j 0 (1 + near) 0 (omega arith) ∙ here) ∙ holds-put_same b s q ok filled_q
      ]
    ]

    stop : stone_at (put b s q) s (go w d p (1 + (1 + near + more)) 0) ≡ false
    stop = else_at b s w d p q (1 + near) 0 (1 + (1 + near + more)) 0 filled_q here (λ same. absurd (omega arith)) ∙ ap (stone_at b s)
        (from_q (1 + (1 + near + more)) (omega arith) ∙ go-same w d q (1 + (1 + near + more) - (1 + near)) 0 (1 + more) 0 (omega arith))
        ∙ (leads b s d q filled_q w).stops

  -- and leaves what stands in the other way
  pub end_leaves : stones_towards (opposite w) (put b s q) s d p ≡ stones_towards (opposite w) b s d p
  end_leaves = leads_back_is (put b s q) s d p filled_p w _ (record {
    holds = λ j low high. same j ∙ (leads_back b s d p filled_p w).holds j low high;
    stops = same (1 + stones_towards (opposite w) b s d p) ∙ (leads_back b s d p filled_p w).stops;
  }) where
    same : (j : ℕ) → stone_at (put b s q) s (go w d p 0 j) ≡ stone_at b s (go w d p 0 j)
    same j = else_at b s w d p q (1 + near) 0 0 j filled_q here (λ same. absurd (omega arith))

  pub end_in_run : is_in_run (put b s q) s d p q ≡ true
  end_in_run = in_run_towards (put b s q) s w d p q (1 + near) here (omega arith) (let joined = end_joins in omega (arith, joined))

-- an empty point of the run that its stone gives is an end
module _ (b : Grid) (s : Side) (d : Axis) (p q : Point) (ok : IsBoard b) (mine : holds b s p ≡ true) (empty : is_empty b q ≡ true) where
  stone_on : is_on b p ≡ true
  stone_on = and_left (is_on b p) _ mine

  first_in : (w : Way) (k : ℕ) → go w d p k 0 ≡ Some q → k ≤ stones_towards w (put b s q) s d p → run_end b s d w p ≡ Some q
  first_in w k here high = go-same w d p (1 + stones_towards w b s d p) 0 k 0 (omega (arith, steps)) ∙ here where
    steps : k ≡ 1 + stones_towards w b s d p
    steps = elim (cases_lt (stones_towards w b s d p) k) [
      | inr inside ↦ absurd (both_ways _ (empty_holds b s q empty) (ap (stone_at b s) (sym here) ∙ stands k inside (cases_lt 0 k)))
      | inl past ↦ elim (cases_lt (1 + stones_towards w b s d p) k) [
        | inl beyond ↦ absurd (both_ways _ (leads b s d p stone_on w).stops
            (sym (else_at b s w d p q k 0 (1 + stones_towards w b s d p) 0 (is_empty-on b q empty) here (λ same. absurd (omega arith)))
            ∙ (leads (put b s q) s d p stone_on w).holds (1 + stones_towards w b s d p) (omega arith) (omega arith)))
        | inr not_beyond ↦ omega arith
      ]
    ] where
      stands : (k : ℕ) → k ≤ stones_towards w b s d p → (0 < k) ⊎ (k ≤ 0) → stone_at b s (go w d p k 0) ≡ true
      stands k inside (inl some) = (leads b s d p stone_on w).holds k some inside
      stands k inside (inr none) = ap (stone_at b s) (go-same w d p k 0 0 0 (omega arith) ∙ go-zero w d p) ∙ mine

  pub in_run-end : is_in_run (put b s q) s d p q ≡ true → (w : Way) × (run_end b s d w p ≡ Some q)
  in_run-end h = elim (or_cases (list_any (λ k. is_at q (along d p k 0)) (range_with_len 0 (1 + stones_ahead (put b s q) s d p))) _ h) [
    | inl ahead ↦
        let k = any_in_range (λ k. is_at q (along d p k 0)) (1 + stones_ahead (put b s q) s d p) 0 ahead in
        let high = k.2 in
        (Ahead, first_in Ahead k.0 (is_at-Some q (along d p k.0 0) k.3) (omega (arith, high)))
    | inr behind ↦
        let k = any_in_range (λ k. is_at q (along d p 0 k)) (stones_behind (put b s q) s d p) 1 behind in
        let high = k.2 in
        (Behind, first_in Behind k.0 (is_at-Some q (along d p 0 k.0) k.3) (omega (arith, high)))
  ]

module _ (b : Grid) (s : Side) (d : Axis) (x : Point) (on : is_on b x ≡ true) (w : Way) (m : ℕ)
    (all : (j : ℕ) → 1 ≤ j → j ≤ m → stone_at b s (go w d x j 0) ≡ true) where
  pub just_stones : stone_at b s (go w d x (1 + m) 0) ≡ false → stones_towards w b s d x ≡ m
  just_stones stop = leads_is b s d x on w m (record { holds = all; stops = stop })

  more_at : stone_at b s (go w d x (1 + m) 0) ≡ true → (j : ℕ) → 1 ≤ j → j ≤ 1 + m → stone_at b s (go w d x j 0) ≡ true
  more_at stone j low high = search (rules, cases_lt)

  pub more_stones : stone_at b s (go w d x (1 + m) 0) ≡ true → m < stones_towards w b s d x
  more_stones stone = let far = least b s d x on w (1 + m) (more_at stone) in omega (arith, far)
