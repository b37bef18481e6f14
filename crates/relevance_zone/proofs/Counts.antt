-- How many stones stand in a window: what one more changes, and which window a run of five fills.
use Rattle.std.proofs.Common.{◌≡◌, inl, inr, ℕ, zero, suc, ◌+◌, ◌-◌, ◌≤◌, ◌<◌, Bool, true, false, cond, List, [], ◌∷◌, refl, ap, ◌∙◌, arith}
use Rattle.std.proofs.Common.{Option, Some, None, count_by, rules}
use Rattle.std.specs.List.{range_with_len}
use Rattle.std.proofs.lemmas.Bool.{both_ways, cases_lt, false_from_ne_true}
use Rattle.std.proofs.lemmas.List.Sums.{sum_by-cons}
use Rattle.relevance_zone.proofs.Common.{Grid, IsBoard, is_empty, put, other, Side, Point, stones_in, is_in_window}
use Rattle.game_rules.proofs.Common.{is_on, holds, along, is_at, stone_at, stones_ahead, stones_behind}
use Rattle.game_rules.specs.declared.Axis.{Axis}
use Rattle.game_rules.proofs.Boards.{and_left, is_empty-on, same_or_apart, empty_holds, holds-put_other, holds-put_same, stone_of-other}
use Rattle.game_rules.proofs.Lines.{along-steps, along-then, along-same, along-zero}
use Rattle.game_rules.proofs.Points.{is_at-Some, is_same_point-itself, apart-is_same_point}
use Rattle.game_rules.proofs.Positions.{stone_at-other}
use Rattle.game_rules.proofs.Rows.{any_found}
use Rattle.game_rules.proofs.Runs.{ahead_leads, behind_leads}

-- ---- counts over a range

-- what a number at which a test answers so adds to a count
abbrev mark : Bool → ℕ
mark r = cond r 1 0

pub count_all : (f : ℕ → Bool) (n a : ℕ) → ((k : ℕ) → a ≤ k → k < a + n → f k ≡ true) → count_by f (range_with_len a n) ≡ n
count_all f zero a h = refl
count_all f (suc n) a h =
    let step = sum_by-cons (λ k. mark (f k)) a (range_with_len (a + 1) n) in
    let here : mark (f a) ≡ 1 = ap mark (h a (omega arith) (omega arith)) in
    let rest = count_all f n (a + 1) (λ k low high. h k (omega arith) (omega arith)) in
    omega (arith, step, here, rest)

count_none : (f : ℕ → Bool) (n a : ℕ) → ((k : ℕ) → a ≤ k → k < a + n → f k ≡ false) → count_by f (range_with_len a n) ≡ 0
count_none f zero a h = refl
count_none f (suc n) a h =
    let step = sum_by-cons (λ k. mark (f k)) a (range_with_len (a + 1) n) in
    let here : mark (f a) ≡ 0 = ap mark (h a (omega arith) (omega arith)) in
    let rest = count_none f n (a + 1) (λ k low high. h k (omega arith) (omega arith)) in
    omega (arith, step, here, rest)

-- a test that holds at one number at most
count_one : (f : ℕ → Bool) (n a : ℕ) → ((j k : ℕ) → f j ≡ true → f k ≡ true → j ≡ k) → count_by f (range_with_len a n) ≤ 1
count_one f zero a once = omega arith
count_one f (suc n) a once = by_test (f a) refl (count_one f n (a + 1) once) where
  by_test : (r : Bool) → f a ≡ r → count_by f (range_with_len (a + 1) n) ≤ 1 → count_by f (range_with_len a (suc n)) ≤ 1
  by_test true e later =
      let step = sum_by-cons (λ k. mark (f k)) a (range_with_len (a + 1) n) in
      let here : mark (f a) ≡ 1 = ap mark e in
      let rest = count_none f n (a + 1) (λ k low high. false_from_ne_true (f k) (λ g. let same = once a k e g in absurd (omega arith))) in
      omega (arith, step, here, rest)
  by_test false e later =
      let step = sum_by-cons (λ k. mark (f k)) a (range_with_len (a + 1) n) in
      let here : mark (f a) ≡ 0 = ap mark e in
      omega (arith, step, here, later)

count_sum : (f g h : ℕ → Bool) → ((k : ℕ) → mark (f k) ≡ mark (g k) + mark (h k)) → (ks : List ℕ)
    → count_by f ks ≡ count_by g ks + count_by h ks
count_sum f g h each [] = refl
count_sum f g h each (k ∷ ks) = search (rules, sum_by-cons, count_sum f g h each ks)

-- ---- one more stone

-- how often the window comes to q: once where q is in it, and else never
unfoldable pub visits : Point → Axis → Point → ℕ
visits q d p = count_by (λ k. is_at q (along d p k 0)) (range_with_len 0 5)

pub visits-once : (q : Point) (d : Axis) (p : Point) → visits q d p ≤ 1
unfolding visits
visits-once q d p = count_one (λ k. is_at q (along d p k 0)) 5 0
    (λ j k e f. let same = along-steps d p q j 0 k 0 (is_at-Some q _ e) (is_at-Some q _ f) in omega (arith, same))

pub visits-never : (q : Point) (d : Axis) (p : Point) → is_in_window q d p ≡ false → visits q d p ≡ 0
unfolding visits is_in_window
visits-never q d p out = search (rules, count_none, false_from_ne_true, both_ways, any_found)

module _ (b : Grid) (s : Side) (q : Point) (ok : IsBoard b) (empty : is_empty b q ≡ true) where
  stone_here : (o : Option Point) → mark (stone_at (put b s q) s o) ≡ mark (stone_at b s o) + mark (is_at q o)
  stone_here o =
      search (rules, same_or_apart, holds-put_same, is_empty-on, empty_holds, is_same_point-itself, holds-put_other, apart-is_same_point)

  -- a stone of the side is one more where its point is in the window
  pub stones_in-put : (d : Axis) (p : Point) → stones_in (put b s q) s d p ≡ stones_in b s d p + visits q d p
  unfolding stones_in visits
  stones_in-put d p = count_sum _ _ _ (λ k. stone_here (along d p k 0)) (range_with_len 0 5)

  -- and changes nothing of the other side's
  pub stones_in-other : (d : Axis) (p : Point) → stones_in (put b s q) (other s) d p ≡ stones_in b (other s) d p
  unfolding stones_in
  stones_in-other d p = search (rules, stone_at-other, stone_of-other)

-- ---- a run of five or more

module _ (b : Grid) (s : Side) (d : Axis) (q : Point) (mine : holds b s q ≡ true) where
  on : is_on b q ≡ true
  on = and_left (is_on b q) _ mine

  -- the run holds a stone at each place that it reaches
  reached : (x y : ℕ) → x ≤ y + stones_ahead b s d q → y ≤ x + stones_behind b s d q → stone_at b s (along d q x y) ≡ true
  reached x y far near = elim (cases_lt y x) [
    | inl past ↦ ap (stone_at b s) (along-same d q x y (x - y) 0 (omega arith))
        ∙ (ahead_leads b s d q on).holds (x - y) (omega arith) (omega arith)
    | inr before ↦ elim (cases_lt x y) [
      | inl short ↦ ap (stone_at b s) (along-same d q x y 0 (y - x) (omega arith))
          ∙ (behind_leads b s d q on).holds (y - x) (omega arith) (omega arith)
      | inr same ↦ ap (stone_at b s) (along-same d q x y 0 0 (omega arith) ∙ along-zero d q) ∙ mine
    ]
  ]

  from : (z : ℕ) → z ≤ stones_behind b s d q → 4 ≤ z + stones_ahead b s d q
      → (p : Point) × ((k : ℕ) → k < 5 → stone_at b s (along d p k 0) ≡ true)
  from z low high = by_point (along d q 0 z) refl (reached 0 z (omega arith) (omega arith)) where
    by_point : (o : Option Point) → along d q 0 z ≡ o → stone_at b s o ≡ true
        → (p : Point) × ((k : ℕ) → k < 5 → stone_at b s (along d p k 0) ≡ true)
    by_point None e h = cc
    by_point (Some p) e h = (p, λ k l. ap (stone_at b s) (along-then d q p 0 z k 0 e) ∙ reached (0 + k) (z + 0) (omega arith) (omega arith))

  -- a run of five or more fills a window
  pub filled : 5 ≤ 1 + stones_ahead b s d q + stones_behind b s d q → (p : Point) × ((k : ℕ) → k < 5 → stone_at b s (along d p k 0) ≡ true)
  filled long = elim (cases_lt (stones_behind b s d q) 4) [
    | inl few ↦ from (stones_behind b s d q) (omega arith) (omega arith)
    | inr many ↦ from 4 (omega arith) (omega arith)
  ]
