-- Lines that look the same within reach: what a stone makes on them is the same.
use Rattle.std.proofs.Common.{◌≡◌, ◌≢◌, inl, inr, ℕ, ◌+◌, ◌-◌, ◌≤◌, ◌<◌, min, Bool, true, false, cond}
use Rattle.std.proofs.Common.{◌&&◌, ◌||◌, not, refl, sym, ap, ◌∙◌, arith, nat_eq, nat_le, ◌^◌, Option, Some, None, bit_or}
use Rattle.std.proofs.Common.{sum_by}
use Rattle.std.specs.Int.{bit_at}
use Rattle.std.specs.List.{range_with_len}
use Rattle.std.proofs.lemmas.Bool.{cases_lt}
use Rattle.game_rules.proofs.Common.{Grid, IsBoard, is_on, is_empty, holds, along, row_wins, stone_at, run_of, wins_on, wins_at}
use Rattle.game_rules.proofs.Common.{is_straight, is_line_three_at, towards, opposite, stones_towards, go, run_end}
use Rattle.game_rules.specs.declared.RuleKind.{RuleKind}
use Rattle.game_rules.specs.declared.Side.{Side}
use Rattle.game_rules.specs.declared.Axis.{Axis}
use Rattle.game_rules.specs.declared.Point.{Point}
use Rattle.game_rules.specs.declared.Way.{Way}
use Rattle.game_rules.specs.declared.RuleKind.TheVariants.{Freestyle, Exact, Renju}
use Rattle.game_rules.specs.declared.Side.TheVariants.{Black, White}
use Rattle.game_rules.specs.declared.Way.TheVariants.{Ahead, Behind}
use Rattle.game_rules.proofs.Boards.{and_left, and-same, is_empty-on}
use Rattle.game_rules.proofs.Runs.{Leads}
use Rattle.game_rules.proofs.Ways.{go-then, go-same, leads, run_before_end}
use Rattle.game_rules.proofs.Wins.{wins_on-ways}
use Rattle.game_rules.proofs.Threes.{straight_towards, taken_three}
use Rattle.game_rules.proofs.Tests.{le_true, le_false, eq_true, eq_false, eq_from}
use Rattle.game_rules.proofs.Fives.{wins-line_by}
use Rattle.row_shapes.proofs.Common.{reach_of, rule_of_reach, three_bits, stones_past, free_at, wins_past, is_open_four, three_place}
use Rattle.row_shapes.proofs.Common.{bit_of}
use Rattle.row_shapes.proofs.ThreePoints.{three_at, no_place, three_bits as three_bits-at}

-- ---- tests that agree up to some number

shorter : (f g : ℕ → Bool) (m n r : ℕ) → Leads f m → Leads g n → ((k : ℕ) → 1 ≤ k → k ≤ r → f k ≡ g k) → m < n → r ≤ m
shorter f g m n r lf lg same less = elim (cases_lt m r) [
  | inl near ↦ absurd (let differ : false ≡ true = sym lf.stops ∙ same (1 + m) (omega arith) (omega arith)
      ∙ lg.holds (1 + m) (omega arith) (omega arith) in cc)
  | inr far ↦ far
]

-- they lead as far, or both past that number
pub leads_alike : (f g : ℕ → Bool) (m n r : ℕ) → Leads f m → Leads g n → ((k : ℕ) → 1 ≤ k → k ≤ r → f k ≡ g k) → min r m ≡ min r n
leads_alike f g m n r lf lg same = elim (cases_lt m n) [
  | inl less ↦ let far = shorter f g m n r lf lg same less in omega (arith, far)
  | inr more ↦ elim (cases_lt n m) [
    | inl again ↦ let far = shorter g f n m r lg lf (λ k low high. sym (same k low high)) again in omega (arith, far)
    | inr equal ↦ omega arith
  ]
]

-- ---- runs that win

-- whether a run of this length wins for a side whose shapes have that reach
abbrev pub wins_by : ℕ → ℕ → Bool
wins_by r n = cond (nat_eq r 4) (nat_le 5 n) (nat_eq n 5)

pub wins-reach : (rule : RuleKind) (s : Side) (n : ℕ) → row_wins rule s n ≡ wins_by (reach_of rule s) n
wins-reach Freestyle s n = refl
wins-reach Exact s n = refl
wins-reach Renju Black n = refl
wins-reach Renju White n = refl

pub wins-line : (r n : ℕ) → row_wins (rule_of_reach r) Black n ≡ wins_by r n
wins-line r n = wins-line_by (nat_eq r 4) n

pub le_same : (c x y : ℕ) → min c x ≡ min c y → nat_le c x ≡ nat_le c y
le_same c x y e = elim (cases_lt x c) [
  | inl less ↦ le_false c x less ∙ sym (le_false c y (omega arith))
  | inr more ↦ le_true c x more ∙ sym (le_true c y (omega arith))
]

eq_same : (c x y : ℕ) → min (c + 1) x ≡ min (c + 1) y → nat_eq x c ≡ nat_eq y c
eq_same c x y e = elim (cases_lt x c) [
  | inl less ↦ eq_false x c (λ f. absurd (omega arith)) ∙ sym (eq_false y c (λ f. absurd (omega arith)))
  | inr more ↦ elim (cases_lt c x) [
    | inl past ↦ eq_false x c (λ f. absurd (omega arith)) ∙ sym (eq_false y c (λ f. absurd (omega arith)))
    | inr equal ↦ eq_true x c (omega arith) ∙ sym (eq_true y c (omega arith))
  ]
]

wins_same_by : (t : Bool) (x y : ℕ) → (t ≡ true → min 5 x ≡ min 5 y) → (t ≡ false → min 6 x ≡ min 6 y)
    → cond t (nat_le 5 x) (nat_eq x 5) ≡ cond t (nat_le 5 y) (nat_eq y 5)
wins_same_by true x y four five = le_same 5 x y (four refl)
wins_same_by false x y four five = eq_same 5 x y (five refl)

-- what wins is decided by so many stones
pub wins_same : (r x y : ℕ) → 4 ≤ r → r ≤ 5 → min (r + 1) x ≡ min (r + 1) y → wins_by r x ≡ wins_by r y
wins_same r x y low high e = wins_same_by (nat_eq r 4) x y
    (λ t. let four = eq_from r 4 t in omega (arith, four))
    (λ t. let five : r ≢ 4 = λ f. (let differ : true ≡ false = sym (eq_true r 4 f) ∙ t in cc) in omega arith)

-- ---- one line

past_by : (t next : Bool) (m : ℕ) → (m ≡ 0 → next ≡ false) → (0 < m → next ≡ true)
    → cond t (nat_le 5 (5 + m)) (nat_eq (5 + m) 5) ≡ (t || not next)
past_by true next m none some = le_true 5 (5 + m) (omega arith)
past_by false next m none some = elim (cases_lt 0 m) [
  | inl more ↦ rw (some more) (eq_false (5 + m) 5 (λ f. absurd (omega arith)))
  | inr less ↦ let zero : m ≡ 0 = omega arith in rw (none zero) (eq_true (5 + m) 5 (omega arith))
]

module _ (r : ℕ) (rule : RuleKind) (b : Grid) (s : Side) (d : Axis) (p : Point) (ok : IsBoard b) (mine : holds b s p ≡ true)
    (reads : (n : ℕ) → row_wins rule s n ≡ wins_by r n) where
  on : is_on b p ≡ true
  on = and_left (is_on b p) _ mine

  past_point : (w : Way) (k : ℕ) (q : Point) (t : Bool) → go w d p k 0 ≡ Some q → is_empty b q ≡ t
      → (is_empty b q && row_wins rule s (5 + stones_towards w b s d q))
      ≡ (is_empty b q && (nat_eq r 4 || not (stone_at b s (go w d p (1 + k) 0))))
  past_point w k q false here e = rw e refl
  past_point w k q true here e =
      let on_q : is_on b q ≡ true = is_empty-on b q e in
      let lead = leads b s d q on_q w in
      let place : go w d q 1 0 ≡ go w d p (1 + k) 0 = go-then w d p q k 0 1 0 here
      ∙ go-same w d p (k + 1) (0 + 0) (1 + k) 0 (omega arith) in
      let next : stone_at b s (go w d q 1 0) ≡ stone_at b s (go w d p (1 + k) 0) = ap (stone_at b s) place in
      let m : ℕ = stones_towards w b s d q in
      let value : row_wins rule s (5 + m) ≡ (nat_eq r 4 || not (stone_at b s (go w d p (1 + k) 0))) =
      reads (5 + m) ∙ past_by (nat_eq r 4) _ m
      (λ zero. sym next ∙ (let stop : stone_at b s (go w d q (1 + m) 0) ≡ false = lead.stops in rw zero at stop))
      (λ some. sym next ∙ lead.holds 1 (omega arith) (omega arith)) in
      rw (e, value) refl

  -- a place next to four stones wins as its own cell and the next one decide
  pub past_value : (w : Way) (k : ℕ) → wins_past rule b s d w (towards w d p k)
      ≡ (free_at b (go w d p k 0) && (nat_eq r 4 || not (stone_at b s (go w d p (1 + k) 0))))
  past_value w k = by_point (go w d p k 0) refl where
    by_point : (o : Option Point) → go w d p k 0 ≡ o → wins_past rule b s d w o
        ≡ (free_at b o && (nat_eq r 4 || not (stone_at b s (go w d p (1 + k) 0))))
    by_point None h = refl
    by_point (Some q) h = past_point w k q (is_empty b q) h refl

  -- the end of a run of four
  end_point : (w : Way) (e : Point) → run_end b s d w p ≡ Some e → stones_towards w b s d p + stones_towards (opposite w) b s d p ≡ 3
      → wins_on rule b s d e ≡ (is_empty b e && row_wins rule s (5 + stones_towards w b s d e))
  end_point w e here four = wins_on-ways rule b s w d e ok
      ∙ and-same (is_empty b e) _ _ (λ free. ap (row_wins rule s) (five (is_empty-on b e free))) where
        five : is_on b e ≡ true → 1 + stones_towards w b s d e + stones_towards (opposite w) b s d e ≡ 5 + stones_towards w b s d e
        five on = let before = run_before_end b s w d p e mine here on in omega (arith, before, four)

  end_value : (w : Way) → stones_towards w b s d p + stones_towards (opposite w) b s d p ≡ 3
      → wins_at rule b s d (run_end b s d w p) ≡ wins_past rule b s d w (run_end b s d w p)
  end_value w four = by_point (run_end b s d w p) refl where
    by_point : (o : Option Point) → run_end b s d w p ≡ o → wins_at rule b s d o ≡ wins_past rule b s d w o
    by_point None h = refl
    by_point (Some e) h = end_point w e h four

  straight_by : (t : Bool) → nat_eq (stones_towards Ahead b s d p + stones_towards Behind b s d p) 3 ≡ t
      → is_straight rule b s d p ≡ is_open_four rule b s d p Ahead (stones_towards Ahead b s d p) (stones_towards Behind b s d p)
  straight_by false h = straight_towards rule b s Ahead d p mine ∙ rw h refl
  straight_by true h =
      let four = eq_from _ 3 h in
      straight_towards rule b s Ahead d p mine ∙ rw (end_value Ahead four, end_value Behind (omega (arith, four))) refl

  -- a straight four, by the ends of its run
  pub straight_value : is_straight rule b s d p ≡ is_open_four rule b s d p Ahead (stones_towards Ahead b s d p)
      (stones_towards Behind b s d p)
  straight_value = straight_by (nat_eq (stones_towards Ahead b s d p + stones_towards Behind b s d p) 3) refl

  -- a run through the stone
  pub run_value : run_of b s d p ≡ 1 + stones_towards Ahead b s d p + stones_towards Behind b s d p
  run_value = rw mine refl

-- ---- two lines

-- the two lines hold stones of their sides, and empty points, at the same places
pub record Alike (r : ℕ) (b c : Grid) (s t : Side) (d e : Axis) (p q : Point) : Type 0 where
  pub stones : (w : Way) (k : ℕ) → 1 ≤ k → k ≤ r → stone_at b s (go w d p k 0) ≡ stone_at c t (go w e q k 0)
  pub frees : (w : Way) (k : ℕ) → 1 ≤ k → k ≤ r → free_at b (go w d p k 0) ≡ free_at c (go w e q k 0)

-- both have a stone of the side in the middle
pub record Both (r : ℕ) (rule kind : RuleKind) (b c : Grid) (s t : Side) (d e : Axis) (p q : Point) : Type 0 where
  pub low : 4 ≤ r
  pub high : r ≤ 5
  pub ok : IsBoard b
  pub fine : IsBoard c
  pub mine : holds b s p ≡ true
  pub own : holds c t q ≡ true
  pub reads : (n : ℕ) → row_wins rule s n ≡ wins_by r n
  pub tells : (n : ℕ) → row_wins kind t n ≡ wins_by r n
  pub alike : Alike r b c s t d e p q

module _ (r : ℕ) (rule kind : RuleKind) (b c : Grid) (s t : Side) (d e : Axis) (p q : Point) (both : Both r rule kind b c s t d e p q) where
  on_p : is_on b p ≡ true
  on_p = and_left (is_on b p) _ both.mine

  on_q : is_on c q ≡ true
  on_q = and_left (is_on c q) _ both.own

  near : (w : Way) → min r (stones_towards w b s d p) ≡ min r (stones_towards w c t e q)
  near w = leads_alike _ _ _ _ r (leads b s d p on_p w) (leads c t e q on_q w) (both.alike.stones w)

  pub five-alike : row_wins rule s (run_of b s d p) ≡ row_wins kind t (run_of c t e q)
  five-alike =
      let low = both.low in
      let high = both.high in
      let ahead = near Ahead in
      let behind = near Behind in
      let run = run_value r rule b s d p both.ok both.mine both.reads in
      let other = run_value r kind c t e q both.fine both.own both.tells in
      both.reads _ ∙ wins_same r _ _ low high (omega (arith, low, run, other, ahead, behind)) ∙ sym (both.tells _)

  pub over-alike : r ≡ 5 → nat_le 6 (run_of b s d p) ≡ nat_le 6 (run_of c t e q)
  over-alike five =
      let ahead = near Ahead in
      let behind = near Behind in
      let run = run_value r rule b s d p both.ok both.mine both.reads in
      let other = run_value r kind c t e q both.fine both.own both.tells in
      le_same 6 _ _ (omega (arith, five, run, other, ahead, behind))

  next_by : (u : Bool) (w : Way) (k : ℕ) → nat_eq r 4 ≡ u → k ≤ 4
      → (u || not (stone_at b s (go w d p (1 + k) 0))) ≡ (u || not (stone_at c t (go w e q (1 + k) 0)))
  next_by true w k h near = refl
  next_by false w k h near =
      let low = both.low in
      let five : r ≢ 4 = λ f. (let differ : true ≡ false = sym (eq_true r 4 f) ∙ h in cc) in
      ap not (both.alike.stones w (1 + k) (omega arith) (omega (arith, low)))

  past-alike : (w : Way) (k : ℕ) → 1 ≤ k → k ≤ 4 → wins_past rule b s d w (towards w d p k) ≡ wins_past kind c t e w (towards w e q k)
  past-alike w k some near =
      let low = both.low in
      let free = both.alike.frees w k some (omega (arith, low)) in
      let next = next_by (nat_eq r 4) w k refl near in
      past_value r rule b s d p both.ok both.mine both.reads w k
      ∙ rw (free, next) (sym (past_value r kind c t e q both.fine both.own both.tells w k))

  open_by : (u : Bool) (w : Way) (fore back : ℕ) → nat_eq (fore + back) 3 ≡ u
      → is_open_four rule b s d p w fore back ≡ is_open_four kind c t e q w fore back
  open_by false w fore back h = rw h refl
  open_by true w fore back h =
      let four = eq_from (fore + back) 3 h in
      rw (
        past-alike w (1 + fore) (omega arith) (omega (arith, four)),
        past-alike (opposite w) (1 + back) (omega arith) (omega (arith, four)),
      ) refl

  open-alike : (w : Way) (fore back : ℕ) → is_open_four rule b s d p w fore back ≡ is_open_four kind c t e q w fore back
  open-alike w fore back = open_by (nat_eq (fore + back) 3) w fore back refl

  closed : (rule : RuleKind) (b : Grid) (s : Side) (d : Axis) (p : Point) (w : Way) (fore back : ℕ) → fore + back ≢ 3
      → is_open_four rule b s d p w fore back ≡ false
  closed rule b s d p w fore back h = rw (eq_false (fore + back) 3 h) refl

  pub straight-alike : is_straight rule b s d p ≡ is_straight kind c t e q
  straight-alike =
      let low = both.low in
      let ahead = near Ahead in
      let behind = near Behind in
      straight_value r rule b s d p both.ok both.mine both.reads
      ∙ open-alike Ahead (stones_towards Ahead b s d p) (stones_towards Behind b s d p)
      ∙ elim (cases_lt 3 (stones_towards Ahead b s d p + stones_towards Behind b s d p)) [
        | inl many ↦ closed kind c t e q Ahead _ _ (λ f. absurd (omega arith))
            ∙ sym (closed kind c t e q Ahead _ _ (λ f. absurd (omega (arith, low, ahead, behind))))
        | inr few ↦
            let fore : stones_towards Ahead b s d p ≡ stones_towards Ahead c t e q = omega (arith, low, ahead) in
            let back : stones_towards Behind b s d p ≡ stones_towards Behind c t e q = omega (arith, low, behind) in
            rw (fore, back) refl
      ]
      ∙ sym (straight_value r kind c t e q both.fine both.own both.tells)

-- ---- three points

bool_from : (x y : Bool) → ◌≡◌ {A = ℕ} (cond x 1 0) (cond y 1 0) → x ≡ y
bool_from true true h = refl
bool_from true false h = absurd (omega arith)
bool_from false true h = absurd (omega arith)
bool_from false false h = refl

sum_eleven : (f g : ℕ → ℕ) → ((i : ℕ) → f i ≡ g i) → sum_by f (range_with_len 0 11) ≡ sum_by g (range_with_len 0 11)
sum_eleven f g h = rw (h 0, h 1, h 2, h 3, h 4, h 5, h 6, h 7, h 8, h 9, h 10) refl

-- a place past the stones next to the middle, on one line
module _ (rule : RuleKind) (b : Grid) (s : Side) (d : Axis) (p : Point) (ok : IsBoard b) (mine : holds b s p ≡ true) (w : Way) where
  abbrev first_past : ℕ
  first_past = stones_past w b s d (go w d p (1 + stones_towards w b s d p) 0)

  three_point : (q : Point) (t : Bool) → towards w d p (1 + stones_towards w b s d p) ≡ Some q → is_empty b q ≡ t
      → is_line_three_at rule b s d p (towards w d p (1 + stones_towards w b s d p))
      ≡ (is_empty b q && is_open_four rule b s d p w (1 + stones_towards w b s d p + stones_past w b s d (Some q))
      (stones_towards (opposite w) b s d p))
  three_point q false here e = rw (here, e) (taken_three rule b s d p q e)
  three_point q true here e = three_at rule b s d p ok mine w (stones_towards w b s d p) (stones_towards (opposite w) b s d p) q refl refl
      here e ∙ rw e refl

  pub three_value : is_line_three_at rule b s d p (towards w d p (1 + stones_towards w b s d p))
      ≡ (free_at b (go w d p (1 + stones_towards w b s d p) 0) && is_open_four rule b s d p w (1 + stones_towards w b s d p + first_past)
      (stones_towards (opposite w) b s d p))
  three_value = by_point (go w d p (1 + stones_towards w b s d p) 0) refl where
    by_point : (o : Option Point) → go w d p (1 + stones_towards w b s d p) 0 ≡ o
        → is_line_three_at rule b s d p (towards w d p (1 + stones_towards w b s d p))
        ≡ (free_at b o && is_open_four rule b s d p w (1 + stones_towards w b s d p + stones_past w b s d o)
        (stones_towards (opposite w) b s d p))
    by_point None h = ap (is_line_three_at rule b s d p) h
    by_point (Some q) h = three_point q (is_empty b q) h refl

module _ (r : ℕ) (rule kind : RuleKind) (b c : Grid) (s t : Side) (d e : Axis) (p q : Point) (both : Both r rule kind b c s t d e p q) where
  past_points : (w : Way) (k : ℕ) (o u : Option Point) → go w d p k 0 ≡ o → go w e q k 0 ≡ u → k ≤ r → free_at b o ≡ true
      → free_at c u ≡ true → min (r - k) (stones_past w b s d o) ≡ min (r - k) (stones_past w c t e u)
  past_points w k None u f g far x y = cc
  past_points w k (Some m) None f g far x y = cc
  past_points w k (Some m) (Some n) f g far x y =
      let there : (j : ℕ) → go w d m j 0 ≡ go w d p (k + j) 0 =
      λ j. go-then w d p m k 0 j 0 f ∙ go-same w d p (k + j) (0 + 0) (k + j) 0 (omega arith) in
      let here : (j : ℕ) → go w e n j 0 ≡ go w e q (k + j) 0 =
      λ j. go-then w e q n k 0 j 0 g ∙ go-same w e q (k + j) (0 + 0) (k + j) 0 (omega arith) in
      let same = leads_alike (λ j. stone_at b s (go w d m j 0)) (λ j. stone_at c t (go w e n j 0)) _ _ (r - k)
      (leads b s d m (is_empty-on b m x) w) (leads c t e n (is_empty-on c n y) w)
      (λ j low high. ap (stone_at b s) (there j) ∙ both.alike.stones w (k + j) (omega arith) (omega arith)
      ∙ ap (stone_at c t) (sym (here j))) in
      rw (x, y) same

  open_same : (w : Way) (n m m' o : ℕ) → n + o ≤ 2 → min (r - (1 + n)) m ≡ min (r - (1 + n)) m'
      → is_open_four rule b s d p w (1 + n + m) o ≡ is_open_four kind c t e q w (1 + n + m') o
  open_same w n m m' o few past =
      let low = both.low in
      elim (cases_lt 3 (1 + n + m + o)) [
        | inl many ↦ closed r rule kind b c s t d e p q both rule b s d p w (1 + n + m) o (λ f. absurd (omega arith))
            ∙ sym (closed r rule kind b c s t d e p q both kind c t e q w (1 + n + m') o (λ f. absurd (omega (arith, low))))
        | inr fit ↦
            let same : m ≡ m' = omega (arith, low) in
            open-alike r rule kind b c s t d e p q both w (1 + n + m) o ∙ ap (λ j. is_open_four kind c t e q w (1 + n + j) o) same
      ]

  first_same : (w : Way) (n n' o o' : ℕ) (u : Bool) → n ≡ n' → o ≡ o' → n + o ≤ 2 → free_at b (go w d p (1 + n) 0) ≡ u →
      (free_at b (go w d p (1 + n) 0) && is_open_four rule b s d p w (1 + n + stones_past w b s d (go w d p (1 + n) 0)) o)
      ≡ (free_at c (go w e q (1 + n') 0) && is_open_four kind c t e q w (1 + n' + stones_past w c t e (go w e q (1 + n') 0)) o')
  first_same w n n' o o' false x y few f =
      let low = both.low in
      let free : free_at c (go w e q (1 + n') 0) ≡ false =
      ap (λ k. free_at c (go w e q (1 + k) 0)) (sym x) ∙ sym (both.alike.frees w (1 + n) (omega arith) (omega (arith, low))) ∙ f in
      rw (f, free) refl
  first_same w n n' o o' true x y few f =
      let low = both.low in
      let free : free_at c (go w e q (1 + n) 0) ≡ true = sym (both.alike.frees w (1 + n) (omega arith) (omega (arith, low))) ∙ f in
      let past = past_points w (1 + n) (go w d p (1 + n) 0) (go w e q (1 + n) 0) refl refl (omega (arith, low)) f free in
      let opens = open_same w n (stones_past w b s d (go w d p (1 + n) 0)) (stones_past w c t e (go w e q (1 + n) 0)) o few past in
      rw (← x, ← y) (rw (f, free) opens)

  three_way : (w : Way) → three_place rule b s d p w ≡ three_place kind c t e q w
  three_way w =
      let low = both.low in
      let fore = near r rule kind b c s t d e p q both w in
      let back = near r rule kind b c s t d e p q both (opposite w) in
      elim (cases_lt 2 (stones_towards w b s d p + stones_towards (opposite w) b s d p)) [
        | inl many ↦ no_place rule b s d p both.ok both.mine w many
            ∙ sym (no_place kind c t e q both.fine both.own w (omega (arith, low, fore, back)))
        | inr few ↦
            let n : stones_towards w b s d p ≡ stones_towards w c t e q = omega (arith, low, fore) in
            let o : stones_towards (opposite w) b s d p ≡ stones_towards (opposite w) c t e q = omega (arith, low, back) in
            let test : is_line_three_at rule b s d p (towards w d p (1 + stones_towards w b s d p)) ≡ is_line_three_at kind c t e q
            (towards w e q (1 + stones_towards w c t e q)) =
            three_value rule b s d p both.ok both.mine w
            ∙ first_same w _ _ _ _ (free_at b (go w d p (1 + stones_towards w b s d p) 0)) n o few refl
            ∙ sym (three_value kind c t e q both.fine both.own w) in
            rw (test, n) refl
      ]

  three_at_place : (i : ℕ) → is_line_three_at rule b s d p (along d p i 5) ≡ is_line_three_at kind c t e q (along e q i 5)
  three_at_place i = bool_from _ _ (
      sym (three_bits-at rule b s d p both.ok both.mine i)
      ∙ ap (λ o. bit_at (bit_or (bit_of o) (bit_of (three_place rule b s d p Behind))) i) (three_way Ahead)
      ∙ ap (λ o. bit_at (bit_or (bit_of (three_place kind c t e q Ahead)) (bit_of o)) i) (three_way Behind)
      ∙ three_bits-at kind c t e q both.fine both.own i)

  pub three-alike : three_bits rule b s d p ≡ three_bits kind c t e q
  unfolding three_bits
  three-alike = sum_eleven _ _ (λ i. ap (λ u. cond u (2 ^ i) 0) (three_at_place i))
