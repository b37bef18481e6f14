-- Lines seen from a point in one of two ways: what holds ahead holds behind.
use Rattle.std.proofs.Common.{rules, ◌≡◌, ◌≢◌, inl, inr, ℕ, ◌+◌, ◌-◌, ◌≤◌, true, refl, sym, ap, ◌∙◌, arith, Option, Some, None}
use Rattle.std.proofs.lemmas.Bool.{cases_lt, both_ways}
use Rattle.game_rules.proofs.Common.{Grid, IsBoard, is_on, holds, put, stone_at, run_of, go, opposite, stones_towards, Side, Axis, Way}
use Rattle.game_rules.proofs.Common.{Point, Ahead, Behind}
use Rattle.game_rules.proofs.Boards.{Apart, holds-put_other, and_left, stones_ahead-put, stones_behind-put, run_of-put}
use Rattle.game_rules.proofs.Lines.{along-steps, along-apart, along-then, along-same, along-zero}
use Rattle.game_rules.proofs.Runs.{Leads, ahead_leads, behind_leads, ahead_is, behind_is}

pub go-then : (w : Way) (d : Axis) (p q : Point) (e g x y : ℕ) → go w d p e g ≡ Some q → go w d q x y ≡ go w d p (e + x) (g + y)
go-then w d p q e g x y h = search (rules, along-then)

pub go-same : (w : Way) (d : Axis) (p : Point) (x y x' y' : ℕ) → x + y' ≡ x' + y → go w d p x y ≡ go w d p x' y'
go-same w d p x y x' y' e = search (rules, along-same)

pub go-zero : (w : Way) (d : Axis) (p : Point) → go w d p 0 0 ≡ Some p
go-zero w d p = search (rules, along-zero)

pub go-opposite : (w : Way) (d : Axis) (p : Point) (x y : ℕ) → go (opposite w) d p x y ≡ go w d p y x
go-opposite w d p x y = search rules

pub opposite-opposite : (w : Way) → opposite (opposite w) ≡ w
opposite-opposite w = search rules

-- the way back
pub go-back : (w : Way) (d : Axis) (p q : Point) (k : ℕ) → go w d p k 0 ≡ Some q → go w d q 0 k ≡ Some p
go-back w d p q k here = go-then w d p q k 0 0 k here ∙ go-same w d p (k + 0) (0 + k) 0 0 (omega arith) ∙ go-zero w d p

-- a point is a fixed number of steps away
pub go-steps : (w : Way) (d : Axis) (p q : Point) (x y x' y' : ℕ) → go w d p x y ≡ Some q → go w d p x' y' ≡ Some q → x + y' ≡ x' + y
go-steps w d p q x y x' y' e f = search (rules, along-steps)

pub go-apart : (w : Way) (d : Axis) (p q r : Point) (x y x' y' : ℕ) → go w d p x y ≡ Some q → go w d p x' y' ≡ Some r → x + y' ≢ x' + y
    → Apart q r
go-apart w d p q r x y x' y' e f differ = search (rules, along-apart)

-- a stone changes no place a different number of steps away
pub else_at : (b : Grid) (s : Side) (w : Way) (d : Axis) (p q : Point) (e g x y : ℕ) → is_on b q ≡ true → go w d p e g ≡ Some q
    → e + y ≢ x + g → stone_at (put b s q) s (go w d p x y) ≡ stone_at b s (go w d p x y)
else_at b s w d p q e g x y on here differ = by_point (go w d p x y) refl where
  by_point : (o : Option Point) → go w d p x y ≡ o → stone_at (put b s q) s o ≡ stone_at b s o
  by_point None f = refl
  by_point (Some r) f = holds-put_other b s s q r on (go-apart w d p q r e g x y here f differ)

module _ (b : Grid) (s : Side) (d : Axis) (p : Point) (on : is_on b p ≡ true) where
  -- the stones next to a point in that way: as many places hold one, and the next does not
  pub leads : (w : Way) → Leads (λ k. stone_at b s (go w d p k 0)) (stones_towards w b s d p)
  leads Ahead = ahead_leads b s d p on
  leads Behind = behind_leads b s d p on

  pub leads_is : (w : Way) (m : ℕ) → Leads (λ k. stone_at b s (go w d p k 0)) m → stones_towards w b s d p ≡ m
  leads_is Ahead m h = ahead_is b s d p on m h
  leads_is Behind m h = behind_is b s d p on m h

  -- and in the other way
  pub leads_back : (w : Way) → Leads (λ k. stone_at b s (go w d p 0 k)) (stones_towards (opposite w) b s d p)
  leads_back Ahead = behind_leads b s d p on
  leads_back Behind = ahead_leads b s d p on

  pub leads_back_is : (w : Way) (m : ℕ) → Leads (λ k. stone_at b s (go w d p 0 k)) m → stones_towards (opposite w) b s d p ≡ m
  leads_back_is Ahead m h = behind_is b s d p on m h
  leads_back_is Behind m h = ahead_is b s d p on m h

  -- as many places next to it that hold stones are in its row
  pub least : (w : Way) (m : ℕ) → ((j : ℕ) → 1 ≤ j → j ≤ m → stone_at b s (go w d p j 0) ≡ true) → m ≤ stones_towards w b s d p
  least w m all = elim (cases_lt (stones_towards w b s d p) m) [
    | inl less ↦ absurd (both_ways _ (leads w).stops (all (1 + stones_towards w b s d p) (omega arith) (omega arith)))
    | inr enough ↦ enough
  ]

  pub least_back : (w : Way) (m : ℕ) → ((j : ℕ) → 1 ≤ j → j ≤ m → stone_at b s (go w d p 0 j) ≡ true)
      → m ≤ stones_towards (opposite w) b s d p
  least_back w m all = least (opposite w) m (λ j low high. ap (stone_at b s) (go-opposite w d p j 0) ∙ all j low high)

-- ---- a stone, and what stands in its two ways

-- a run through the new stone, from either of the two ways
pub run_towards : (b : Grid) (s : Side) (w : Way) (d : Axis) (q : Point) → IsBoard b → is_on b q ≡ true
    → run_of (put b s q) s d q ≡ 1 + stones_towards w b s d q + stones_towards (opposite w) b s d q
run_towards b s w d q ok on = search (rules, run_of-put)

module _ (b : Grid) (s : Side) (p : Point) (on : is_on b p ≡ true) where
  -- a stone changes nothing that stands next to its point
  pub towards-put : (w : Way) (d : Axis) → stones_towards w (put b s p) s d p ≡ stones_towards w b s d p
  towards-put w d = search (rules, stones_ahead-put, stones_behind-put)

  -- and nothing that stands past another point of its line
  pub beyond-put : (w : Way) (d : Axis) (k : ℕ) (e : Point) → go w d p (1 + k) 0 ≡ Some e → is_on b e ≡ true
      → stones_towards w (put b s p) s d e ≡ stones_towards w b s d e
  beyond-put w d k e here on_e = leads_is (put b s p) s d e on_e w (stones_towards w b s d e) (record {
    holds = λ j low high. same j ∙ (leads b s d e on_e w).holds j low high;
    stops = same (1 + stones_towards w b s d e) ∙ (leads b s d e on_e w).stops;
  }) where
    same : (j : ℕ) → stone_at (put b s p) s (go w d e j 0) ≡ stone_at b s (go w d e j 0)
    same j =
        let place : go w d e j 0 ≡ go w d p (1 + k + j) 0 = go-then w d p e (1 + k) 0 j 0 here
        ∙ go-same w d p (1 + k + j) (0 + 0) (1 + k + j) 0 (omega arith) in
        ap (stone_at (put b s p) s) place ∙ else_at b s w d p p 0 0 (1 + k + j) 0 on (go-zero w d p) (λ same. absurd (omega arith))
        ∙ ap (stone_at b s) (sym place)

-- ---- the first point past a run

-- e is the first point past the run through p in that way: the run is what it has behind it
module _ (b : Grid) (s : Side) (w : Way) (d : Axis) (p e : Point) (mine : holds b s p ≡ true)
    (here : go w d p (1 + stones_towards w b s d p) 0 ≡ Some e) (on : is_on b e ≡ true) where
  on_p : is_on b p ≡ true
  on_p = and_left (is_on b p) _ mine

  from_e : (x y x' y' : ℕ) → 1 + stones_towards w b s d p + x + y' ≡ x' + y → stone_at b s (go w d e x y) ≡ stone_at b s (go w d p x' y')
  from_e x y x' y' h = ap (stone_at b s) (go-then w d p e (1 + stones_towards w b s d p) 0 x y here
      ∙ go-same w d p (1 + stones_towards w b s d p + x) (0 + y) x' y' (omega arith))

  pub run_before_end : stones_towards (opposite w) b s d e ≡ stones_towards w b s d p + 1 + stones_towards (opposite w) b s d p
  run_before_end = leads_back_is b s d e on w _ (record {
    holds = inside;
    stops = from_e 0 (1 + (stones_towards w b s d p + 1 + stones_towards (opposite w) b s d p)) 0
        (1 + stones_towards (opposite w) b s d p) (omega arith) ∙ (leads_back b s d p on_p w).stops;
  }) where
    inside : (j : ℕ) → 1 ≤ j → j ≤ stones_towards w b s d p + 1 + stones_towards (opposite w) b s d p → stone_at b s (go w d e 0 j) ≡ true
    inside j low high = elim (cases_lt (stones_towards w b s d p + 1) j) [
      | inl past ↦ from_e 0 j 0 (j - (stones_towards w b s d p + 1)) (omega arith)
          ∙ (leads_back b s d p on_p w).holds (j - (stones_towards w b s d p + 1)) (omega arith) (omega arith)
      | inr more ↦ elim (cases_lt j (stones_towards w b s d p + 1)) [
        | inl less ↦ from_e 0 j (stones_towards w b s d p + 1 - j) 0 (omega arith)
            ∙ (leads b s d p on_p w).holds (stones_towards w b s d p + 1 - j) (omega arith) (omega arith)
        | inr last ↦ from_e 0 j 0 0 (omega arith) ∙ ap (stone_at b s) (go-zero w d p) ∙ mine
      ]
    ]
