-- The points of open windows.
use Rattle.std.proofs.Common.{rules, ◌≡◌, ◌≢◌, inl, inr, ℕ, zero, suc, ◌+◌, ◌≤◌, ◌<◌, Bool, true, false, cond, ◌||◌, nat_le, nat_eq, List}
use Rattle.std.proofs.Common.{refl, subst, ap, ◌∙◌, arith, Option, Some, None}
use Rattle.std.specs.List.{list_any, list_all, count_by, range_with_len}
use Rattle.std.proofs.lemmas.Bool.{cases_eq, false_from_ne_true, both_ways}
use Rattle.std.proofs.lemmas.Bool.Decides.{nat_tests}
use Rattle.game_rules.proofs.Common.{Grid, is_empty, along, stone_at}
use Rattle.game_rules.specs.declared.Side.{Side}
use Rattle.game_rules.specs.declared.Axis.{Axis}
use Rattle.game_rules.specs.declared.Point.{Point}
use Rattle.game_rules.proofs.Axes.{axis_of, some_axis}
use Rattle.game_rules.proofs.Boards.{and_left, and_right, is_empty-on}
use Rattle.game_rules.proofs.Lines.{along-same, along-then}
use Rattle.stone_board.proofs.LineBits.{board-near}
use Rattle.open_windows.specs.OpenWindows.{is_open_at, is_window, in_window}
use Rattle.open_windows.specs.PointSets.{has_point, TellsWindows}

-- ---- tests of five numbers

module _ (f : ℕ → Bool) where
  pub any_five : (k : ℕ) → k < 5 → f k ≡ true → list_any f (range_with_len 0 5) ≡ true
  any_five zero near h = rw h refl
  any_five (suc zero) near h = at_second (f 0) (f 1) _ h where
    at_second : (a c e : Bool) → c ≡ true → (a || (c || e)) ≡ true
    at_second a c e h = search rules
  any_five (suc (suc zero)) near h = at_third (f 0) (f 1) (f 2) _ h where
    at_third : (a c e g : Bool) → e ≡ true → (a || (c || (e || g))) ≡ true
    at_third a c e g h = search rules
  any_five (suc (suc (suc zero))) near h = at_fourth (f 0) (f 1) (f 2) (f 3) _ h where
    at_fourth : (a c e g i : Bool) → g ≡ true → (a || (c || (e || (g || i)))) ≡ true
    at_fourth a c e g i h = search rules
  any_five (suc (suc (suc (suc zero)))) near h = at_fifth (f 0) (f 1) (f 2) (f 3) (f 4) _ h where
    at_fifth : (a c e g i j : Bool) → i ≡ true → (a || (c || (e || (g || (i || j))))) ≡ true
    at_fifth a c e g i j h = search rules
  any_five (suc (suc (suc (suc (suc k))))) near h = absurd (omega (arith, near))

  pub some_of_five : list_any f (range_with_len 0 5) ≡ true → (k : ℕ) × (k < 5) × (f k ≡ true)
  some_of_five h = by_tests (f 0) (f 1) (f 2) (f 3) (f 4) refl refl refl refl refl h where
    by_tests : (a c e g i : Bool) → f 0 ≡ a → f 1 ≡ c → f 2 ≡ e → f 3 ≡ g → f 4 ≡ i → (a || (c || (e || (g || (i || false))))) ≡ true
        → (k : ℕ) × (k < 5) × (f k ≡ true)
    by_tests true c e g i at_0 at_1 at_2 at_3 at_4 h = (0, omega arith, at_0)
    by_tests false true e g i at_0 at_1 at_2 at_3 at_4 h = (1, omega arith, at_1)
    by_tests false false true g i at_0 at_1 at_2 at_3 at_4 h = (2, omega arith, at_2)
    by_tests false false false true i at_0 at_1 at_2 at_3 at_4 h = (3, omega arith, at_3)
    by_tests false false false false true at_0 at_1 at_2 at_3 at_4 h = (4, omega arith, at_4)
    by_tests false false false false false at_0 at_1 at_2 at_3 at_4 h = cc

  pub all_five : ((k : ℕ) → k < 5 → f k ≡ true) → list_all f (range_with_len 0 5) ≡ true
  all_five h = rw (h 0 (omega arith), h 1 (omega arith), h 2 (omega arith), h 3 (omega arith), h 4 (omega arith)) refl

-- 1 where the numbers are one
abbrev hit : ℕ → ℕ → ℕ
hit k u = cond (nat_eq k u) 1 0

once : (u : ℕ) → hit 0 u + hit 1 u + hit 2 u + hit 3 u + hit 4 u ≤ 1
once zero = omega arith
once (suc zero) = omega arith
once (suc (suc zero)) = omega arith
once (suc (suc (suc zero))) = omega arith
once (suc (suc (suc (suc zero)))) = omega arith
once (suc (suc (suc (suc (suc u))))) = grind (arith, nat_tests)

module _ (f : ℕ → Bool) where
  abbrev one_at : ℕ → ℕ
  one_at k = cond (f k) 1 0

  pub count_five : count_by f (range_with_len 0 5) ≡ one_at 0 + one_at 1 + one_at 2 + one_at 3 + one_at 4
  count_five = omega arith

  -- all hold but three at most
  pub two_of_five : (u v w : ℕ) → ((k : ℕ) → k < 5 → k ≢ u → k ≢ v → k ≢ w → f k ≡ true) → 2 ≤ count_by f (range_with_len 0 5)
  two_of_five u v w h =
      let c0 = enough 0 (omega arith) in let c1 = enough 1 (omega arith) in let c2 = enough 2 (omega arith) in
      let c3 = enough 3 (omega arith) in let c4 = enough 4 (omega arith) in
      let first = once u in let second = once v in let third = once w in let sum = count_five in
      omega (arith, c0, c1, c2, c3, c4, first, second, third, sum) where
        is_hit : (k t : ℕ) → k ≡ t → hit k t ≡ 1
        is_hit k t same = grind (arith, nat_tests)

        enough : (k : ℕ) → k < 5 → 1 ≤ one_at k + hit k u + hit k v + hit k w
        enough k near = elim (cases_eq k u) [
          | inl same ↦ let e = is_hit k u same in omega (arith, e)
          | inr off_u ↦ elim (cases_eq k v) [
            | inl same ↦ let e = is_hit k v same in omega (arith, e)
            | inr off_v ↦ elim (cases_eq k w) [
              | inl same ↦ let e = is_hit k w same in omega (arith, e)
              | inr off_w ↦ let e : one_at k ≡ 1 = ap (λ r. cond r 1 0) (h k near off_u off_v off_w) in omega (arith, e)
            ]
          ]
        ]

  -- all hold but two at most
  pub three_of_five : (u w : ℕ) → ((k : ℕ) → k < 5 → k ≢ u → k ≢ w → f k ≡ true) → 3 ≤ count_by f (range_with_len 0 5)
  three_of_five u w h =
      let c0 = enough 0 (omega arith) in let c1 = enough 1 (omega arith) in let c2 = enough 2 (omega arith) in
      let c3 = enough 3 (omega arith) in let c4 = enough 4 (omega arith) in
      let first = once u in let second = once w in let sum = count_five in
      omega (arith, c0, c1, c2, c3, c4, first, second, sum) where
        enough : (k : ℕ) → k < 5 → 1 ≤ one_at k + hit k u + hit k w
        enough k near = elim (cases_eq k u) [
          | inl same ↦ let e : hit k u ≡ 1 = grind (arith, nat_tests) in omega (arith, e)
          | inr other ↦ elim (cases_eq k w) [
            | inl same ↦ let e : hit k w ≡ 1 = grind (arith, nat_tests) in omega (arith, e)
            | inr apart ↦ let e : one_at k ≡ 1 = ap (λ r. cond r 1 0) (h k near other apart) in omega (arith, e)
          ]
        ]

  -- all hold but one at most
  pub four_of_five : (u : ℕ) → ((k : ℕ) → k < 5 → k ≢ u → f k ≡ true) → 4 ≤ count_by f (range_with_len 0 5)
  four_of_five u h =
      let c0 = each 0 (omega arith) in let c1 = each 1 (omega arith) in let c2 = each 2 (omega arith) in
      let c3 = each 3 (omega arith) in let c4 = each 4 (omega arith) in
      let first = once u in let sum = count_five in
      omega (arith, c0, c1, c2, c3, c4, first, sum) where
        each : (k : ℕ) → k < 5 → 1 ≤ one_at k + hit k u
        each k near = elim (cases_eq k u) [
          | inl same ↦ let e : hit k u ≡ 1 = grind (arith, nat_tests) in omega (arith, e)
          | inr other ↦ let e : one_at k ≡ 1 = ap (λ r. cond r 1 0) (h k near other) in omega (arith, e)
        ]

-- two tests that are the same of five numbers but one hold of as many but one
pub one_fewer : (f g : ℕ → Bool) (u : ℕ) → ((k : ℕ) → k < 5 → k ≢ u → f k ≡ g k)
    → count_by f (range_with_len 0 5) ≤ count_by g (range_with_len 0 5) + 1
one_fewer f g u h =
    let c0 = enough 0 (omega arith) in let c1 = enough 1 (omega arith) in let c2 = enough 2 (omega arith) in
    let c3 = enough 3 (omega arith) in let c4 = enough 4 (omega arith) in
    let first = once u in let sum = count_five f in let other = count_five g in
    omega (arith, c0, c1, c2, c3, c4, first, sum, other) where
      at_most : (r : Bool) → cond r 1 0 ≤ 1
      at_most r = search rules

      enough : (k : ℕ) → k < 5 → one_at f k ≤ one_at g k + hit k u
      enough k near = elim (cases_eq k u) [
        | inl same ↦ let e : hit k u ≡ 1 = grind (arith, nat_tests) in let low = at_most (f k) in omega (arith, e, low)
        | inr other ↦ let e : one_at f k ≡ one_at g k = ap (λ r. cond r 1 0) (h k near other) in omega (arith, e)
      ]

-- ---- windows

-- a point that is open is one
pub open-point : (b : Grid) (s : Side) (o : Option Point) → is_open_at b s o ≡ true → (q : Point) × (o ≡ Some q)
open-point b s None h = cc
open-point b s (Some q) h = (q, refl)

module _ (b : Grid) (s : Side) (least : ℕ) (d : Axis) (p : Point) where
  -- five open places with stones enough are a window
  pub window-made : (t : ℕ) → t < 5 → ((k : ℕ) → k < 5 → is_open_at b s (along d p k t) ≡ true)
      → least ≤ count_by (λ k. stone_at b s (along d p k t)) (range_with_len 0 5) → is_window b s least d (along d p 0 t) ≡ true
  unfolding is_window
  window-made t near clear many =
      let start = open-point b s (along d p 0 t) (clear 0 (omega arith)) in
      let place : (k : ℕ) → along d start.0 k 0 ≡ along d p k t = λ k. along-then d p start.0 0 t k 0 start.1
      ∙ along-same d p (0 + k) (t + 0) k t (omega arith) in
      let all = all_five (λ k. is_open_at b s (along d start.0 k 0)) (λ k low. ap (is_open_at b s) (place k) ∙ clear k low) in
      let same : count_by (λ k. stone_at b s (along d start.0 k 0)) (range_with_len 0 5) ≡ count_by (λ k. stone_at b s (along d p k t))
      (range_with_len 0 5) =
      rw (place 0, place 1, place 2, place 3, place 4) refl in
      let enough : nat_le least (count_by (λ k. stone_at b s (along d start.0 k 0)) (range_with_len 0 5)) ≡ true =
      grind (arith, nat_tests) in
      ap (is_window b s least d) start.1 ∙ rw (all, enough) refl

  pub in-made : (t : ℕ) → t < 5 → is_empty b p ≡ true → is_window b s least d (along d p 0 t) ≡ true → in_window b s least p ≡ true
  unfolding in_window
  in-made t near empty there =
      let some = any_five (λ k. is_window b s least d (along d p 0 k)) t near there in
      let axis = axis_of (λ e. list_any (λ k. is_window b s least e (along e p 0 k)) (range_with_len 0 5)) d some in
      rw (empty, axis) refl

-- the window that a point lies in
pub record Lies (b : Grid) (s : Side) (least : ℕ) (p : Point) : Type 0 where
  pub empty : is_empty b p ≡ true
  pub axis : Axis
  pub back : ℕ
  pub near : back < 5
  pub there : is_window b s least axis (along axis p 0 back) ≡ true

pub in-lies : (b : Grid) (s : Side) (least : ℕ) (p : Point) → in_window b s least p ≡ true → Lies b s least p
unfolding in_window
in-lies b s least p h =
    let axis = some_axis (λ d. list_any (λ k. is_window b s least d (along d p 0 k)) (range_with_len 0 5)) (and_right (is_empty b p) _ h) in
    let place = some_of_five (λ k. is_window b s least axis.0 (along axis.0 p 0 k)) axis.1 in
    record { empty = and_left (is_empty b p) _ h; axis = axis.0; back = place.0; near = place.1; there = place.2 }

-- the windows of a board and a side that are these
pub windows-of : (a b : Grid) (t s : Side) (least : ℕ) (rows : List ℕ) → a ≡ b → t ≡ s → TellsWindows a t least rows
    → TellsWindows b s least rows
windows-of a b t s least rows board side h =
    subst (λ (u : Side). TellsWindows b u least rows) side (subst (λ (w : Grid). TellsWindows w t least rows) board h)

-- a point that the set is told not to have lies in no such window
pub told-outside : (b : Grid) (s : Side) (least : ℕ) (rows : List ℕ) (p : Point) (r : Bool) → TellsWindows b s least rows
    → (p.x < 32 → p.y < 32 → r ≡ has_point rows p) → r ≡ false → in_window b s least p ≡ false
told-outside b s least rows p r tells has out = false_from_ne_true _ (λ h.
    let on = is_empty-on b p (in-lies b s least p h).empty in
    let near = board-near b p tells.board on in
    both_ways _ out (has near.column near.row ∙ tells.points p on ∙ h))
