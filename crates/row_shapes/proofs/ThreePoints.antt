-- A three point of a stone is the first point in one of the two ways that holds no stone of its side.
use Rattle.std.proofs.Common.{◌≡◌, ℕ, ◌+◌, ◌-◌, ◌≤◌, ◌<◌, max, Bool, true, false, cond, ◌&&◌, not, refl, sym}
use Rattle.std.proofs.Common.{ap, ◌∙◌, arith, nat_eq, Option, Some, None, bit_or}
use Rattle.std.proofs.lemmas.Bool.Decides.{nat_tests}
use Rattle.std.proofs.Math.Bool.{and-true, and-false}
use Rattle.std.proofs.lemmas.Nat.Bits.{bit_at_or, bit_at-lt, bit_at-zero, bit_at-pow_same, bit_at-pow_other}
use Rattle.std.specs.Int.{bit_at}
use Rattle.game_rules.proofs.Common.{Grid, IsBoard, is_on, is_empty, holds, put, along, row_wins, wins_on, wins_at, is_straight, is_in_run}
use Rattle.game_rules.proofs.Common.{gives_straight, is_line_three_point, is_line_three_at, stones_ahead, stones_behind, towards, opposite}
use Rattle.game_rules.proofs.Common.{stones_towards, go, run_end}
use Rattle.game_rules.specs.declared.RuleKind.{RuleKind}
use Rattle.game_rules.specs.declared.Side.{Side}
use Rattle.game_rules.specs.declared.Axis.{Axis}
use Rattle.game_rules.specs.declared.Point.{Point}
use Rattle.game_rules.specs.declared.Way.{Way}
use Rattle.game_rules.specs.declared.Way.TheVariants.{Ahead, Behind}
use Rattle.game_rules.proofs.Boards.{Apart, and-same, is_empty-put, and_left, and_right, is_empty-on}
use Rattle.game_rules.proofs.Positions.{holds-put_more, IsBoard-put}
use Rattle.game_rules.proofs.Lines.{along-same, along-steps}
use Rattle.game_rules.proofs.Ways.{go-then, go-same, go-opposite, go-apart, opposite-opposite, run_before_end, beyond-put}
use Rattle.game_rules.proofs.Wins.{wins_on-ways}
use Rattle.game_rules.proofs.RunEnds.{end_joins, end_leaves, end_in_run, in_run-end}
use Rattle.game_rules.proofs.Threes.{straight_towards, three_empty}
use Rattle.row_shapes.proofs.Common.{fewer_never, wins_past, is_open_four, three_place, place_towards, bit_of}

-- ---- the end of a run

-- q is a point of the line no further in that way than the run through p, which is of four on the board with q
module _ (rule : RuleKind) (b : Grid) (s : Side) (w : Way) (d : Axis) (p q : Point) (x y : ℕ) (ok : IsBoard b) (empty : is_empty b q ≡ true)
    (here : go w d p x y ≡ Some q) (mine : holds (put b s q) s p ≡ true) where
  filled_on : is_on b q ≡ true
  filled_on = is_empty-on b q empty

  -- how far the run reaches
  abbrev reach : ℕ
  reach = stones_towards w (put b s q) s d p

  module _ (e : Point) (end : go w d p (1 + reach) 0 ≡ Some e) (near : x ≤ reach + y) where
    apart : Apart q e
    apart = go-apart w d p q e x y (1 + reach) 0 here end (λ same. absurd (omega arith))

    stones_past : is_on b e ≡ true → stones_towards w (put b s q) s d e ≡ stones_towards w b s d e
    stones_past on = beyond-put b s q filled_on w d (reach + y - x) e
        (go-then w d p q x y (1 + (reach + y - x)) 0 here ∙ go-same w d p (x + (1 + (reach + y - x))) (y + 0) (1 + reach) 0 (omega arith)
        ∙ end) on

    end_wins_by : reach + stones_towards (opposite w) (put b s q) s d p ≡ 3
        → wins_on rule (put b s q) s d e ≡ (is_empty b e && row_wins rule s (5 + stones_towards w b s d e))
    end_wins_by four =
        wins_on-ways rule (put b s q) s w d e (IsBoard-put b s q ok)
        ∙ ap (λ r. r && row_wins rule s (1 + stones_towards w (put b s q) s d e + stones_towards (opposite w) (put b s q) s d e))
        (is_empty-put b s q e filled_on apart)
        ∙ and-same (is_empty b e) _ _ (λ free. ap (row_wins rule s) (five (is_empty-on b e free))) where
          five : is_on b e ≡ true → 1 + stones_towards w (put b s q) s d e + stones_towards (opposite w) (put b s q) s d e ≡ 5
              + stones_towards w b s d e
          five on =
              let before = run_before_end (put b s q) s w d p e mine end on in
              let past = stones_past on in
              omega (arith, before, past, four)

  -- a stone at the end of the run wins where it wins with the stones past it
  end_wins : x ≤ reach + y → reach + stones_towards (opposite w) (put b s q) s d p ≡ 3
      → wins_at rule (put b s q) s d (towards w d p (1 + reach)) ≡ wins_past rule b s d w (towards w d p (1 + reach))
  end_wins near four = by_point (towards w d p (1 + reach)) refl where
    by_point : (o : Option Point) → towards w d p (1 + reach) ≡ o → wins_at rule (put b s q) s d o ≡ wins_past rule b s d w o
    by_point None h = refl
    by_point (Some e) h = end_wins_by e h near four

-- ---- the first point that holds no stone of the side

-- q is the first point in that way that holds no stone of the side, and it is empty
module _ (rule : RuleKind) (b : Grid) (s : Side) (w : Way) (d : Axis) (p q : Point) (ok : IsBoard b) (mine : holds b s p ≡ true)
    (empty : is_empty b q ≡ true) (here : go w d p (1 + stones_towards w b s d p) 0 ≡ Some q) where
  on_q : is_on b q ≡ true
  on_q = is_empty-on b q empty

  still : holds (put b s q) s p ≡ true
  still = holds-put_more b s q p ok empty mine

  abbrev near : ℕ
  near = stones_towards w b s d p

  abbrev far : ℕ
  far = stones_towards (opposite w) b s d p

  abbrev more : ℕ
  more = stones_towards w b s d q

  fore : stones_towards w (put b s q) s d p ≡ 1 + near + more
  fore = end_joins b s w d p q ok mine empty here

  back : stones_towards (opposite w) (put b s q) s d p ≡ far
  back = end_leaves b s w d p q ok mine empty here

  -- with a stone on q the run is of four, and q no five point of this axis
  no_win : 1 + near + more + far ≡ 3 → wins_on rule b s d q ≡ false
  no_win four =
      let before = run_before_end b s w d p q mine here on_q in
      let long : 1 + more + stones_towards (opposite w) b s d q ≡ 4 = omega (arith, before, four) in
      wins_on-ways rule b s w d q ok ∙ rw (empty, long) (fewer_never rule s 4 (omega arith))

  in_run : is_in_run (put b s q) s d p q ≡ true
  in_run = end_in_run b s w d p q ok mine empty here

  fore_wins : 1 + near + more + far ≡ 3 → wins_at rule (put b s q) s d (towards w d p (1 + stones_towards w (put b s q) s d p)) ≡ wins_past
      rule b s d w (towards w d p (1 + (1 + near + more)))
  fore_wins four =
      let e = fore in
      let f = back in
      end_wins rule b s w d p q (1 + near) 0 ok empty here still (omega (arith, e)) (omega (arith, e, f, four))
      ∙ ap (λ k. wins_past rule b s d w (towards w d p (1 + k))) fore

  back_wins : 1 + near + more + far ≡ 3 → wins_at rule (put b s q) s d
      (towards (opposite w) d p (1 + stones_towards (opposite w) (put b s q) s d p)) ≡ wins_past rule b s d (opposite w)
      (towards (opposite w) d p (1 + far))
  back_wins four =
      let e = fore in
      let f = back in
      let turned : stones_towards (opposite (opposite w)) (put b s q) s d p ≡ stones_towards w (put b s q) s d p =
      ap (λ (v : Way). stones_towards v (put b s q) s d p) (opposite-opposite w) in
      end_wins rule b s (opposite w) d p q 0 (1 + near) ok empty (go-opposite w d p 0 (1 + near) ∙ here) still (omega arith)
      (omega (arith, e, f, four, turned))
      ∙ ap (λ k. wins_past rule b s d (opposite w) (towards (opposite w) d p (1 + k))) back

  three_by : (r : Bool) → nat_eq (1 + near + more + far) 3 ≡ r
      → is_line_three_point rule b s d p q ≡ is_open_four rule b s d p w (1 + near + more) far
  unfolding is_line_three_point gives_straight
  three_by true h =
      let four : 1 + near + more + far ≡ 3 = grind (arith, nat_tests) in
      rw (no_win four, empty, straight_towards rule (put b s q) s w d p still, in_run, fore_wins four, back_wins four, fore, back, h)
      (and-true _)
  three_by false h = rw (straight_towards rule (put b s q) s w d p still, fore, back, h)
      (and-false (is_empty b q && not (wins_on rule b s d q)))

  -- whether q is a three point is decided by what stands past the run
  pub three-open : is_line_three_point rule b s d p q ≡ is_open_four rule b s d p w (1 + near + more) far
  three-open = three_by (nat_eq (1 + near + more + far) 3) refl

-- ---- no other point is a three point

module _ (rule : RuleKind) (b : Grid) (s : Side) (d : Axis) (p q : Point) (ok : IsBoard b) (mine : holds b s p ≡ true) where
  three_in_run : is_line_three_point rule b s d p q ≡ true → is_in_run (put b s q) s d p q ≡ true
  unfolding is_line_three_point gives_straight
  three_in_run h = and_right (is_straight rule (put b s q) s d p) _ (and_right (is_empty b q && not (wins_on rule b s d q)) _ h)

  pub three_first : is_line_three_point rule b s d p q ≡ true → (w : Way) × (run_end b s d w p ≡ Some q)
  three_first h = in_run-end b s d p q ok mine (three_empty rule b s d p q h) (three_in_run h)

-- ---- points that are none

-- ---- the two places

module _ (rule : RuleKind) (b : Grid) (s : Side) (d : Axis) (p : Point) (ok : IsBoard b) (mine : holds b s p ≡ true) where
  -- the first point in a way that holds no stone of the side
  abbrev first : Way → Option Point
  first w = towards w d p (1 + stones_towards w b s d p)

  -- where it is empty, it is a three point as what stands past the run decides
  pub three_at : (w : Way) (near far : ℕ) (q : Point) → near ≡ stones_towards w b s d p → far ≡ stones_towards (opposite w) b s d p
      → towards w d p (1 + near) ≡ Some q → is_empty b q ≡ true
      → is_line_three_at rule b s d p (towards w d p (1 + near)) ≡ is_open_four rule b s d p w (1 + near + stones_towards w b s d q) far
  three_at w near far q n f here empty =
      let first_here : first w ≡ Some q = ap (λ k. towards w d p (1 + k)) (sym n) ∙ here in
      rw (here, n, f) (three-open rule b s w d p q ok mine empty (first_here))

  -- its place
  abbrev place : Way → ℕ
  place w = place_towards w (1 + stones_towards w b s d p)

  open_few : (w : Way) (fore back : ℕ) → is_open_four rule b s d p w fore back ≡ true → fore + back ≡ 3
  open_few w fore back h =
      let e = and_left (nat_eq (fore + back) 3) _
      (and_left (nat_eq (fore + back) 3 && wins_past rule b s d w (towards w d p (1 + fore))) _ h) in
      grind (arith, nat_tests)

  -- the first point in a way is a three point only where the run that its stone gives is of four
  pub first_open : (w : Way) (q : Point) → first w ≡ Some q → is_line_three_point rule b s d p q ≡ true
      → 1 + stones_towards w b s d p + stones_towards w b s d q + stones_towards (opposite w) b s d p ≡ 3
  first_open w q e h =
      let same = three-open rule b s w d p q ok mine (three_empty rule b s d p q h) (e) in
      open_few w _ _ (sym same ∙ h)

  -- so few stones stand next to p
  pub few : (w : Way) → is_line_three_at rule b s d p (first w) ≡ true → stones_towards w b s d p + stones_towards (opposite w) b s d p ≤ 2
  few w h = by_point (first w) refl h where
    by_point : (o : Option Point) → first w ≡ o → is_line_three_at rule b s d p o ≡ true
        → stones_towards w b s d p + stones_towards (opposite w) b s d p ≤ 2
    by_point None e h = cc
    by_point (Some q) e h = let sum = first_open w q e h in omega (arith, sum)

  -- where more do, that way has no three point
  pub no_place : (w : Way) → 2 < stones_towards w b s d p + stones_towards (opposite w) b s d p → three_place rule b s d p w ≡ None
  no_place w many = by_test (is_line_three_at rule b s d p (first w)) refl where
    by_test : (r : Bool) → is_line_three_at rule b s d p (first w) ≡ r → cond r (Some (place w)) None ≡ None
    by_test false h = refl
    by_test true h = absurd (let fewer = few w h in omega (arith, fewer))

  place_at : (w : Way) → stones_towards w b s d p ≤ 2 → first w ≡ along d p (place w) 5
  place_at Ahead h = along-same d p (1 + stones_ahead b s d p) 0 (5 + (1 + stones_ahead b s d p)) 5 (omega arith)
  place_at Behind h = along-same d p 0 (1 + stones_behind b s d p) (5 - (1 + stones_behind b s d p)) 5 (omega arith)

  place_is : (w : Way) (q : Point) (i : ℕ) → go w d p (1 + stones_towards w b s d p) 0 ≡ Some q → along d p i 5 ≡ Some q → i ≡ place w
  place_is Ahead q i e f = let steps = along-steps d p q (1 + stones_ahead b s d p) 0 i 5 e f in omega (arith, steps)
  place_is Behind q i e f = let steps = along-steps d p q 0 (1 + stones_behind b s d p) i 5 e f in omega (arith, steps)

  -- the bit of a way is set at a three point
  bit_set : (w : Way) (i : ℕ) → i ≡ place w → is_line_three_at rule b s d p (first w) ≡ true
      → bit_at (bit_of (three_place rule b s d p w)) i ≡ 1
  bit_set w i e h = rw (h, e) (bit_at-pow_same (place w))

  -- and at no other place
  bit_clear : (w : Way) (i : ℕ) → is_line_three_at rule b s d p (along d p i 5) ≡ false → (r : Bool)
      → is_line_three_at rule b s d p (first w) ≡ r → bit_at (bit_of (three_place rule b s d p w)) i ≡ 0
  bit_clear w i none false h = rw h (bit_at-zero i)
  bit_clear w i none true h = rw h (bit_at-pow_other (place w) i (λ same.
      let here : is_line_three_at rule b s d p (along d p i 5) ≡ true =
      ap (λ k. is_line_three_at rule b s d p (along d p k 5)) same
      ∙ ap (is_line_three_at rule b s d p) (sym (place_at w (let fewer = few w h in omega (arith, fewer)))) ∙ h in
      let differ : false ≡ true = sym none ∙ here in
      cc))

  pub three_bits : (i : ℕ) → bit_at (bit_or (bit_of (three_place rule b s d p Ahead)) (bit_of (three_place rule b s d p Behind))) i ≡ cond
      (is_line_three_at rule b s d p (along d p i 5)) 1 0
  three_bits i = bit_at_or _ _ i ∙ by_test (is_line_three_at rule b s d p (along d p i 5)) refl where
    low : (w : Way) → bit_at (bit_of (three_place rule b s d p w)) i < 2
    low w = bit_at-lt _ i

    set : (w : Way) → bit_at (bit_of (three_place rule b s d p w)) i ≡ 1
        → max (bit_at (bit_of (three_place rule b s d p Ahead)) i) (bit_at (bit_of (three_place rule b s d p Behind)) i) ≡ 1
    set Ahead h = let other = low Behind in omega (arith, h, other)
    set Behind h = let other = low Ahead in omega (arith, h, other)

    by_point : (o : Option Point) → along d p i 5 ≡ o → is_line_three_at rule b s d p o ≡ true
        → max (bit_at (bit_of (three_place rule b s d p Ahead)) i) (bit_at (bit_of (three_place rule b s d p Behind)) i) ≡ 1
    by_point None e h = cc
    by_point (Some q) e h =
        let w = three_first rule b s d p q ok mine h in
        set w.0 (bit_set w.0 i (place_is w.0 q i w.1 e) (ap (is_line_three_at rule b s d p) w.1 ∙ h))

    by_test : (r : Bool) → is_line_three_at rule b s d p (along d p i 5) ≡ r
        → max (bit_at (bit_of (three_place rule b s d p Ahead)) i) (bit_at (bit_of (three_place rule b s d p Behind)) i) ≡ cond r 1 0
    by_test true h = by_point (along d p i 5) refl h
    by_test false h =
        let ahead = bit_clear Ahead i h (is_line_three_at rule b s d p (first Ahead)) refl in
        let behind = bit_clear Behind i h (is_line_three_at rule b s d p (first Behind)) refl in
        omega (arith, ahead, behind)

  place_below : (w : Way) → stones_towards w b s d p ≤ 2 → place w < 11
  place_below Ahead h = omega arith
  place_below Behind h = omega arith

  -- a three point is on one of the places
  pub three_near : (q : Point) → is_line_three_point rule b s d p q ≡ true → (i : ℕ) × (i < 11) × (along d p i 5 ≡ Some q)
  three_near q h =
      let w = three_first rule b s d p q ok mine h in
      let here : first w.0 ≡ Some q = w.1 in
      let small : stones_towards w.0 b s d p ≤ 2 = let fewer =
      few w.0 (ap (is_line_three_at rule b s d p) here ∙ h) in omega (arith, fewer) in
      (place w.0, place_below w.0 small, sym (place_at w.0 small) ∙ here)
