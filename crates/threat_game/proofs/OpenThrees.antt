-- A stone that makes a five point on an axis lies among five places in a row that hold three stones of its side and none of the other:
-- so the bits of its line tell where none does.
use Rattle.std.proofs.Common.{◌≡◌, ◌≢◌, ◌⊎◌, inl, inr, ℕ, zero, suc, ◌+◌, ◌-◌}
use Rattle.std.proofs.Common.{◌/◌, ◌%◌, ◌^◌, ◌≤◌, ◌<◌, min, max, Bool, true, false, cond}
use Rattle.std.proofs.Common.{◌&&◌, nat_eq, refl, sym, ap, subst, ◌∙◌, arith, Option, Some, None, bit_and, bit_or}
use Rattle.std.specs.Prelude.{bit_xor}
use Rattle.std.specs.Int.{bit_at}
use Rattle.std.proofs.lemmas.Bool.{false_from_ne_true, not-true}
use Rattle.std.proofs.lemmas.Bool.Decides.{nat_tests}
use Rattle.std.proofs.lemmas.Nat.Bits.{bit_at_and, bit_at_or, bit_at_xor, bit_at-lt, bit_at-zero}
use Rattle.game_rules.proofs.Common.{Grid, IsBoard, is_on, is_empty, put, along, holds, stone_at, wins_on, other, towards, stones_towards}
use Rattle.game_rules.proofs.Common.{is_double_point, run_end}
use Rattle.game_rules.specs.declared.RuleKind.{RuleKind}
use Rattle.game_rules.specs.declared.Side.{Side}
use Rattle.game_rules.specs.declared.Axis.{Axis}
use Rattle.game_rules.specs.declared.Way.{Way}
use Rattle.game_rules.specs.declared.Way.TheVariants.{Ahead, Behind}
use Rattle.game_rules.specs.declared.Point.{Point}
use Rattle.game_rules.proofs.Boards.{kept_by, and_left, and_right, is_empty-on}
use Rattle.game_rules.proofs.OneLine.{empty-before}
use Rattle.stone_board.specs.Lines.{line_of, place_on, place_towards, places_left, TellsLine}
use Rattle.stone_board.specs.Steps.{kept_on}
use Rattle.stone_board.proofs.LineBits.{board-near}
use Rattle.stone_board.proofs.LineStones.{along-places, empty_bit, place_low, stone_bit}
use Rattle.stone_board.proofs.Ones.{bit_shr}
use Rattle.row_shapes.specs.FiveEnds.{end_five, with_more}
use Rattle.row_shapes.specs.declared.fives.FivePoints.TheVariants.{None as NoPoint}
use Rattle.row_shapes.proofs.NewFives.{kept_five-Some}
use Rattle.open_windows.specs.OpenWindows.{is_open_at}
use Rattle.open_windows.proofs.NewFives.{many}
use Rattle.open_windows.proofs.OpenRuns.{Inside, stone_there, open_there}
use Rattle.open_windows.proofs.Points.{count_five, open-point, three_of_five}
use Rattle.threat_game.specs.OpenThrees.{AreStarts, IsOpenThree, IsPassed, NoneNear}
use Rattle.threat_game.specs.NearDoubles.{is_double_on, is_some_point, makes_on}
use Rattle.threat_game.proofs.NearDoubles.{at-none, at-some, taken-no_double}

-- ---- the bits

module _ (own theirs : ℕ) where
  abbrev pub three : ℕ
  three = bit_or (bit_or (bit_and (bit_and own (own / 2 ^ 1)) (bit_or (bit_or (own / 2 ^ 2) (own / 2 ^ 3)) (own / 2 ^ 4)))
      (bit_and (bit_and (own / 2 ^ 2) (own / 2 ^ 3)) (bit_or (bit_or own (own / 2 ^ 1)) (own / 2 ^ 4))))
      (bit_and (bit_and (bit_or own (own / 2 ^ 1)) (bit_or (own / 2 ^ 2) (own / 2 ^ 3))) (own / 2 ^ 4))

  abbrev pub taken : ℕ
  taken = bit_or (bit_or (bit_or (bit_or theirs (theirs / 2 ^ 1)) (theirs / 2 ^ 2)) (theirs / 2 ^ 3)) (theirs / 2 ^ 4)

-- three of five bits that are set
three_set : (a c e f g : ℕ) → a < 2 → c < 2 → e < 2 → f < 2 → g < 2 → 3 ≤ a + c + e + f + g
    → max (max (min (min a c) (max (max e f) g)) (min (min e f) (max (max a c) g))) (min (min (max a c) (max e f)) g) ≡ 1
three_set zero zero e f g la lc le lf lg h = omega arith
three_set zero (suc zero) e f g la lc le lf lg h = omega arith
three_set (suc zero) zero e f g la lc le lf lg h = omega arith
three_set (suc zero) (suc zero) zero zero g la lc le lf lg h = omega arith
three_set (suc zero) (suc zero) zero (suc zero) g la lc le lf lg h = omega arith
three_set (suc zero) (suc zero) (suc zero) zero g la lc le lf lg h = omega arith
three_set (suc zero) (suc zero) (suc zero) (suc zero) g la lc le lf lg h = omega arith
three_set (suc zero) (suc zero) e f g la lc le lf lg h = absurd (omega (arith, le, lf))
three_set (suc (suc a)) c e f g la lc le lf lg h = absurd (omega (arith, la))
three_set a (suc (suc c)) e f g la lc le lf lg h = absurd (omega (arith, lc))

module _ (own theirs i : ℕ) (is : IsOpenThree own theirs i) where
  here : i + 0 ≡ i
  here = omega arith

  three_bit : bit_at (three own theirs) i ≡ 1
  three_bit =
      let b = own / 2 ^ 1 in let c = own / 2 ^ 2 in let d = own / 2 ^ 3 in let e = own / 2 ^ 4 in
      let all : 3 ≤ bit_at own i + bit_at b i + bit_at c i + bit_at d i + bit_at e i =
      rw (bit_shr own 1 i, bit_shr own 2 i, bit_shr own 3 i, bit_shr own 4 i) (subst (λ (m : ℕ). 3 ≤ bit_at own m + bit_at own (i + 1)
      + bit_at own (i + 2) + bit_at own (i + 3) + bit_at own (i + 4)) here is.many) in
      simp (bit_at_or, bit_at_and) (three_set (bit_at own i) (bit_at b i) (bit_at c i) (bit_at d i) (bit_at e i) (bit_at-lt own i)
      (bit_at-lt b i) (bit_at-lt c i) (bit_at-lt d i) (bit_at-lt e i) all)

  taken_bit : bit_at (taken own theirs) i ≡ 0
  taken_bit =
      let c0 : bit_at theirs i ≡ 0 = ap (bit_at theirs) (sym here) ∙ is.clear 0 (omega arith) in
      let c1 = bit_shr theirs 1 i ∙ is.clear 1 (omega arith) in let c2 = bit_shr theirs 2 i ∙ is.clear 2 (omega arith) in
      let c3 = bit_shr theirs 3 i ∙ is.clear 3 (omega arith) in let c4 = bit_shr theirs 4 i ∙ is.clear 4 (omega arith) in
      simp (bit_at_or, c0, c1, c2, c3, c4)

  pub start-bit : bit_at (bit_xor (bit_or (three own theirs) (taken own theirs)) (taken own theirs)) i ≡ 1
  start-bit =
      let one = three_bit in let none = taken_bit in
      bit_at_xor (bit_or (three own theirs) (taken own theirs)) (taken own theirs) i
      ∙ ap (λ m. (m + bit_at (taken own theirs) i) % 2) (bit_at_or (three own theirs) (taken own theirs) i) ∙ rw (one, none) refl

-- ---- the places

-- some five places in a row with this one among them are such
pub record HasOpenThree (own theirs place : ℕ) : Type 0 where
  pub start : ℕ
  pub back : ℕ
  pub near : back < 5
  pub same : start + back ≡ place
  pub three : IsOpenThree own theirs start

hit : (m : ℕ) → cond (nat_eq m 1) 1 0 ≤ m
hit m = grind (arith, nat_tests)

is_one : (m : ℕ) → m ≡ 1 → nat_eq m 1 ≡ true
is_one m h = rw h refl

module _ (b : Grid) (s : Side) (d : Axis) (q : Point) (own theirs : ℕ) (ok : IsBoard b) (free : is_empty b q ≡ true)
    (mine : TellsLine b s d (line_of d q) own) (rival : TellsLine b (other s) d (line_of d q) theirs) where
  on_q : is_on b q ≡ true
  on_q = is_empty-on b q free

  -- the bits of a point some steps along
  module _ (ahead back i : ℕ) (at : i + back ≡ place_on d q + ahead) where
    own_bit : (o : Option Point) → along d q ahead back ≡ o → stone_at b s o ≡ true → bit_at own i ≡ 1
    own_bit None there h = cc
    own_bit (Some r) there h =
        let steps = along-places d q r ahead back (board-near b q ok on_q) (board-near b r ok (and_left (is_on b r) _ h)) there in
        let same : i ≡ place_on d r = let p = steps.place in omega (arith, p, at) in
        ap (bit_at own) same ∙ stone_bit b s d (line_of d q) own ok mine r steps.line h

    their_bit : (o : Option Point) → along d q ahead back ≡ o → is_open_at b s o ≡ true → bit_at theirs i ≡ 0
    their_bit None there h = cc
    their_bit (Some r) there h =
        let on : is_on b r ≡ true = and_left (is_on b r) _ h in
        let steps = along-places d q r ahead back (board-near b q ok on_q) (board-near b r ok on) there in
        let same : i ≡ place_on d r = let p = steps.place in omega (arith, p, at) in
        ap (bit_at theirs) same ∙ rival.stones r on steps.line
        ∙ ap (λ t. cond t 1 0) (not-true (holds b (other s) r) (and_right (is_on b r) _ h))

  -- a window of the line from t places before q on
  from_window : (t u : ℕ) → t < 5 → ((k : ℕ) → k < 5 → is_open_at b s (along d q k t) ≡ true)
      → ((k : ℕ) → k < 5 → k ≢ t → k ≢ u → stone_at b s (along d q k t) ≡ true) → HasOpenThree own theirs (place_on d q)
  from_window t u near opens stones =
      let first = open-point b s (along d q 0 t) (opens 0 (omega arith)) in
      let low : t ≤ place_on d q =
      let steps = along-places d q first.0 0 t (board-near b q ok on_q)
      (board-near b first.0 ok (and_left (is_on b first.0) _ (ap (is_open_at b s) (sym first.1) ∙ opens 0 (omega arith)))) first.1 in
      let p = steps.place in omega (arith, p) in
      let at : (k : ℕ) → place_on d q - t + k + t ≡ place_on d q + k = λ k. omega (arith, low) in
      let f : ℕ → Bool = λ k. nat_eq (bit_at own (place_on d q - t + k)) 1 in
      let three = three_of_five f t u
      (λ k low off_t off_u. is_one _ (own_bit k t _ (at k) (along d q k t) refl (stones k low off_t off_u))) in
      let sum = count_five f in
      let h0 = hit (bit_at own (place_on d q - t + 0)) in let h1 = hit (bit_at own (place_on d q - t + 1)) in
      let h2 = hit (bit_at own (place_on d q - t + 2)) in let h3 = hit (bit_at own (place_on d q - t + 3)) in
      let h4 = hit (bit_at own (place_on d q - t + 4)) in
      record {
        start = place_on d q - t;
        back = t;
        near = near;
        same = omega (arith, low);
        three = record {
          many = omega (arith, three, sum, h0, h1, h2, h3, h4);
          clear = λ k low. their_bit k t _ (at k) (along d q k t) refl (opens k low);
        };
      }

  module _ (rule : RuleKind) (w : Point) (made : wins_on rule (put b s q) s d w ≡ true) where
    free_w : is_empty b w ≡ true
    free_w = (empty-before b s q w ok on_q (and_left (is_empty (put b s q) w) _ made)).1

    -- where w is an end of q's run
    by_way : (v : Way) → run_end b s d v q ≡ Some w → HasOpenThree own theirs (place_on d q)
    by_way Ahead end =
        let t : ℕ = min (stones_towards Behind b s d q) 4 in
        let sum = many rule b s q w d ok free made Ahead end in
        let inside : (k : ℕ) → k < 5 → Inside b s d q w Ahead k t = λ k near. (omega arith, omega (arith, near, sum)) in
        from_window t (t + (1 + stones_towards Ahead b s d q)) (omega arith)
        (λ k near. open_there b s d q w free free_w Ahead end k t (inside k near))
        (λ k near off_q off_w. stone_there b s d q w free free_w Ahead end k t (inside k near) off_q off_w)
    by_way Behind end =
        let t : ℕ = 4 - min (stones_towards Ahead b s d q) 4 in
        let sum = many rule b s q w d ok free made Behind end in
        let inside : (k : ℕ) → k < 5 → Inside b s d q w Behind t k = λ k near. (omega (arith, sum), omega (arith, near)) in
        from_window t (t - (1 + stones_towards Behind b s d q)) (omega arith)
        (λ k near. open_there b s d q w free free_w Behind end t k (inside k near))
        (λ k near off_q off_w. stone_there b s d q w free free_w Behind end t k (inside k near) (λ same. off_q (omega (arith, same)))
        (λ same. off_w (omega (arith, same))))

  some_end : (o e : Option Point) → is_some_point (with_more (with_more NoPoint o) e) ≡ true
      → (w : Point) × ((o ≡ Some w) ⊎ (e ≡ Some w))
  some_end None None h = cc
  some_end None (Some w) h = (w, inr refl)
  some_end (Some w) e h = (w, inl refl)

  module _ (rule : RuleKind) where
    from_end : (v : Way) (w : Point) → end_five rule b s d q v ≡ Some w → HasOpenThree own theirs (place_on d q)
    unfolding end_five
    from_end v w h =
        let kept = kept_five-Some rule (put b s q) s d (run_end b s d v q) w h in
        by_way rule w kept.1 v kept.0

    pub makes-three : makes_on rule b s d q ≡ true → HasOpenThree own theirs (place_on d q)
    unfolding makes_on
    makes-three h =
        let found = some_end (end_five rule b s d q Ahead) (end_five rule b s d q Behind) h in
        elim found.1 [ inl ahead ↦ from_end Ahead found.0 ahead | inr behind ↦ from_end Behind found.0 behind ]

-- where no such five places have a point's among them, a stone on it makes no five point
pub starts-of : (b : Grid) (s : Side) (d : Axis) (n own theirs starts : ℕ) → IsBoard b → TellsLine b s d n own
    → TellsLine b (other s) d n theirs → ((i : ℕ) → IsOpenThree own theirs i → bit_at starts i ≡ 1) → AreStarts b s d n starts
starts-of b s d n own theirs starts ok mine rival told = record {
  board = ok;
  none = λ rule q free line far. false_from_ne_true _ (λ h.
      let at = makes-three b s d q own theirs ok free (rw line mine) (rw line rival) rule h in
      let bit : 0 ≡ 1 = sym (far at.start at.back at.near at.same) ∙ told at.start at.three in
      absurd (omega (arith, bit)));
}

-- a point that is kept is the point, and on the board
pub kept-is : (b : Grid) (o : Option Point) (q : Point) → kept_on b o ≡ Some q → (o ≡ Some q) × (is_on b q ≡ true)
kept-is b None q h = cc
kept-is b (Some p) q h =
    let kept = kept_by b p q (is_on b p) refl h in
    (ap (λ (r : Point). Some r) kept.0, ap (is_on b) (sym kept.0) ∙ kept.1)

-- a point some steps away is on the line, so many places on
module _ (b : Grid) (d : Axis) (p q : Point) (ok : IsBoard b) (on : is_on b p ≡ true) (on_q : is_on b q ≡ true) (k : ℕ) where
  step-line : (w : Way) → towards w d p k ≡ Some q → line_of d q ≡ line_of d p
  step-line Ahead at = (along-places d p q k 0 (board-near b p ok on) (board-near b q ok on_q) at).line
  step-line Behind at = (along-places d p q 0 k (board-near b p ok on) (board-near b q ok on_q) at).line

  step-place : (w : Way) → towards w d p k ≡ Some q → (place_towards w (place_on d p) k ≡ place_on d q) × (k ≤ places_left w (place_on d p))
  step-place Ahead at =
      let steps = (along-places d p q k 0 (board-near b p ok on) (board-near b q ok on_q) at).place in
      let low = place_low d q (board-near b q ok on_q) in
      (omega (arith, steps), omega (arith, steps, low))
  step-place Behind at =
      let steps = (along-places d p q 0 k (board-near b p ok on) (board-near b q ok on_q) at).place in
      (omega (arith, steps), omega (arith, steps))

module _ (rule : RuleKind) (b : Grid) (s : Side) (d : Axis) (p : Point) (own starts : ℕ) (on : is_on b p ≡ true)
    (tells : TellsLine b s d (line_of d p) own) (are : AreStarts b s d (line_of d p) starts) where
  -- a point near which no such five places begin is no double point by its stone on the line
  pub far-away : (w : Way) (k : ℕ) → (k ≤ places_left w (place_on d p) → IsPassed own starts (place_towards w (place_on d p) k))
      → is_double_on rule b s d (towards w d p k) ≡ false
  far-away w k far = by_kept (kept_on b (towards w d p k)) refl where
    by_kept : (o : Option Point) → kept_on b (towards w d p k) ≡ o → is_double_on rule b s d (towards w d p k) ≡ false
    by_kept None there = sym (at-none rule b s d (towards w d p k) there)
    by_kept (Some q) there = sym (at-some rule b s d (towards w d p k) q there) ∙ by_test (is_empty b q) refl where
      by_test : (r : Bool) → is_empty b q ≡ r → (makes_on rule b s d q && is_double_point rule b s q) ≡ false
      by_test false e = sym (taken-no_double rule b s d q e)
      by_test true e =
          let at = kept-is b _ q there in
          let place = step-place b d p q are.board on at.1 k w at.0 in
          let line = step-line b d p q are.board on at.1 k w at.0 in
          let clear : bit_at own (place_towards w (place_on d p) k) ≡ 0 =
          ap (bit_at own) place.0 ∙ empty_bit b s d (line_of d p) own are.board tells q line e in
          ap (λ r. r && is_double_point rule b s q) (are.none rule q e line (subst (NoneNear starts) place.0 (far place.1 clear)))

  -- nor is any point of a line on which none begin
  pub none-away : starts ≡ 0 → (w : Way) (k : ℕ) → is_double_on rule b s d (towards w d p k) ≡ false
  none-away none w k = far-away w k (λ left clear i back near at. ap (λ m. bit_at m i) none ∙ bit_at-zero i)
