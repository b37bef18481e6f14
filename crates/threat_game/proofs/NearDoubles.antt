-- Where a stone can make a double point of one that makes no two five points before it: on a line with the stone on which two others
-- of its side stand within four steps. The stone and that on the double point are in a winning run of five stones or more, with one
-- five point, so at least two more are.
use Rattle.std.proofs.Common.{◌≡◌, ◌≢◌, ◌⊎◌, inl, inr, ℕ, zero, suc, ◌+◌, ◌-◌, ◌≤◌, ◌<◌, Bool, true}
use Rattle.std.proofs.Common.{false, cond, ◌&&◌, not, length, List, [], ◌∷◌, refl, sym, ap, subst, ◌∙◌, arith}
use Rattle.std.proofs.Common.{nat_le, Option, Some, None, unwrap_or, filter, find, rules}
use Rattle.std.specs.List.{list_any, range_with_len}
use Rattle.std.proofs.lemmas.Bool.{cases_lt, false_from_ne_true, both_ways, not-true}
use Rattle.std.proofs.lemmas.Bool.Decides.{nat_tests}
use Rattle.std.proofs.lemmas.List.Sums.{length-filter, sum_by-le-sum_by}
use Rattle.game_rules.proofs.Common.{Grid, IsBoard, is_on, is_empty, put, along, points_of, holds, same_line, stone_at, wins_on, five}
use Rattle.game_rules.proofs.Common.{go, towards, opposite, stones_towards, run_end, has_five, five_points}
use Rattle.game_rules.proofs.Common.{is_double_point}
use Rattle.game_rules.specs.declared.RuleKind.{RuleKind}
use Rattle.game_rules.specs.declared.Side.{Side}
use Rattle.game_rules.specs.declared.Axis.{Axis}
use Rattle.game_rules.specs.declared.Axis.TheVariants.{Row, Column, Down, Up}
use Rattle.game_rules.specs.declared.Way.{Way}
use Rattle.game_rules.specs.declared.Way.TheVariants.{Ahead, Behind}
use Rattle.game_rules.specs.declared.Point.{Point}
use Rattle.game_rules.proofs.Axes.{some_axis, no_axis}
use Rattle.stone_board.specs.Steps.{kept_on}
use Rattle.game_rules.proofs.Boards.{kept_by, Apart, and_left, and_right, is_empty-on, is_empty-put, same_or_apart, not-apart}
use Rattle.game_rules.proofs.Boards.{holds-put_other, holds-put_same}
use Rattle.game_rules.proofs.Fives.{five-empty}
use Rattle.game_rules.proofs.Lines.{OnLine-along}
use Rattle.game_rules.proofs.OneLine.{empty-before, line_apart, line_join, wins_alike}
use Rattle.game_rules.proofs.Places.{find-some}
use Rattle.game_rules.proofs.PointLists.{any-filter}
use Rattle.game_rules.proofs.Points.{any_witness, points-found}
use Rattle.stone_board.proofs.LineBits.{IsNear, board-near}
use Rattle.stone_board.proofs.LineStones.{along-places, place_low}
use Rattle.game_rules.proofs.Positions.{IsBoard-put}
use Rattle.game_rules.proofs.RunEnds.{new_end}
use Rattle.game_rules.proofs.Tests.{more_pass}
use Rattle.game_rules.proofs.Ways.{go-then, go-same, go-opposite, go-zero, else_at, leads, leads_back}
use Rattle.game_rules.proofs.Wins.{no_win}
use Rattle.row_shapes.specs.FivePoints.{in_short, is_several}
use Rattle.row_shapes.specs.FiveEnds.{end_five, with_more}
use Rattle.row_shapes.specs.declared.fives.FivePoints.TheVariants.{None as NoPoint}
use Rattle.row_shapes.proofs.NewFives.{end_wins}
use Rattle.row_shapes.proofs.FiveLaws.{none-short}
use Rattle.open_windows.specs.OpenWindows.{in_window}
use Rattle.open_windows.proofs.Fewer.{in-before}
use Rattle.open_windows.proofs.NewFives.{end, joins-in, many, win_on}
use Rattle.threat_moves.proofs.Common.{has_double_point}
use Rattle.threat_moves.proofs.GainLaws.{several, few-double, double-empty, taken-no_gain, no_gain-double}
use Rattle.threat_game.proofs.Common.{AreNearStones, DoublesAreNear, IsInReach, is_double_on, makes_on, makes_two, reach}
use Rattle.threat_game.proofs.Common.{is_some_point, points_of_two, stones_around}
use Rattle.threat_game.specs.declared.near_stones.NearStones.{NearStones}

-- ---- tests of the numbers from 1 to 4

abbrev one : Bool → ℕ
one r = cond r 1 0

abbrev among : (ℕ → Bool) → ℕ
among f = length (filter f (range_with_len 1 4))

among-ones : (f : ℕ → Bool) → among f ≡ 0 + one (f 1) + one (f 2) + one (f 3) + one (f 4)
among-ones f = length-filter f (range_with_len 1 4)

same_one : (f g : ℕ → Bool) (k : ℕ) → f k ≡ g k → one (f k) ≡ one (g k)
same_one f g k e = ap one e

module _ (f g : ℕ → Bool) where
  -- two that are the same of them hold of as many
  among-same : ((k : ℕ) → 1 ≤ k → k ≤ 4 → f k ≡ g k) → among f ≡ among g
  among-same h = search (rules, among-ones, same_one)

  -- and two that are so but at one number, of as many but for one
  among-more : (t : ℕ) → ((k : ℕ) → 1 ≤ k → k ≢ t → f k ≡ g k) → among f ≤ among g + 1
  among-more t h = search (rules, among-ones, same_one)

-- ---- a run through a point that has three more stones and one empty point

module _ (y z : ℕ → Bool) (n b m : ℕ) (three : 3 ≤ n + b + m) (near : (j : ℕ) → 1 ≤ j → j ≤ n → y j ≡ true)
    (back : (j : ℕ) → 1 ≤ j → j ≤ b → z j ≡ true) (past : (j : ℕ) → 1 ≤ j → j ≤ m → y (1 + n + j) ≡ true) where
  held : (f : ℕ → Bool) (k : ℕ) → f k ≡ true → one (f k) ≡ 1
  held f k e = ap one e

  near_at : (j : ℕ) → 1 ≤ j → j ≤ n → one (y j) ≡ 1
  near_at j low high = held y j (near j low high)

  back_at : (j : ℕ) → 1 ≤ j → j ≤ b → one (z j) ≡ 1
  back_at j low high = held z j (back j low high)

  past_at : (k : ℕ) → 2 + n ≤ k → k ≤ 1 + n + m → one (y k) ≡ 1
  past_at k low high = held y k
      (ap y (let e : 1 + n + (k - (1 + n)) ≡ k = omega arith in sym e) ∙ past (k - (1 + n)) (omega arith) (omega arith))

  at_least : 3 ≤ among y + among z
  at_least = search (rules, among-ones, near_at, back_at, past_at)

-- ---- a stone that makes a five point

-- a stone of the side on p wins at w on the axis, where none did before
module _ (rule : RuleKind) (b : Grid) (s : Side) (p w : Point) (d : Axis) (ok : IsBoard b) (free : is_empty b p ≡ true)
    (before : wins_on rule b s d w ≡ false) (made : wins_on rule (put b s p) s d w ≡ true) where
  module _ (v : Way) (here : run_end b s d v p ≡ Some w) where
    -- three others stand within four steps of p
    three_there : 3 ≤ among (λ k. stone_at b s (go v d p k 0)) + among (λ k. stone_at b s (go v d p 0 k))
    three_there =
        let on = is_empty-on b p free in
        at_least (λ k. stone_at b s (go v d p k 0)) (λ k. stone_at b s (go v d p 0 k)) (stones_towards v b s d p)
        (stones_towards (opposite v) b s d p) (stones_towards v b s d w) (many rule b s p w d ok free made v here)
        (leads b s d p on v).holds (leads_back b s d p on v).holds
        (λ j low high. ap (stone_at b s) (sym (go-then v d p w (1 + stones_towards v b s d p) 0 j 0 here))
        ∙ (leads b s d w (win_on rule b s p w d ok free made) v).holds j low high)

-- stones on both sides of a point, whichever way is first
around : (b : Grid) (s : Side) (d : Axis) (p : Point) (v : Way) (n : ℕ)
    → n ≤ among (λ k. stone_at b s (go v d p k 0)) + among (λ k. stone_at b s (go v d p 0 k)) → n ≤ stones_around b s d p
around b s d p v n h = search rules

-- the stone itself is not among those around it
pub around-put : (b : Grid) (s : Side) (d : Axis) (p : Point) → is_on b p ≡ true → stones_around (put b s p) s d p ≡ stones_around b s d p
around-put b s d p on =
    let fore = among-same (λ k. stone_at (put b s p) s (towards Ahead d p k)) (λ k. stone_at b s (towards Ahead d p k))
    (λ k low high. else_at b s Ahead d p p 0 0 k 0 on (go-zero Ahead d p) (λ same. absurd (omega arith))) in
    let back = among-same (λ k. stone_at (put b s p) s (towards Behind d p k)) (λ k. stone_at b s (towards Behind d p k))
    (λ k low high. else_at b s Behind d p p 0 0 k 0 on (go-zero Behind d p) (λ same. absurd (omega arith))) in
    omega (arith, fore, back)

-- ---- points of one line, some steps from one another

steps_to : (d : Axis) (p q : Point) → same_line d p q ≡ true → (a : ℕ) × (c : ℕ) × (along d p a c ≡ Some q)
steps_to Row p q h = (q.x, p.x, OnLine-along Row p q.x p.x q (omega arith, grind (arith, nat_tests)))
steps_to Column p q h = (q.y, p.y, OnLine-along Column p q.y p.y q (grind (arith, nat_tests), omega arith))
steps_to Down p q h = (q.x, p.x, OnLine-along Down p q.x p.x q (omega arith, grind (arith, nat_tests)))
steps_to Up p q h = (q.x, p.x, OnLine-along Up p q.x p.x q (omega arith, grind (arith, nat_tests)))

steps_bounded : (v : Way) (d : Axis) (p q : Point) (k : ℕ) → IsNear p → IsNear q → go v d p k 0 ≡ Some q → k ≤ 31
steps_bounded v d p q k near close at = search (rules, along-places, place_low)

steps_by : (v : Way) (d : Axis) (p q : Point) → same_line d p q ≡ true → (x : ℕ) × (y : ℕ) × (go v d p x y ≡ Some q)
steps_by Ahead d p q h = steps_to d p q h
steps_by Behind d p q h = let s = steps_to d p q h in (s.1, s.0, s.2)

-- one of two ends that is kept is a five point
some_made : (o e : Option Point) (w : Point) → (o ≡ Some w) ⊎ (e ≡ Some w) → is_some_point (with_more (with_more NoPoint o) e) ≡ true
some_made o e w h = search rules

-- ---- a stone on p, and then one on q

module _ (rule : RuleKind) (b : Grid) (s : Side) (p q : Point) (ok : IsBoard b) (empty : is_empty b p ≡ true)
    (none : has_five rule (put b s p) s ≡ false) (free_q : is_empty (put b s p) q ≡ true) where
  abbrev with_p : Grid
  with_p = put b s p

  abbrev with_q : Grid
  with_q = put b s q

  abbrev full : Grid
  full = put with_p s q

  on_p : is_on b p ≡ true
  on_p = is_empty-on b p empty

  beside : Apart p q × (is_empty b q ≡ true)
  beside = empty-before b s p q ok on_p free_q

  on_q : is_on b q ≡ true
  on_q = is_empty-on b q beside.1

  ok_p : IsBoard with_p
  ok_p = IsBoard-put b s p ok

  ok_q : IsBoard with_q
  ok_q = IsBoard-put b s q ok

  ok_full : IsBoard full
  ok_full = IsBoard-put with_p s q ok_p

  turned : Apart q p
  turned = elim (same_or_apart q p) [
    | inl same ↦ absurd (both_ways _ (p_taken) (ap (is_empty with_p) (sym same) ∙ free_q))
    | inr apart ↦ apart
  ] where
    p_taken : is_empty with_p p ≡ false
    p_taken = false_from_ne_true _ (λ h. not-apart p (empty-before b s p p ok on_p h).0)

  free_p : is_empty with_q p ≡ true
  free_p = is_empty-put b s q p on_q turned ∙ empty

  -- both stones together hold what q's alone does, but p
  holds_full : (z : Point) → Apart p z → holds full s z ≡ holds with_q s z
  holds_full z apart = elim (same_or_apart q z) [
    | inl same ↦ subst (λ (v : Point). holds full s v ≡ holds with_q s v) same
        (holds-put_same with_p s q ok_p on_q ∙ sym (holds-put_same b s q ok on_q))
    | inr off ↦ holds-put_other with_p s s q z on_q off ∙ holds-put_other b s s p z on_p apart ∙ sym (holds-put_other b s s q z on_q off)
  ]

  -- the two can be put in either order
  holds_both : (z : Point) → holds full s z ≡ holds (put with_q s p) s z
  holds_both z = elim (same_or_apart p z) [
    | inl same ↦ subst (λ (v : Point). holds full s v ≡ holds (put with_q s p) s v) same
        (holds-put_other with_p s s q p on_q turned ∙ holds-put_same b s p ok on_p ∙ sym (holds-put_same with_q s p ok_q on_p))
    | inr apart ↦ holds_full z apart ∙ sym (holds-put_other with_q s s p z on_p apart)
  ]

  -- w is a five point after both stones, and none after q's alone
  module _ (w : Point) (d : Axis) (wins : wins_on rule full s d w ≡ true) (before : five rule with_q s w ≡ false) where
    free_w : is_empty full w ≡ true
    free_w = and_left (is_empty full w) _ wins

    beside_q : Apart q w × (is_empty with_p w ≡ true)
    beside_q = empty-before with_p s q w ok_p on_q free_w

    beside_p : Apart p w × (is_empty b w ≡ true)
    beside_p = empty-before b s p w ok on_p beside_q.1

    free_w_q : is_empty with_q w ≡ true
    free_w_q = is_empty-put b s q w on_q beside_q.0 ∙ beside_p.1

    no_win_q : wins_on rule with_q s d w ≡ false
    no_win_q = no_axis (λ e. wins_on rule with_q s e w) before d

    line_q : same_line d w q ≡ true
    line_q = by_test (same_line d w q) refl where
      by_test : (r : Bool) → same_line d w q ≡ r → same_line d w q ≡ true
      by_test true e = e
      by_test false off =
          let alike = wins_alike full with_p s d w (λ z line. holds-put_other with_p s s q z on_q (line_apart d w q z off line))
          refl rule ok_full ok_p
          (free_w ∙ sym beside_q.1) in
          absurd (both_ways _ (no_win rule with_p s d w none) (sym alike ∙ wins))

    line_p : same_line d w p ≡ true
    line_p = by_test (same_line d w p) refl where
      by_test : (r : Bool) → same_line d w p ≡ r → same_line d w p ≡ true
      by_test true e = e
      by_test false off =
          let alike = wins_alike full with_q s d w (λ z line. holds_full z (line_apart d w p z off line)) refl rule ok_full ok_q
          (free_w ∙ sym free_w_q) in
          absurd (both_ways _ no_win_q (sym alike ∙ wins))

    pub one_line : same_line d p q ≡ true
    one_line = line_join d w p q line_p line_q

    -- p's stone joins its run to w
    again : wins_on rule (put with_q s p) s d w ≡ true
    again =
        sym (wins_alike full (put with_q s p) s d w (λ z line. holds_both z) refl rule ok_full (IsBoard-put with_q s p ok_q)
        (free_w ∙ sym (is_empty-put with_q s p w on_p beside_p.0 ∙ free_w_q))) ∙ wins

    -- so p lies in a window with two stones, without q's
    pub in_two : in_window b s 2 p ≡ true
    in_two = in-before b s q ok beside.1 2 p (joins-in rule with_q s p w d ok_q free_p no_win_q again)

    -- q's stone makes it one on the axis
    made_on : makes_on rule with_p s d q ≡ true
    unfolding makes_on
    made_on =
        let there = new_end with_p s q ok_p free_q rule d w (no_win rule with_p s d w none) wins in
        some_made (end_five rule with_p s d q Ahead) (end_five rule with_p s d q Behind) w
        (by_way there.0 (end_wins with_p s q ok_p free_q there.0 d w there.1 rule wins)) where
          by_way : (v : Way) → end_five rule with_p s d q v ≡ Some w
              → (end_five rule with_p s d q Ahead ≡ Some w) ⊎ (end_five rule with_p s d q Behind ≡ Some w)
          by_way Ahead h = inl h
          by_way Behind h = inr h

    module _ (v : Way) (x y : ℕ) (at : go v d p x y ≡ Some q) where
      same_there : (k l : ℕ) → k ≢ l → x + l ≢ k + y → stone_at with_q s (go v d p k l) ≡ stone_at with_p s (go v d p k l)
      same_there k l off differ =
          else_at b s v d p q x y k l on_q at differ
          ∙ sym (else_at b s v d p p 0 0 k l on_p (go-zero v d p) (λ same. off (omega (arith, same))))

      module _ (here : run_end with_q s d v p ≡ Some w) where
        three : 3 ≤ among (λ k. stone_at with_q s (go v d p k 0)) + among (λ k. stone_at with_q s (go v d p 0 k))
        three = three_there rule with_q s p w d ok_q free_p no_win_q again v here

        -- two others do
        two_others : 2 ≤ stones_around with_p s d p
        two_others = around with_p s d p v 2 (elim (cases_lt x y) [
          | inl behind ↦
              let same = among-same (λ k. stone_at with_q s (go v d p k 0)) (λ k. stone_at with_p s (go v d p k 0))
              (λ k low high. same_there k 0 (λ e. absurd (omega arith)) (λ e. absurd (omega arith))) in
              let more = among-more (λ k. stone_at with_q s (go v d p 0 k)) (λ k. stone_at with_p s (go v d p 0 k)) (y - x)
              (λ k low other. same_there 0 k (λ e. absurd (omega arith)) (λ e. other (omega arith))) in
              let all = three in
              omega (arith, same, more, all)
          | inr ahead ↦
              let same = among-same (λ k. stone_at with_q s (go v d p 0 k)) (λ k. stone_at with_p s (go v d p 0 k))
              (λ k low high. same_there 0 k (λ e. absurd (omega arith)) (λ e. absurd (omega arith))) in
              let more = among-more (λ k. stone_at with_q s (go v d p k 0)) (λ k. stone_at with_p s (go v d p k 0)) (x - y)
              (λ k low other. same_there k 0 (λ e. absurd (omega arith)) (λ e. other (omega arith))) in
              let all = three in
              omega (arith, same, more, all)
        ])

        -- and three where q is further away
        three_others : (4 + y < x) ⊎ (4 + x < y) → 3 ≤ stones_around with_p s d p
        three_others far = around with_p s d p v 3 (
            let fore = among-same (λ k. stone_at with_q s (go v d p k 0)) (λ k. stone_at with_p s (go v d p k 0))
            (λ k low high. same_there k 0 (λ e. absurd (omega arith)) (λ e. apart k 0 high (omega arith) e)) in
            let back = among-same (λ k. stone_at with_q s (go v d p 0 k)) (λ k. stone_at with_p s (go v d p 0 k))
            (λ k low high. same_there 0 k (λ e. absurd (omega arith)) (λ e. apart 0 k (omega arith) high e)) in
            let all = three in
            omega (arith, fore, back, all)) where
              apart : (k l : ℕ) → k ≤ 4 → l ≤ 4 → x + l ≡ k + y → ⊥
              apart k l a c e = elim far [ inl ahead ↦ absurd (omega arith) | inr behind ↦ absurd (omega arith) ]

        reach_two : (n k : ℕ) → 2 ≤ n → k ≤ 4 → k ≤ reach n
        reach_two n k two low = grind (arith, nat_tests)

        reach_three : (n k : ℕ) → 3 ≤ n → k ≤ 31 → k ≤ reach n
        reach_three n k three low = grind (arith, nat_tests)

        -- so q is as near as may be, however many steps away
        within : (k : ℕ) → k ≤ 31 → (x ≡ k + y) ⊎ (y ≡ k + x) → k ≤ reach (stones_around with_p s d p)
        within k low is = elim (cases_lt 4 k) [
          | inl far ↦ reach_three _ k (three_others (elim is [
            | inl ahead ↦ inl (omega arith)
            | inr behind ↦ inr (omega arith)
          ])) low
          | inr close ↦ reach_two _ k two_others close
        ]

    pub in_reach : IsInReach rule with_p s p q
    in_reach =
        let there = end rule with_q s p w d ok_q free_p no_win_q again in
        let at = steps_by there.0 d p q one_line in
        by_side there.0 there.1 at.0 at.1 at.2 (cases_lt at.0 at.1) where
          near_board : (v : Way) (k : ℕ) → go v d p k 0 ≡ Some q → k ≤ 31
          near_board v k at = steps_bounded v d p q k (board-near b p ok on_p) (board-near b q ok on_q) at

          some_steps : (v : Way) (k : ℕ) → go v d p k 0 ≡ Some q → 1 ≤ k
          some_steps v zero at = absurd (not-apart q (subst (λ (r : Point). Apart r q) (same (sym (go-zero v d p) ∙ at)) beside.0)) where
            same : (e : Some p ≡ Some q) → p ≡ q
            same e = cc
          some_steps v (suc k) at = omega arith

          by_side : (v : Way) (here : run_end with_q s d v p ≡ Some w) (x y : ℕ) (at : go v d p x y ≡ Some q)
              → (x < y) ⊎ (y ≤ x) → IsInReach rule with_p s p q
          by_side v here x y at (inl behind) =
              let back : go (opposite v) d p (y - x) 0 ≡ Some q =
              go-opposite v d p (y - x) 0 ∙ go-same v d p 0 (y - x) x y (omega arith) ∙ at in record {
                axis = d;
                way = opposite v;
                steps = y - x;
                some = omega arith;
                near = within v x y at here (y - x) (near_board (opposite v) (y - x) back) (inr (omega arith));
                at = back;
                made = made_on;
              }
          by_side v here x y at (inr ahead) =
              let fore : go v d p (x - y) 0 ≡ Some q = go-same v d p (x - y) 0 x y (omega arith) ∙ at in record {
                axis = d;
                way = v;
                steps = x - y;
                some = some_steps v (x - y) fore;
                near = within v x y at here (x - y) (near_board v (x - y) fore) (inl (omega arith));
                at = fore;
                made = made_on;
              }

  -- ---- two five points after both stones

  -- a five point that q's stone alone doesn't make
  abbrev new_there : Point → Bool
  new_there w = five rule full s w && not (five rule with_q s w)

  -- where there is none, q makes two before p does
  none_new : list_any new_there (points_of b) ≡ false → (w : Point) → five rule full s w ≡ true → five rule with_q s w ≡ true
  none_new quiet w made = by_test (five rule with_q s w) refl where
    by_test : (r : Bool) → five rule with_q s w ≡ r → five rule with_q s w ≡ true
    by_test true e = e
    by_test false e = absurd (both_ways _ quiet (points-found b new_there w on_w (rw (made, e) refl))) where
      on_w : is_on b w ≡ true
      on_w = is_empty-on full w (five-empty rule full s w made)

  more_then : list_any new_there (points_of b) ≡ false → length (five_points rule full s) ≤ length (five_points rule with_q s)
  more_then quiet =
      let more = sum_by-le-sum_by (λ w. cond (five rule full s w) 1 0) (λ w. cond (five rule with_q s w) 1 0) (points_of b)
      (λ w. more_pass _ _ (none_new quiet w)) in
      rw (length-filter (five rule full s) (points_of b), length-filter (five rule with_q s) (points_of b)) more

  two_before : makes_two rule b s q ≡ false → nat_le 2 (length (five_points rule full s)) ≡ true
      → list_any new_there (points_of b) ≡ true
  two_before quiet two = search (rules, more_then, several, both_ways)

  -- else it makes one where p's stone joins its run
  pub joined_when : makes_two rule b s q ≡ false → is_several (in_short (five_points rule full s)) ≡ true
      → IsInReach rule with_p s p q × (in_window b s 2 p ≡ true)
  joined_when quiet two =
      let many : nat_le 2 (length (five_points rule full s)) ≡ true = sym (several (five_points rule full s)) ∙ two in
      let w : Point = unwrap_or (find new_there (points_of b)) p in
      let new = find-some new_there (points_of b) p (two_before quiet many) in
      let made = some_axis (λ d. wins_on rule full s d w) (and_left (five rule full s w) _ new) in
      let before = not-true (five rule with_q s w) (and_right (five rule full s w) _ new) in
      (in_reach w made.0 made.1 before, in_two w made.0 made.1 before)

-- ---- as the code tells it

-- a double point after a stone on p that leaves no five point made two before it, or is near p, which lies in a window with two stones
module _ (rule : RuleKind) (b : Grid) (s : Side) (p : Point) (ok : IsBoard b) (empty : is_empty b p ≡ true)
    (none : has_five rule (put b s p) s ≡ false) where
  double-joined : list_any (is_double_point rule (put b s p) s) (points_of_two rule b s) ≡ false → (q : Point)
      → is_double_point rule (put b s p) s q ≡ true → IsInReach rule (put b s p) s p q × (in_window b s 2 p ≡ true)
  double-joined none_two q double = by_two (makes_two rule b s q) refl where
    by_test : makes_two rule b s q ≡ false → (r : Bool) → is_several (in_short (five_points rule (put (put b s p) s q) s)) ≡ r
        → IsInReach rule (put b s p) s p q × (in_window b s 2 p ≡ true)
    by_test quiet true two = joined_when rule b s p q ok empty none (double-empty rule (put b s p) s q double) quiet two
    by_test quiet false few = absurd (both_ways _ (few-double rule (put b s p) s q few) double)

    by_two : (r : Bool) → makes_two rule b s q ≡ r → IsInReach rule (put b s p) s p q × (in_window b s 2 p ≡ true)
    by_two false quiet = by_test quiet (is_several (in_short (five_points rule (put (put b s p) s q) s))) refl
    by_two true two =
        let both : (makes_two rule b s q && is_double_point rule (put b s p) s q) ≡ true = rw (two, double) refl in
        absurd (both_ways _ none_two (any-filter (makes_two rule b s) (is_double_point rule (put b s p) s) (points_of b)
        ∙ points-found b (λ x. makes_two rule b s x && is_double_point rule (put b s p) s x) q
        (is_empty-on b q (and_left (is_empty b q) _ two)) both))

  pub doubles-near : DoublesAreNear rule (put b s p) s p (points_of_two rule b s)
  doubles-near = record { near = λ none_two q double. (double-joined none_two q double).0 }

  -- where no point makes two, a stone outside such windows leaves no double point
  pub outside-no_new_double : in_window b s 2 p ≡ false → points_of_two rule b s ≡ [] → has_double_point rule (put b s p) s ≡ false
  outside-no_new_double out quiet = false_from_ne_true _ (λ h.
      let found = any_witness (is_double_point rule (put b s p) s) (points_of (put b s p)) h in
      let no_two : list_any (is_double_point rule (put b s p) s) (points_of_two rule b s) ≡ false =
      ap (list_any (is_double_point rule (put b s p) s)) quiet in
      both_ways _ out (double-joined no_two found.0 found.1).1)

-- ---- at most so many stones on each axis

abbrev pub near_on : NearStones → Axis → ℕ
near_on near Row = near.row
near_on near Column = near.column
near_on near Down = near.down
near_on near Up = near.up

reach-more : (m n : ℕ) → m ≤ n → reach m ≤ reach n
reach-more m n h = grind (arith, nat_tests)

module _ (b : Grid) (s : Side) (p : Point) (near : NearStones) (are : AreNearStones b s p near) where
  at_most : (d : Axis) → stones_around b s d p ≤ near_on near d
  at_most d = search rules

  -- where no double point was found as near as it may be, there is none
  pub none-near : (rule : RuleKind) → ((q : Point) → is_double_point rule b s q ≡ true → IsInReach rule b s p q)
      → ((d : Axis) (w : Way) (k : ℕ) → 1 ≤ k → k ≤ reach (near_on near d) → is_double_on rule b s d (towards w d p k) ≡ false)
      → has_double_point rule b s ≡ false
  none-near rule far none = false_from_ne_true _ (λ h.
      let found = any_witness (is_double_point rule b s) (points_of b) h in
      let at = far found.0 found.1 in
      let low = at.near in
      let more = reach-more (stones_around b s at.axis p) (near_on near at.axis) (at_most at.axis) in
      let both : (makes_on rule b s at.axis found.0 && is_double_point rule b s found.0) ≡ true = rw (at.made, found.1) refl in
      both_ways _ (none at.axis at.way at.steps at.some (omega (arith, low, more))) (ap (is_double_on rule b s at.axis) at.at ∙ both))

  -- the same holds once a stone stands on the point
  pub near-put : is_on b p ≡ true → AreNearStones (put b s p) s p near
  near-put on =
      let r = around-put b s Row p on in
      let c = around-put b s Column p on in
      let d = around-put b s Down p on in
      let u = around-put b s Up p on in
      record {
        row = rw r are.row;
        column = rw c are.column;
        down = rw d are.down;
        up = rw u are.up;
      }

-- a stone that leaves no five point is on no double point
pub no_five-no_double : (rule : RuleKind) (b : Grid) (s : Side) (q : Point) → has_five rule (put b s q) s ≡ false
    → is_double_point rule b s q ≡ false
no_five-no_double rule b s q none = few-double rule b s q (ap is_several (none-short rule (put b s q) s none))

-- ---- a point some steps away

-- not both where the second is not
second_no : (r t : Bool) → t ≡ false → (r && t) ≡ false
second_no r t h = search rules

-- where it is taken it is no double point
pub taken-no_double : (rule : RuleKind) (b : Grid) (s : Side) (d : Axis) (q : Point) → is_empty b q ≡ false
    → false ≡ (makes_on rule b s d q && is_double_point rule b s q)
taken-no_double rule b s d q taken = sym (second_no (makes_on rule b s d q) _ (no_gain-double rule b s q (taken-no_gain rule b s q taken)))

-- nor where it is off the board
pub at-none : (rule : RuleKind) (b : Grid) (s : Side) (d : Axis) (o : Option Point) → kept_on b o ≡ None → false ≡ is_double_on rule b s d o
at-none rule b s d o h = search (rules, taken-no_double, false_from_ne_true, both_ways, is_empty-on)

pub at-some : (rule : RuleKind) (b : Grid) (s : Side) (d : Axis) (o : Option Point) (q : Point) → kept_on b o ≡ Some q
    → (makes_on rule b s d q && is_double_point rule b s q) ≡ is_double_on rule b s d o
at-some rule b s d o q h = search (rules, kept_by)

-- one that is a double point is found
pub at-found : (rule : RuleKind) (b : Grid) (s : Side) (d : Axis) (o : Option Point) → is_double_on rule b s d o ≡ true
    → has_double_point rule b s ≡ true
at-found rule b s d o h = search (rules, and_right, points-found, is_empty-on, double-empty)

-- where one of some points is a double point, the side has one
pub some-found : (rule : RuleKind) (b : Grid) (s : Side) (points : List Point) → list_any (is_double_point rule b s) points ≡ true
    → true ≡ has_double_point rule b s
some-found rule b s [] h = cc
some-found rule b s (q ∷ more) h = search (rules, points-found, is_empty-on, double-empty, some-found rule b s more)

-- no point on the axis as near as that is a double point whose stone makes a five point on the axis
abbrev pub NoneOn : RuleKind → Grid → Side → Point → Axis → ℕ → Type 0
NoneOn rule b s p d n = (w : Way) (k : ℕ) → 1 ≤ k → k ≤ reach n → is_double_on rule b s d (towards w d p k) ≡ false

-- where none was found on three axes, the fourth tells
pub last-told : (rule : RuleKind) (b : Grid) (s : Side) (p : Point) (near : NearStones) → AreNearStones b s p near
    → ((q : Point) → is_double_point rule b s q ≡ true → IsInReach rule b s p q)
    → NoneOn rule b s p Row near.row → NoneOn rule b s p Column near.column → NoneOn rule b s p Down near.down
    → (r : Bool) → (r ≡ true → has_double_point rule b s ≡ true) → (r ≡ false → NoneOn rule b s p Up near.up)
    → r ≡ has_double_point rule b s
last-told rule b s p near are far row column down true some none = sym (some refl)
last-told rule b s p near are far row column down false some none = sym (none-near b s p near are rule far on) where
  on : (d : Axis) → NoneOn rule b s p d (near_on near d)
  on Row = row
  on Column = column
  on Down = down
  on Up = none refl
