-- A four is filled at one of the two ends of its run, and the run has three other stones within reach.
use Rattle.std.proofs.Common.{◌≡◌, inl, inr, ◌≤◌, ◌<◌, Bool, true, false, cond, ◌||◌, refl, sym, ap, ◌∙◌, arith, Option, Some, None}
use Rattle.std.proofs.Common.{is_some, filter}
use Rattle.std.proofs.lemmas.Bool.{both_ways, false_from_ne_true, or_left, or_right, or_cases}
use Rattle.game_rules.proofs.Common.{Grid, IsBoard, is_empty, holds, put, points_of, wins_on, is_at, is_in_run, stones_towards, run_end}
use Rattle.game_rules.specs.declared.RuleKind.{RuleKind}
use Rattle.game_rules.specs.declared.Side.{Side}
use Rattle.game_rules.specs.declared.Axis.{Axis}
use Rattle.game_rules.specs.declared.Way.{Way}
use Rattle.game_rules.specs.declared.Way.TheVariants.{Ahead, Behind}
use Rattle.game_rules.specs.declared.Point.{Point}
use Rattle.game_rules.proofs.Boards.{and_left, and_right, is_empty-on}
use Rattle.game_rules.proofs.Points.{points-found, any_witness, none_of, is_same_point-itself, is_at-Some}
use Rattle.game_rules.proofs.Ways.{run_before_end}
use Rattle.game_rules.proofs.Wins.{wins_on-ways, row_wins-five}
use Rattle.game_rules.proofs.RunEnds.{in_run-end, end_in_run}
use Rattle.row_shapes.specs.Reach.{stones_past, reach_towards, stones_in_reach}
use Rattle.row_shapes.proofs.NewFives.{kept_five-Some}
use Rattle.threat_moves.specs.declared.threat_list.ThreatKind.TheVariants.{Four}
use Rattle.threat_moves.proofs.Common.{fills_five, makes_threat, five_end, is_five_end}

-- ---- tests

-- two tests of which each follows from the other
pub same_tests : (r t : Bool) → (r ≡ true → t ≡ true) → (t ≡ true → r ≡ true) → r ≡ t
same_tests true t h k = sym (h refl)
same_tests false true h k = k refl
same_tests false false h k = refl

-- ---- the five points of one axis

module _ (rule : RuleKind) (b : Grid) (s : Side) (d : Axis) (g : Point) (ok : IsBoard b) (mine : holds b s g ≡ true) where
  module _ (c : Point) where
    pub fills_wins : fills_five rule b s d g c ≡ true → wins_on rule b s d c ≡ true
    unfolding fills_five
    fills_wins h = and_left (wins_on rule b s d c) _ h

    fills_in_run : fills_five rule b s d g c ≡ true → is_in_run (put b s c) s d g c ≡ true
    unfolding fills_five
    fills_in_run h = and_right (wins_on rule b s d c) _ h

    fills_by : wins_on rule b s d c ≡ true → is_in_run (put b s c) s d g c ≡ true → fills_five rule b s d g c ≡ true
    unfolding fills_five
    fills_by h k = rw (h, k) refl

    wins_empty : wins_on rule b s d c ≡ true → is_empty b c ≡ true
    wins_empty h = and_left (is_empty b c) _ h

    -- a point that fills a four is an end of its run
    pub fills_first : fills_five rule b s d g c ≡ true → (w : Way) × (run_end b s d w g ≡ Some c)
    fills_first h = in_run-end b s d g c ok mine (wins_empty (fills_wins h)) (fills_in_run h)

    -- and an end that wins fills a four
    end_fills : (w : Way) → is_at c (five_end rule b s d g w) ≡ true → fills_five rule b s d g c ≡ true
    end_fills w h =
        let both = kept_five-Some rule b s d (run_end b s d w g) c (is_at-Some c (five_end rule b s d g w) h) in
        fills_by both.1 (end_in_run b s w d g c ok mine (wins_empty both.1) both.0)

    fills_end : fills_five rule b s d g c ≡ true → is_five_end rule b s d g c ≡ true
    fills_end h = by_way (fills_first h).0 (fills_first h).1 where
      at : (w : Way) → run_end b s d w g ≡ Some c → is_at c (five_end rule b s d g w) ≡ true
      at w here = rw (here, fills_wins h) (is_same_point-itself c)

      by_way : (w : Way) → run_end b s d w g ≡ Some c → is_five_end rule b s d g c ≡ true
      by_way Ahead here = or_left _ _ (at Ahead here)
      by_way Behind here = or_right _ _ (at Behind here)

    end_by : is_five_end rule b s d g c ≡ true → fills_five rule b s d g c ≡ true
    end_by h = elim (or_cases (is_at c (five_end rule b s d g Ahead)) _ h) [
      | inl ahead ↦ end_fills Ahead ahead
      | inr behind ↦ end_fills Behind behind
    ]

    -- the points that fill a four are the ends of its run that win
    ends-fill : is_five_end rule b s d g c ≡ fills_five rule b s d g c
    ends-fill = same_tests _ _ end_by fills_end

    -- where fewer than two stones are within reach, no point fills a four
    fills_far : fills_five rule b s d g c ≡ true → (w : Way) → run_end b s d w g ≡ Some c → 3 ≤ reach_towards w b s d g
    fills_far h w here =
        let wins = fills_wins h in
        let empty = wins_empty wins in
        let long = row_wins-five rule s _ (and_right (is_empty b c) _ (sym (wins_on-ways rule b s w d c ok) ∙ wins)) in
        let before = run_before_end b s w d g c mine here (is_empty-on b c empty) in
        let past : stones_past w b s d (run_end b s d w g) ≡ stones_towards w b s d c = ap (stones_past w b s d) here
        ∙ ap (λ r. cond r (stones_towards w b s d c) 0) empty in
        omega (arith, long, before, past)

    few-fills : stones_in_reach b s d g < 2 → fills_five rule b s d g c ≡ false
    few-fills few = false_from_ne_true _ (λ h. absurd (less (fills_first h).0 (fills_far h (fills_first h).0 (fills_first h).1))) where
      less : (w : Way) → 3 ≤ reach_towards w b s d g → ⊥
      less Ahead h = omega (arith, few, h)
      less Behind h = omega (arith, few, h)

  -- the costs of a four, by the two ends
  pub ends-costs : (o w : Option Point) → o ≡ five_end rule b s d g Ahead → w ≡ five_end rule b s d g Behind
      → filter (λ q. is_at q o || is_at q w) (points_of b) ≡ filter (fills_five rule b s d g) (points_of b)
  ends-costs o w e f = λ i. filter (λ q. same q i) (points_of b) where
    same : (q : Point) → (is_at q o || is_at q w) ≡ fills_five rule b s d g q
    same q = rw (e, f) (ends-fill q)

  -- there is a four where one of the ends wins
  pub ends-four : (o w : Option Point) → o ≡ five_end rule b s d g Ahead → w ≡ five_end rule b s d g Behind
      → (is_some o || is_some w) ≡ makes_threat rule b s d g Four
  ends-four o w e f = same_tests _ _ (found o w e f)
      (λ h. let c = any_witness (fills_five rule b s d g) (points_of b) h in some c.0 o w e f (fills_end c.0 c.1)) where
        fills : (c : Point) → fills_five rule b s d g c ≡ true → makes_threat rule b s d g Four ≡ true
        fills c h = points-found b (fills_five rule b s d g) c (is_empty-on b c (wins_empty c (fills_wins c h))) h

        at : (w : Way) (c : Point) → Some c ≡ five_end rule b s d g w → makes_threat rule b s d g Four ≡ true
        at w c e = fills c (end_fills c w (ap (is_at c) (sym e) ∙ is_same_point-itself c))

        found : (o w : Option Point) → o ≡ five_end rule b s d g Ahead → w ≡ five_end rule b s d g Behind → (is_some o || is_some w) ≡ true
            → makes_threat rule b s d g Four ≡ true
        found (Some c) w e f h = at Ahead c e
        found None (Some c) e f h = at Behind c f
        found None None e f h = cc

        some : (c : Point) (o w : Option Point) → o ≡ five_end rule b s d g Ahead → w ≡ five_end rule b s d g Behind
            → is_five_end rule b s d g c ≡ true → (is_some o || is_some w) ≡ true
        some c (Some p) w e f h = refl
        some c None (Some p) e f h = refl
        some c None None e f h = absurd (both_ways (is_five_end rule b s d g c) (rw (sym e, sym f) refl) h)

  pub few-no_four : stones_in_reach b s d g < 2 → makes_threat rule b s d g Four ≡ false
  few-no_four few = none_of (fills_five rule b s d g) (points_of b) (λ c h. both_ways _ (few-fills c few) h)
