-- What stands within reach of a stone: three others where it is in a four, two where it has a three point.
use Rattle.std.proofs.Common.{◌≡◌, ◌≢◌, inl, inr, ℕ, zero, suc, ◌+◌, ◌-◌, ◌≤◌, ◌<◌, Bool, true, false, cond}
use Rattle.std.proofs.Common.{◌&&◌, ◌||◌, not, refl, sym, ap, ◌∙◌, arith, nat_eq, eq-eqb, Option, Some, None, sum_by}
use Rattle.std.specs.List.{range_with_len}
use Rattle.std.proofs.lemmas.Bool.{cases_lt, false_from_ne_true}
use Rattle.std.proofs.lemmas.Bool.Decides.{nat_tests}
use Rattle.std.proofs.lemmas.List.Sums.{sum_by-cons}
use Rattle.game_rules.proofs.Common.{Grid, IsBoard, is_on, is_empty, holds, put, along, stone_at, wins_at, fours_of, place_stone}
use Rattle.game_rules.proofs.Common.{place_wins, is_line_three_point, towards, opposite, stones_towards, go}
use Rattle.game_rules.specs.declared.RuleKind.{RuleKind}
use Rattle.game_rules.specs.declared.Side.{Side}
use Rattle.game_rules.specs.declared.Axis.{Axis}
use Rattle.game_rules.specs.declared.Point.{Point}
use Rattle.game_rules.specs.declared.Way.{Way}
use Rattle.game_rules.specs.declared.Way.TheVariants.{Ahead, Behind}
use Rattle.game_rules.proofs.Rows.{all_in_range}
use Rattle.game_rules.proofs.Boards.{Apart, empty_holds, and_left, and_right, is_empty-on, is_empty-put}
use Rattle.game_rules.proofs.Lines.{along-same}
use Rattle.game_rules.proofs.Ways.{go-then, go-same, go-zero, go-apart, leads_is, towards-put, beyond-put, least, least_back}
use Rattle.game_rules.proofs.Threes.{three_empty}
use Rattle.row_shapes.proofs.Common.{is_four, are_stones, fours_from, stones_past, reach_towards, stones_in_reach}
use Rattle.row_shapes.proofs.Counting.{fours_of-gap}
use Rattle.row_shapes.proofs.ThreePoints.{three_first, first_open}

-- ---- a stone changes nothing that is within reach of its point

module _ (b : Grid) (s : Side) (p : Point) (on : is_on b p ≡ true) where
  module _ (w : Way) (d : Axis) (k : ℕ) (e : Point) (here : go w d p (1 + k) 0 ≡ Some e) where
    apart : Apart p e
    apart = go-apart w d p p e 0 0 (1 + k) 0 (go-zero w d p) here (λ same. absurd (omega arith))

    past_by : (r : Bool) → is_empty b e ≡ r → stones_past w (put b s p) s d (Some e) ≡ stones_past w b s d (Some e)
    past_by true h = rw (is_empty-put b s p e on apart, h) (beyond-put b s p on w d k e here (is_empty-on b e h))
    past_by false h = rw (is_empty-put b s p e on apart, h) refl

  past-put : (w : Way) (d : Axis) (k : ℕ) → stones_past w (put b s p) s d (towards w d p (1 + k)) ≡ stones_past w b s d
      (towards w d p (1 + k))
  past-put w d k = by_point (towards w d p (1 + k)) refl where
    by_point : (o : Option Point) → towards w d p (1 + k) ≡ o → stones_past w (put b s p) s d o ≡ stones_past w b s d o
    by_point None h = refl
    by_point (Some e) h = past_by w d k e (h) (is_empty b e) refl

  reach_towards-put : (w : Way) (d : Axis) → reach_towards w (put b s p) s d p ≡ reach_towards w b s d p
  reach_towards-put w d = rw (towards-put b s p on w d, towards-put b s p on (opposite w) d, past-put w d (stones_towards w b s d p)) refl

  pub reach-put : (d : Axis) → stones_in_reach (put b s p) s d p ≡ stones_in_reach b s d p
  reach-put d = rw (reach_towards-put Ahead d, reach_towards-put Behind d) refl

-- ---- what a four has within reach

-- a sum of nothing
sum_none : (f : ℕ → ℕ) (n a : ℕ) → ((k : ℕ) → a ≤ k → k < a + n → f k ≡ 0) → sum_by f (range_with_len a n) ≡ 0
sum_none f zero a h = refl
sum_none f (suc n) a h =
    let here = h a (omega arith) (omega arith) in
    let rest = sum_none f n (a + 1) (λ k low high. h k (omega arith) (omega arith)) in
    let none : f a + sum_by f (range_with_len (a + 1) n) ≡ 0 = omega (arith, here, rest) in
    sum_by-cons f a (range_with_len (a + 1) n) ∙ none

module _ (b : Grid) (s : Side) (d : Axis) (p : Point) (on : is_on b p ≡ true) where
  -- four stones of one row
  row_reach : (w : Way) (fore aft : ℕ) → 3 ≤ fore + aft → ((j : ℕ) → 1 ≤ j → j ≤ fore → stone_at b s (go w d p j 0) ≡ true)
      → ((j : ℕ) → 1 ≤ j → j ≤ aft → stone_at b s (go w d p 0 j) ≡ true) → 3 ≤ reach_towards w b s d p
  row_reach w fore aft three before behind =
      let near = least b s d p on w fore before in
      let far = least_back b s d p on w aft behind in
      omega (arith, near, far, three)

  -- four stones of five places, of which the one that is g steps on is empty
  gap_reach : (w : Way) (g fore aft : ℕ) (e : Point) → 1 ≤ g → g ≤ fore → fore + aft ≡ 4
      → ((j : ℕ) → 1 ≤ j → j ≤ fore → j ≢ g → stone_at b s (go w d p j 0) ≡ true)
      → ((j : ℕ) → 1 ≤ j → j ≤ aft → stone_at b s (go w d p 0 j) ≡ true) → go w d p g 0 ≡ Some e → is_empty b e ≡ true
      → 3 ≤ reach_towards w b s d p
  gap_reach w g fore aft e low high five before behind here empty =
      let none : holds b s e ≡ false = empty_holds b s e empty in
      let next : 1 + (g - 1) ≡ g = omega arith in
      let near : stones_towards w b s d p ≡ g - 1 = leads_is b s d p on w (g - 1) (record {
        holds = λ j from to. before j from (omega arith) (λ same. absurd (omega arith));
        stops = ap (λ k. stone_at b s (go w d p k 0)) next ∙ ap (stone_at b s) here ∙ none;
      }) in
      let far = least_back b s d p on w aft behind in
      let beyond = least b s d e (is_empty-on b e empty) w (fore - g) (λ j from to.
      ap (stone_at b s) (go-then w d p e g 0 j 0 here ∙ go-same w d p (g + j) (0 + 0) (g + j) 0 (omega arith))
      ∙ before (g + j) (omega arith) (omega arith) (λ same. absurd (omega arith))) in
      let there : towards w d p (1 + stones_towards w b s d p) ≡ Some e =
      ap (λ k. go w d p (1 + k) 0) near ∙ ap (λ k. go w d p k 0) next ∙ here in
      let past : stones_past w b s d (towards w d p (1 + stones_towards w b s d p)) ≡ stones_towards w b s d e =
      ap (stones_past w b s d) there ∙ ap (λ r. cond r (stones_towards w b s d e) 0) empty in
      omega (arith, near, far, beyond, past, five, low, high)

  -- ---- a place that is left out of five, as the count of fours has them

  ahead_place : (j i : ℕ) → i ≡ 4 + j → go Ahead d p j 0 ≡ along d p i 4
  ahead_place j i e = along-same d p j 0 i 4 (omega arith)

  behind_place : (j i : ℕ) → i + j ≡ 4 → go Behind d p j 0 ≡ along d p i 4
  behind_place j i e = along-same d p 0 j i 4 (omega arith)

  module _ (rule : RuleKind) (first gap : ℕ) (low : first < 5) (near : gap < 5) where
    abbrev stone : ℕ → Bool
    stone = place_stone b s d p

    abbrev wins : ℕ → Bool
    wins = place_wins rule b s d p

    module _ (stones : are_stones stone first gap ≡ true) where
      stone_there : (i : ℕ) → i < 5 → i ≢ gap → stone (i + 4 - first) ≡ true
      unfolding are_stones
      stone_there i l other =
          let h = all_in_range (λ i. nat_eq i gap || stone (i + 4 - first)) 5 0 i stones (omega arith) (omega arith) in
          let no : nat_eq i gap ≡ false = grind (arith, nat_tests) in
          sym (ap (λ r. r || stone (i + 4 - first)) no) ∙ h

      ahead_stone : (j : ℕ) → j + first < 5 → j + first ≢ gap → stone_at b s (go Ahead d p j 0) ≡ true
      ahead_stone j l other = ap (stone_at b s) (ahead_place j (j + first + 4 - first) (omega arith)) ∙ stone_there (j + first) l other

      behind_stone : (j : ℕ) → j ≤ first → first - j ≢ gap → stone_at b s (go Behind d p j 0) ≡ true
      behind_stone j l other = ap (stone_at b s) (behind_place j (first - j + 4 - first) (omega arith))
          ∙ stone_there (first - j) (omega arith) other

      last_reach : gap ≡ 4 → first ≢ gap → 3 ≤ reach_towards Ahead b s d p
      last_reach last differ = row_reach Ahead (3 - first) first (omega arith)
          (λ j from to. ahead_stone j (omega arith) (λ same. absurd (omega arith)))
          (λ j from to. behind_stone j to (λ same. absurd (omega arith)))

      later_reach : (e : Point) → first < gap → along d p (gap + 4 - first) 4 ≡ Some e → is_empty b e ≡ true
          → 3 ≤ reach_towards Ahead b s d p
      later_reach e past here empty = gap_reach Ahead (gap - first) (4 - first) first e (omega arith) (omega arith) (omega arith)
          (λ j from to other. ahead_stone j (omega arith) (λ same. other (omega arith)))
          (λ j from to. behind_stone j to (λ same. absurd (omega arith)))
          (ahead_place (gap - first) (gap + 4 - first) (omega arith) ∙ here) empty

      sooner_reach : (e : Point) → gap < first → along d p (gap + 4 - first) 4 ≡ Some e → is_empty b e ≡ true
          → 3 ≤ reach_towards Behind b s d p
      sooner_reach e before here empty = gap_reach Behind (first - gap) first (4 - first) e (omega arith) (omega arith) (omega arith)
          (λ j from to other. behind_stone j to (λ same. other (omega arith)))
          (λ j from to. ahead_stone j (omega arith) (λ same. absurd (omega arith)))
          (behind_place (first - gap) (gap + 4 - first) (omega arith) ∙ here) empty

      gap_wins : (o : Option Point) → along d p (gap + 4 - first) 4 ≡ o → wins_at rule b s d o ≡ true → first ≢ gap
          → 3 ≤ stones_in_reach b s d p
      gap_wins None here h differ = cc
      gap_wins (Some e) here h differ =
          let empty : is_empty b e ≡ true = and_left (is_empty b e) _ h in
          elim (cases_lt first gap) [
            | inl past ↦ let three = later_reach e past here empty in omega (arith, three)
            | inr not_past ↦ let three = sooner_reach e (omega arith) here empty in omega (arith, three)
          ]

      by_wins : (wins (gap + 4 - first) || (nat_eq gap 4 && wins (3 - first))) ≡ true → first ≢ gap → 3 ≤ stones_in_reach b s d p
      by_wins h differ = elim (cases_lt gap 4) [
        | inl inside ↦
            let no : nat_eq gap 4 ≡ false = grind (arith, nat_tests) in
            let here : wins (gap + 4 - first) ≡ true = or_left (wins (gap + 4 - first)) (nat_eq gap 4) _ no h in
            gap_wins (along d p (gap + 4 - first) 4) refl here differ
        | inr last ↦ let three = last_reach (omega arith) differ in omega (arith, three)
      ] where
        or_left : (r t u : Bool) → t ≡ false → (r || (t && u)) ≡ true → r ≡ true
        or_left true t u e h = refl
        or_left false true u e h = cc
        or_left false false u e h = h

    four_reach : is_four stone wins first gap ≡ true → 3 ≤ stones_in_reach b s d p
    unfolding is_four
    four_reach h =
        let all : ((not (nat_eq first gap) && are_stones stone first gap) && (wins (gap + 4 - first) || (nat_eq gap 4 && wins (3 - first))))
        ≡ true = h in
        let front = and_left (not (nat_eq first gap) && are_stones stone first gap) _ all in
        let differ : first ≢ gap = λ same. let e = and_left (not (nat_eq first gap)) _ front in let yes = eq-eqb first gap same in cc in
        by_wins (and_right (not (nat_eq first gap)) _ front) (and_right (not (nat_eq first gap) && are_stones stone first gap) _ all) differ

    no_four : stones_in_reach b s d p < 3 → is_four stone wins first gap ≡ false
    no_four few = false_from_ne_true _ (λ h. let three = four_reach h in absurd (omega (arith, three, few)))

  -- where fewer than three stones are within reach of a point, its stone is in no four
  pub few-no_fours : (rule : RuleKind) → stones_in_reach b s d p < 3 → fours_of rule b s d p ≡ 0
  few-no_fours rule few = fours_of-gap rule b s d p
      ∙ sum_none (λ first. fours_from (place_stone b s d p) (place_wins rule b s d p) first) 5 0 (λ first low high.
      sum_none (λ gap. cond (is_four (place_stone b s d p) (place_wins rule b s d p) first gap) 1 0) 4 1 (λ gap some near.
      ap (λ r. cond r 1 0) (no_four rule first gap (omega arith) (omega arith) few)))

  -- where fewer than two are, it has no three point
  pub few-no_three : (rule : RuleKind) (q : Point) → IsBoard b → holds b s p ≡ true → stones_in_reach b s d p < 2
      → is_line_three_point rule b s d p q ≡ false
  few-no_three rule q ok mine few = false_from_ne_true _ (λ h.
      let w = three_first rule b s d p q ok mine h in
      let there : towards w.0 d p (1 + stones_towards w.0 b s d p) ≡ Some q = w.1 in
      let sum = first_open rule b s d p ok mine w.0 q there h in
      let past : stones_past w.0 b s d (towards w.0 d p (1 + stones_towards w.0 b s d p)) ≡ stones_towards w.0 b s d q =
      ap (stones_past w.0 b s d) there ∙ ap (λ r. cond r (stones_towards w.0 b s d q) 0) (three_empty rule b s d p q h) in
      absurd (less w.0 (omega (arith, sum, past)))) where
        less : (w : Way) → 2 ≤ reach_towards w b s d p → ⊥
        less Ahead h = omega (arith, few, h)
        less Behind h = omega (arith, few, h)
