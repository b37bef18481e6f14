-- A stone of the other side that stands at no end of a three leaves the three as it was: whether a point gives a straight four is
-- decided by the run that a stone there makes and the points at both its ends.
use Rattle.std.proofs.Common.{◌≡◌, ◌≢◌, ◌⊎◌, inl, inr, ℕ, ◌+◌, ◌<◌, Bool, true, false, cond, ◌&&◌, ◌||◌, not, filter, List}
use Rattle.std.proofs.Common.{refl, sym, ap, ◌∙◌, arith, Option, Some, None, is_none, rules}
use Rattle.std.proofs.lemmas.Bool.{both_ways, false_from_ne_true, or_left, or_right, or_cases}
use Rattle.game_rules.proofs.Common.{Grid, IsBoard, is_empty, put, holds, is_line_three_point, five, foul_of, black_foul}
use Rattle.game_rules.proofs.Common.{is_at, is_same_point, other, towards, opposite, stones_towards, run_end}
use Rattle.game_rules.specs.declared.RuleKind.{RuleKind}
use Rattle.game_rules.specs.declared.RuleKind.TheVariants.{Freestyle, Exact, Renju}
use Rattle.game_rules.specs.declared.Side.{Side}
use Rattle.game_rules.specs.declared.Side.TheVariants.{Black, White}
use Rattle.game_rules.specs.declared.Foul.{Foul}
use Rattle.game_rules.specs.declared.Axis.{Axis}
use Rattle.game_rules.specs.declared.Point.{Point}
use Rattle.game_rules.specs.declared.Way.{Way}
use Rattle.game_rules.specs.declared.Way.TheVariants.{Ahead, Behind}
use Rattle.game_rules.proofs.Boards.{Apart, and_left, and_right, is_empty-on, is_empty-put, same_or_apart, other-other, stone_kept}
use Rattle.game_rules.proofs.Fives.{five-other}
use Rattle.game_rules.proofs.PointLists.{Apart-back, filter-both}
use Rattle.game_rules.proofs.Points.{is_same_point-apart, is_same_point-itself, is_same_point-same, is_at-Some, points-found}
use Rattle.game_rules.proofs.Positions.{IsBoard-put}
use Rattle.game_rules.proofs.OneLine.{holds-put_others, towards_alike}
use Rattle.game_rules.proofs.Threes.{three_empty}
use Rattle.game_rules.proofs.Ways.{go-then, go-same}
use Rattle.stone_board.specs.Steps.{kept_on}
use Rattle.stone_board.proofs.LineBits.{board-near}
use Rattle.row_shapes.specs.Threes.{wins_past}
use Rattle.row_shapes.proofs.ThreePoints.{three-open, three_first}
use Rattle.foul_judge.proofs.FewerEmpties.{white-no_foul}
use Rattle.open_windows.specs.PointSets.{has_point}
use Rattle.threat_moves.proofs.Common.{StaysFree, is_straight_point, has_straight_point, stops_three, end_past, is_past, IsSure, IsSureAt}
use Rattle.threat_moves.proofs.Common.{HasCosts}
use Rattle.threat_moves.proofs.GainLaws.{straight-line, line_three, empty-stops}

-- ---- a stone of the other side on an empty point

module _ (rule : RuleKind) (b : Grid) (s : Side) (d : Axis) (p z : Point) (ok : IsBoard b) (mine : holds b s p ≡ true)
    (empty : is_empty b z ≡ true) where
  abbrev later : Grid
  later = put b (other s) z

  ok_later : IsBoard later
  ok_later = IsBoard-put b (other s) z ok

  mine_later : holds later s p ≡ true
  mine_later = stone_kept b s (other s) p z mine empty

  towards_same : (w : Way) (e : Axis) (q : Point) → stones_towards w later s e q ≡ stones_towards w b s e q
  towards_same w e q = towards_alike later b s e q (λ r line. holds-put_others b s z r ok empty) refl w

  empty_same : (q : Point) → q ≢ z → is_empty later q ≡ is_empty b q
  empty_same q differ = elim (same_or_apart z q) [
    | inl same ↦ absurd (differ (sym same))
    | inr apart ↦ is_empty-put b (other s) z q (is_empty-on b z empty) apart
  ]

  past_same : (w : Way) (o : Option Point) → o ≢ Some z → wins_past rule later s d w o ≡ wins_past rule b s d w o
  past_same w None differ = refl
  past_same w (Some q) differ =
      let same = empty_same q (λ e. differ (ap Some e)) in
      let more = towards_same w d q in
      rw (same, more) refl

  -- and next to no end of the run through p
  module _ (off : (w : Way) → is_past b s d p w z ≡ false) where
    not_past : (o e : Option Point) → (is_at z o || is_at z e) ≡ false → (o ≢ Some z) × (e ≢ Some z)
    not_past o e h = (
      λ same. both_ways _ h (or_left _ _ (ap (is_at z) same ∙ is_same_point-itself z)),
      λ same. both_ways _ h (or_right (is_at z o) _ (ap (is_at z) same ∙ is_same_point-itself z)),
    )

    not_first : (w : Way) → run_end b s d w p ≢ Some z
    not_first w = (not_past _ _ (off w)).0

    -- so a point q that gives a straight four stays one where it is no foul then
    module _ (q : Point) (straight : is_straight_point rule b s d p q ≡ true) where
      line : is_line_three_point rule b s d p q ≡ true
      line = line_three rule b s d p q straight

      free : is_empty b q ≡ true
      free = three_empty rule b s d p q line

      first : (w : Way) × (run_end b s d w p ≡ Some q)
      first = three_first rule b s d p q ok mine line

      pub not_z : q ≢ z
      not_z same = not_first first.0 (first.1 ∙ ap Some same)

      module _ (w : Way) (here : run_end b s d w p ≡ Some q) where
        abbrev fore : ℕ
        fore = 1 + stones_towards w b s d p + stones_towards w b s d q

        not_next : towards w d p (1 + fore) ≢ Some z
        not_next at =
            let past : end_past b s d w (run_end b s d w p) ≡ run_end b s d w q =
            ap (end_past b s d w) here ∙ ap (λ r. cond r (run_end b s d w q) None) free in
            let there : run_end b s d w q ≡ towards w d p (1 + fore) =
            go-then w d p q (1 + stones_towards w b s d p) 0 (1 + stones_towards w b s d q) 0 here
            ∙ go-same w d p _ _ (1 + fore) 0 (omega arith) in
            (not_past _ _ (off w)).1 (past ∙ there ∙ at)

        stays_by : is_line_three_point rule later s d p q ≡ true
        stays_by =
            let near = towards_same w d p in
            let more = towards_same w d q in
            let far = towards_same (opposite w) d p in
            let front = past_same w (towards w d p (1 + fore)) not_next in
            let rear = past_same (opposite w) (run_end b s d (opposite w) p) (not_first (opposite w)) in
            let there : run_end later s d w p ≡ Some q = ap (λ k. towards w d p (1 + k)) near ∙ here in
            three-open rule later s w d p q ok_later mine_later (empty_same q not_z ∙ free) there
            ∙ rw (near, more, far, front, rear) refl
            ∙ sym (three-open rule b s w d p q ok mine free here)
            ∙ line

      three-stays : is_line_three_point rule later s d p q ≡ true
      three-stays = stays_by first.0 first.1

      five-stays : five rule later s q ≡ five rule b s q
      five-stays = elim (same_or_apart z q) [
        | inl same ↦ absurd (not_z (sym same))
        | inr apart ↦
            let e = five-other b (other s) z ok empty rule q apart in
            rw (other-other s) at e
      ]

      parts : (is_line_three_point rule b s d p q && not (five rule b s q) && is_none (foul_of rule b s q)) ≡ true
      parts = sym (straight-line rule b s d p q) ∙ straight

      pub none_foul : is_none (foul_of rule b s q) ≡ true
      none_foul = and_right (is_line_three_point rule b s d p q && not (five rule b s q)) _ parts

      -- and then z is no cost
      pub no_stop-by : is_none (foul_of rule later s q) ≡ true → stops_three rule b s d p z ≡ false
      unfolding has_straight_point
      no_stop-by safe =
          let no_five : not (five rule b s q) ≡ true = and_right (is_line_three_point rule b s d p q) _
          (and_left (is_line_three_point rule b s d p q && not (five rule b s q)) _ parts) in
          let now : is_straight_point rule later s d p q ≡ true =
          straight-line rule later s d p q ∙ rw (three-stays, five-stays, no_five, safe) refl in
          empty-stops rule b s d p z empty
          ∙ ap not (points-found later (is_straight_point rule later s d p) q
          (is_empty-on later q (three_empty rule later s d p q three-stays))
          now)

none_is : (o : Option Foul) → is_none o ≡ true → o ≡ None
none_is None h = refl
none_is (Some f) h = cc

-- no foul of Black is freed where fewer than two axes have three points
foul-stays : (rule : RuleKind) (b : Grid) (s : Side) (q z : Point) → IsBoard b → is_empty b q ≡ true → is_empty b z ≡ true → Apart z q
    → IsSure rule b s q
    → is_none (foul_of rule b s q) ≡ true → is_none (foul_of rule (put b (other s) z) s q) ≡ true
foul-stays Freestyle b s q z ok free_q free_z apart few h = refl
foul-stays Exact b s q z ok free_q free_z apart few h = refl
foul-stays Renju b White q z ok free_q free_z apart few h = refl
foul-stays Renju b Black q z ok free_q free_z apart few h =
    ap is_none (white-no_foul b q z ok free_q free_z apart Renju (few refl) (none_is (black_foul Renju b q) h))

-- so a point that is sure stays free
pub stays-free : (rule : RuleKind) (b : Grid) (s : Side) (p : Point) → IsBoard b → is_empty b p ≡ true → IsSure rule b s p
    → StaysFree rule b s p
stays-free rule b s p ok empty sure = λ none z free apart. none_is (foul_of rule (put b (other s) z) s p)
    (foul-stays rule b s p z ok empty free (Apart-back p z (is_same_point-apart p z apart)) sure (ap is_none none))

-- ---- where the costs of a three are

-- a test that follows from another
pub follows : (r t : Bool) → (t ≡ true → r ≡ true) → (r && t) ≡ t
follows r t h = search rules

-- what passes a test is found among the points of a set that has all of it
pub filter-among : (f g : Point → Bool) → ((p : Point) → g p ≡ true → f p ≡ true) → (ps : List Point)
    → filter g (filter f ps) ≡ filter g ps
filter-among f g h ps = sym (filter-both f g ps) ∙ (λ i. filter (λ p. follows (f p) (g p) (h p) i) ps)

stop-empty : (rule : RuleKind) (b : Grid) (s : Side) (d : Axis) (p z : Point) → stops_three rule b s d p z ≡ true → is_empty b z ≡ true
unfolding stops_three
stop-empty rule b s d p z h = and_left (is_empty b z) _ h

-- where a point that gives a straight four stays no foul, the costs are next to the ends of the run
sure-past : (rule : RuleKind) (b : Grid) (s : Side) (d : Axis) (p : Point) (o : Option Point) (z : Point) → IsBoard b → holds b s p ≡ true
    → IsSureAt rule b s d p o → stops_three rule b s d p z ≡ true → (w : Way) × (is_past b s d p w z ≡ true)
sure-past rule b s d p None z ok mine sure stops = absurd (let h = sure.straight in cc)
sure-past rule b s d p (Some q) z ok mine sure stops = by_ways _ _ refl refl where
  empty : is_empty b z ≡ true
  empty = stop-empty rule b s d p z stops

  outside : ((w : Way) → is_past b s d p w z ≡ false) → ⊥
  outside off =
      let none = none_is _ (none_foul rule b s d p z ok mine empty off q sure.straight) in
      let apart : is_same_point q z ≡ false = false_from_ne_true _ (λ same.
      not_z rule b s d p z ok mine empty off q sure.straight (is_same_point-same q z same)) in
      both_ways _ (no_stop-by rule b s d p z ok mine empty off q sure.straight (ap is_none (sure.stays none z empty apart))) stops

  by_ways : (r t : Bool) → is_past b s d p Ahead z ≡ r → is_past b s d p Behind z ≡ t → (w : Way) × (is_past b s d p w z ≡ true)
  by_ways true t e f = (Ahead, e)
  by_ways false true e f = (Behind, f)
  by_ways false false e f = absurd (outside off) where
    off : (w : Way) → is_past b s d p w z ≡ false
    off Ahead = e
    off Behind = f

module _ (rule : RuleKind) (b : Grid) (s : Side) (d : Axis) (p : Point) (ok : IsBoard b) (set : List ℕ) where
  -- so a set with these points has all costs
  pub past-costs : (o : Option Point) → holds b s p ≡ true → IsSureAt rule b s d p o
      → ((w : Way) (z : Point) → is_past b s d p w z ≡ true → is_empty b z ≡ true → has_point set z ≡ true) → HasCosts rule b s d p set
  past-costs o mine sure past z stops =
      let way = sure-past rule b s d p o z ok mine sure stops in past way.0 z way.1 (stop-empty rule b s d p z stops)

  -- and so has one with all points
  pub all-costs : ((z : Point) → z.x < 32 → z.y < 32 → has_point set z ≡ true) → HasCosts rule b s d p set
  all-costs all z stops =
      let near = board-near b z ok (is_empty-on b z (stop-empty rule b s d p z stops)) in all z near.column near.row

-- ---- the points next to a run, as they are looked up

-- each is the first one, or the one next after it
pub past-point : (b : Grid) (s : Side) (d : Axis) (p : Point) (w : Way) (z first : Point) (o : Option Point)
    → Some first ≡ kept_on b (run_end b s d w p) → o ≡ kept_on b (run_end b s d w first) → is_past b s d p w z ≡ true
    → is_empty b z ≡ true → (z ≡ first) ⊎ (o ≡ Some z)
past-point b s d p w z first o here next past empty = by_end (run_end b s d w p) here past where
  kept : (e : Option Point) → e ≡ Some z → kept_on b e ≡ Some z
  kept e is = ap (kept_on b) is ∙ ap (λ r. cond r (Some z) None) (is_empty-on b z empty)

  same : (q v : Point) → Some q ≡ Some v → v ≡ q
  same q v e = cc

  by_next : (q : Point) → Some first ≡ kept_on b (Some q) → is_at z (end_past b s d w (Some q)) ≡ true → o ≡ Some z
  by_next q at there = by_test (is_empty b q) refl there where
    by_test : (r : Bool) → is_empty b q ≡ r → is_at z (cond r (run_end b s d w q) None) ≡ true → o ≡ Some z
    by_test false e h = cc
    by_test true e h =
        let on : Some first ≡ Some q = at ∙ ap (λ r. cond r (Some q) None) (is_empty-on b q e) in
        next ∙ kept _ (ap (run_end b s d w) (sym (same first q on)) ∙ is_at-Some z (run_end b s d w q) h)

  by_end : (e : Option Point) → Some first ≡ kept_on b e → (is_at z e || is_at z (end_past b s d w e)) ≡ true → (z ≡ first) ⊎ (o ≡ Some z)
  by_end None at h = cc
  by_end (Some q) at h = elim (or_cases (is_at z (Some q)) _ h) [
    | inl one ↦ inl (same first z (at ∙ kept (Some q) (is_at-Some z (Some q) one)))
    | inr two ↦ inr (by_next q at two)
  ]
