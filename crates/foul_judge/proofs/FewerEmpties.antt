-- A white stone takes away no more than Black's means: where Black's stone was no foul and fewer than two axes had three points of
-- it, it is none after a white stone elsewhere either.
use Rattle.std.proofs.Common.{◌≡◌, Bool, true, false, ◌&&◌, ◌||◌, refl, add-one, inl, inr, ℕ, ◌+◌, ◌-◌, ◌≤◌}
use Rattle.std.proofs.Common.{◌<◌, not, sym, ap, subst, ◌∙◌, arith, nat_eq, nat_le, Option, ◌==◌, Some, None, is_none, sum_by}
use Rattle.std.proofs.Common.{count_by}
use Rattle.std.proofs.lemmas.Bool.{or_right}
use Rattle.std.proofs.lemmas.Bool.Decides.{nat_tests}
use Rattle.game_rules.proofs.Common.{Grid, IsBoard, is_empty, put, is_on, along, axes, points_of, holds, stone_foul, black_foul}
use Rattle.game_rules.proofs.Common.{black_foul_within, is_three, row_wins, run_of, stone_at, wins_on, wins_at, place_stone, place_wins}
use Rattle.game_rules.proofs.Common.{fours_of, is_line_three_point, is_line_three_at, is_three_point, five, opposite, towards}
use Rattle.game_rules.proofs.Common.{stones_towards, go}
use Rattle.game_rules.specs.declared.RuleKind.{RuleKind}
use Rattle.game_rules.specs.declared.Foul.{Foul}
use Rattle.game_rules.specs.declared.Point.{Point}
use Rattle.game_rules.specs.declared.Axis.{Axis}
use Rattle.game_rules.specs.declared.Way.{Way}
use Rattle.game_rules.specs.declared.Side.TheVariants.{Black, White}
use Rattle.game_rules.specs.declared.Axis.TheVariants.{Row, Column, Down, Up}
use Rattle.game_rules.specs.declared.Way.TheVariants.{Ahead, Behind}
use Rattle.game_rules.proofs.Boards.{empties_of-put, Apart, and_left, and_right, is_empty-on, is_empty-put, same_or_apart, holds-put_other}
use Rattle.game_rules.proofs.Boards.{holds-put_same}
use Rattle.game_rules.proofs.Positions.{IsBoard-put, holds-other}
use Rattle.game_rules.proofs.Rows.{any_found}
use Rattle.game_rules.proofs.OneLine.{empty-before, towards_alike, wins_alike}
use Rattle.game_rules.proofs.Threes.{three_empty, three_by}
use Rattle.game_rules.proofs.PointLists.{some_passes}
use Rattle.game_rules.proofs.Outcomes.{no_first-fewer}
use Rattle.game_rules.proofs.Tests.{more_pass}
use Rattle.row_shapes.specs.Gaps.{is_four, are_stones, fours_from}
use Rattle.row_shapes.specs.Threes.{wins_past, is_open_four}
use Rattle.row_shapes.proofs.Counting.{fours_of-gap}
use Rattle.row_shapes.proofs.ThreePoints.{three-open, three_first, three_near}
use Rattle.foul_judge.proofs.Common.{has_line_three}

four_more : (n s w c v w' v' : Bool) → (w ≡ true → w' ≡ true) → (v ≡ true → v' ≡ true) → (n && s && (w || (c && v))) ≡ true
    → (n && s && (w' || (c && v'))) ≡ true
four_more false s w c v w' v' f g h = cc
four_more true false w c v w' v' f g h = cc
four_more true true true c v w' v' f g h = rw (f refl) refl
four_more true true false true true w' v' f g h = or_right w' _ (g refl)
four_more true true false true false w' v' f g h = cc
four_more true true false false v w' v' f g h = cc

-- a foul, one stone on
foul_step : (rule : RuleKind) (b : Grid) (p : Point) → IsBoard b → is_empty b p ≡ true
    → (f : Point → Option Foul) × (black_foul rule b p ≡ stone_foul rule (put b Black p) p f)
unfolding black_foul_within black_foul
foul_step rule b p ok h = (black_foul rule (put b Black p), rw (← empties_of-put b Black p ok h, add-one) refl)

module _ (b : Grid) (q z : Point) (ok : IsBoard b) (free_q : is_empty b q ≡ true) (free_z : is_empty b z ≡ true) (apart : Apart z q) where
  abbrev white : Grid
  white = put b White z

  abbrev early : Grid
  early = put b Black q

  abbrev late : Grid
  late = put white Black q

  on_q : is_on b q ≡ true
  on_q = is_empty-on b q free_q

  on_z : is_on b z ≡ true
  on_z = is_empty-on b z free_z

  ok_white : IsBoard white
  ok_white = IsBoard-put b White z ok

  ok_early : IsBoard early
  ok_early = IsBoard-put b Black q ok

  ok_late : IsBoard late
  ok_late = IsBoard-put white Black q ok_white

  still_q : is_empty white q ≡ true
  still_q = is_empty-put b White z q on_z apart ∙ free_q

  mine_early : holds early Black q ≡ true
  mine_early = holds-put_same b Black q ok on_q

  mine_late : holds late Black q ≡ true
  mine_late = holds-put_same white Black q ok_white on_q

  holds_same : (r : Point) → holds late Black r ≡ holds early Black r
  holds_same r = elim (same_or_apart q r) [
    | inl same ↦ subst (λ (t : Point). holds late Black t ≡ holds early Black t) same (mine_late ∙ sym mine_early)
    | inr other ↦ holds-put_other white Black Black q r on_q other ∙ holds-other b White Black z ok free_z refl r
        ∙ sym (holds-put_other b Black Black q r on_q other)
  ]

  stone_same : (o : Option Point) → stone_at late Black o ≡ stone_at early Black o
  stone_same None = refl
  stone_same (Some r) = holds_same r

  towards_same : (w : Way) (d : Axis) (r : Point) → stones_towards w late Black d r ≡ stones_towards w early Black d r
  towards_same w d r = towards_alike late early Black d r (λ z line. holds_same z) refl w

  run_same : (d : Axis) → run_of late Black d q ≡ run_of early Black d q
  run_same d = rw (holds_same q, towards_same Ahead d q, towards_same Behind d q) refl

  fewer_empties : (r : Point) → is_empty late r ≡ true → is_empty early r ≡ true
  fewer_empties r h =
      let left = empty-before white Black q r ok_white on_q h in
      is_empty-put b Black q r on_q left.0 ∙ (empty-before b White z r ok on_z left.1).1

  module _ (rule : RuleKind) where
    fewer_wins : (d : Axis) (r : Point) → wins_on rule late Black d r ≡ true → wins_on rule early Black d r ≡ true
    fewer_wins d r h =
        let now = and_left (is_empty late r) _ h in
        sym (wins_alike late early Black d r (λ z line. holds_same z) refl rule ok_late ok_early (now ∙ sym (fewer_empties r now))) ∙ h

    fewer_wins_at : (d : Axis) (o : Option Point) → wins_at rule late Black d o ≡ true → wins_at rule early Black d o ≡ true
    fewer_wins_at d None h = h
    fewer_wins_at d (Some r) h = fewer_wins d r h

    -- ---- fours

    four_kept : (d : Axis) (first gap : ℕ) → is_four (place_stone late Black d q) (place_wins rule late Black d q) first gap ≡ true
        → is_four (place_stone early Black d q) (place_wins rule early Black d q) first gap ≡ true
    unfolding is_four
    four_kept d first gap h =
        let same : place_stone late Black d q ≡ place_stone early Black d q = λ j i. stone_same (along d q i 4) j in
        subst (λ (stone : ℕ → Bool). is_four stone (place_wins rule early Black d q) first gap ≡ true) same
        (four_more (not (first == gap)) (are_stones (place_stone late Black d q) first gap)
        (place_wins rule late Black d q (gap + 4 - first)) (gap == 4) (place_wins rule late Black d q (3 - first))
        (place_wins rule early Black d q (gap + 4 - first)) (place_wins rule early Black d q (3 - first))
        (fewer_wins_at d (along d q (gap + 4 - first) 4)) (fewer_wins_at d (along d q (3 - first) 4)) h)

    fewer_from : (d : Axis) (first : ℕ) → fours_from (place_stone late Black d q) (place_wins rule late Black d q) first ≤ fours_from
        (place_stone early Black d q) (place_wins rule early Black d q) first
    fewer_from d first = omega (
      arith,
      more_pass _ _ (four_kept d first 1),
      more_pass _ _ (four_kept d first 2),
      more_pass _ _ (four_kept d first 3),
      more_pass _ _ (four_kept d first 4),
    )

    fewer_fours : (d : Axis) → fours_of rule late Black d q ≤ fours_of rule early Black d q
    fewer_fours d = rw (fours_of-gap rule late Black d q, fours_of-gap rule early Black d q)
        (omega (arith, fewer_from d 0, fewer_from d 1, fewer_from d 2, fewer_from d 3, fewer_from d 4))

    two_fours : nat_le 2 (sum_by (λ d. fours_of rule late Black d q) axes) ≡ true
        → nat_le 2 (sum_by (λ d. fours_of rule early Black d q) axes) ≡ true
    two_fours h =
        let fewer : sum_by (λ d. fours_of rule late Black d q) axes ≤ sum_by (λ d. fours_of rule early Black d q) axes =
        omega (arith, fewer_fours Row, fewer_fours Column, fewer_fours Down, fewer_fours Up) in
        grind (arith, nat_tests)

    -- ---- threes

    past_kept : (d : Axis) (w : Way) (o : Option Point) → wins_past rule late Black d w o ≡ true → wins_past rule early Black d w o ≡ true
    past_kept d w None h = h
    past_kept d w (Some r) h =
        ap (λ t. t && row_wins rule Black (5 + stones_towards w early Black d r)) (fewer_empties r (and_left (is_empty late r) _ h))
        ∙ ap (λ k. row_wins rule Black (5 + k)) (sym (towards_same w d r))
        ∙ and_right (is_empty late r) _ h

    and_kept : (a x y x' y' : Bool) → (x ≡ true → x' ≡ true) → (y ≡ true → y' ≡ true) → (a && x && y) ≡ true → (a && x' && y') ≡ true
    and_kept false x y x' y' f g h = cc
    and_kept true false y x' y' f g h = cc
    and_kept true true false x' y' f g h = cc
    and_kept true true true x' y' f g h = rw (f refl, g refl) refl

    open_kept : (d : Axis) (w : Way) (fore back : ℕ) → is_open_four rule late Black d q w fore back ≡ true
        → is_open_four rule early Black d q w fore back ≡ true
    open_kept d w fore back h = and_kept (nat_eq (fore + back) 3) _ _ _ _ (past_kept d w (towards w d q (1 + fore)))
        (past_kept d (opposite w) (towards (opposite w) d q (1 + back))) h

    line_by : (d : Axis) (r : Point) (w : Way) → go w d q (1 + stones_towards w late Black d q) 0 ≡ Some r
        → is_line_three_point rule late Black d q r ≡ true → is_line_three_point rule early Black d q r ≡ true
    line_by d r w here h =
        let near = sym (towards_same w d q) in
        let more = sym (towards_same w d r) in
        let far = sym (towards_same (opposite w) d q) in
        let free = three_empty rule late Black d q r h in
        let there : go w d q (1 + stones_towards w early Black d q) 0 ≡ Some r = ap (λ k. go w d q (1 + k) 0) near ∙ here in
        let now = sym (three-open rule late Black w d q r ok_late mine_late free here) ∙ h in
        three-open rule early Black w d q r ok_early mine_early (fewer_empties r free) there
        ∙ rw (near, more, far) (open_kept d w (1 + stones_towards w late Black d q + stones_towards w late Black d r)
        (stones_towards (opposite w) late Black d q) now)

    line_kept : (d : Axis) (r : Point) → is_line_three_point rule late Black d q r ≡ true
        → is_line_three_point rule early Black d q r ≡ true
    line_kept d r h = let first = three_first rule late Black d q r ok_late mine_late h in line_by d r first.0 first.1 h

    -- an axis that is a three with the white stone had a three point without it
    three_kept : (d : Axis) (f : Point → Option Foul) → is_three rule late d q f ≡ true → has_line_three rule early d q ≡ true
    unfolding is_three has_line_three
    three_kept d f h =
        let some = some_passes (λ r. is_none (f r)) (is_three_point rule late Black d q) (points_of late) h in
        let r = some.0 in
        let now : is_line_three_point rule late Black d q r ≡ true =
        and_left _ _ (sym (three_by rule late Black d q r (five rule late Black r) refl) ∙ some.1) in
        let before = line_kept d r now in
        let place = three_near rule early Black d q ok_early mine_early r before in
        let low = place.1 in
        any_found (λ i. is_line_three_at rule early Black d q (along d q i 5)) 11 0 place.0 (omega arith) (omega (arith, low))
        (ap (is_line_three_at rule early Black d q) place.2 ∙ before)

    few_threes : (f : Point → Option Foul) → count_by (λ d. has_line_three rule early d q) axes < 2
        → nat_le 2 (count_by (λ d. is_three rule late d q f) axes) ≡ false
    few_threes f few =
        let fewer : count_by (λ d. is_three rule late d q f) axes ≤ count_by (λ d. has_line_three rule early d q) axes =
        omega (
          arith,
          more_pass _ _ (three_kept Row f),
          more_pass _ _ (three_kept Column f),
          more_pass _ _ (three_kept Down f),
          more_pass _ _ (three_kept Up f),
        ) in
        grind (arith, nat_tests)

    -- ---- the foul

    by_tests : (f g : Point → Option Foul) → count_by (λ d. has_line_three rule early d q) axes < 2 → stone_foul rule early q f ≡ None
        → stone_foul rule late q g ≡ None
    unfolding stone_foul
    by_tests f g few h =
        rw (run_same Row, run_same Column, run_same Down, run_same Up)
        (no_first-fewer _ _ (nat_le 2 (sum_by (λ d. fours_of rule early Black d q) axes))
        (nat_le 2 (sum_by (λ d. fours_of rule late Black d q) axes)) (nat_le 2 (count_by (λ d. is_three rule early d q f) axes))
        (nat_le 2 (count_by (λ d. is_three rule late d q g) axes)) two_fours (few_threes g few) h)

    pub white-no_foul : count_by (λ d. has_line_three rule early d q) axes < 2 → black_foul rule b q ≡ None → black_foul rule white q ≡ None
    white-no_foul few h =
        let before = foul_step rule b q ok free_q in
        let after = foul_step rule white q ok_white still_q in
        after.1 ∙ by_tests before.0 after.0 few (sym before.1 ∙ h)
