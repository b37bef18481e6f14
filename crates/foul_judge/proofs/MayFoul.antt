-- Where the short cuts pass a point or an axis over, Black has no foul and no three there.
use Rattle.std.proofs.Common.{◌≡◌, ℕ, ◌≤◌, ◌<◌, ◌^◌, Bool, true, false, cond, not, refl, sym, ap, ◌∙◌, arith, nat_eq, nat_le}
use Rattle.std.specs.List.{list_any, count_by}
use Rattle.std.specs.Prelude.{Option, Some, None}
use Rattle.std.specs.Int.{bit_at}
use Rattle.std.proofs.lemmas.Bool.{or_parts, false_from_ne_true}
use Rattle.std.proofs.lemmas.Bool.Decides.{nat_tests}
use Rattle.std.proofs.lemmas.Nat.Bits.{bit_at-zero, same_from_bits_below}
use Rattle.game_rules.proofs.Common.{Grid, IsBoard, is_on, is_empty, put, along, axes, holds, is_line_three_at, is_line_three_point, run_of}
use Rattle.game_rules.proofs.Common.{fours_of, black_foul, stone_foul, is_three, wins_on, empties_of}
use Rattle.game_rules.specs.declared.RuleKind.{RuleKind}
use Rattle.game_rules.specs.declared.Axis.{Axis}
use Rattle.game_rules.specs.declared.Point.{Point}
use Rattle.game_rules.specs.declared.Side.TheVariants.{Black}
use Rattle.game_rules.specs.declared.Axis.TheVariants.{Row, Column, Down, Up}
use Rattle.game_rules.proofs.Axes.{no_axis, fewer_axes}
use Rattle.game_rules.proofs.Boards.{and_left, is_empty-on, holds-put_same, run_of-put}
use Rattle.game_rules.proofs.Positions.{IsBoard-put}
use Rattle.game_rules.proofs.Rows.{any_found, any_none}
use Rattle.game_rules.proofs.Outcomes.{no_first}
use Rattle.game_rules.proofs.Threes.{no_line_points}
use Rattle.row_shapes.specs.Reach.{stones_in_reach}
use Rattle.row_shapes.specs.Rule.{fewer_never}
use Rattle.row_shapes.proofs.Reaches.{reach-put, few-no_fours, few-no_three}
use Rattle.foul_judge.specs.BlackMoves.{black_outcome, quiet_outcome}
use Rattle.foul_judge.specs.ShortCut.{reaches_of, may_have_two_threes, may_foul, has_line_three}
use Rattle.foul_judge.proofs.ThreePlaces.{foul-step, no_three, not_free}

-- ---- what the reaches tell of a stone on the board

module _ (rule : RuleKind) (b : Grid) (p : Point) (mine : holds b Black p ≡ true) where
  on : is_on b p ≡ true
  on = and_left (is_on b p) _ mine

  -- an axis with fewer than three stones within reach has no four
  pub few_fours : (d : Axis) (reach : ℕ) → reach ≡ stones_in_reach b Black d p → reach < 3 → fours_of rule b Black d p ≡ 0
  few_fours d reach e few = few-no_fours b Black d p on rule (omega (arith, e, few))

  module _ (ok : IsBoard b) where
    no_point : (d : Axis) (reach : ℕ) → reach ≡ stones_in_reach b Black d p → reach < 2 → (q : Point)
        → is_line_three_point rule b Black d p q ≡ false
    no_point d reach e few q = few-no_three b Black d p on rule q ok mine (omega (arith, e, few))

    -- with fewer than two it has no three point
    pub few_three_points : (d : Axis) (reach : ℕ) → reach ≡ stones_in_reach b Black d p → reach < 2 → has_line_three rule b d p ≡ false
    unfolding has_line_three
    few_three_points d reach e few = any_none _ 11 0 (λ i low high. no_place (along d p i 5)) where
      no_place : (o : Option Point) → is_line_three_at rule b Black d p o ≡ false
      no_place None = refl
      no_place (Some q) = no_point d reach e few q

    three_reach : (d : Axis) → is_three rule b d p (black_foul rule b) ≡ true → nat_le 2 (stones_in_reach b Black d p) ≡ true
    three_reach d h = by_test (nat_le 2 (stones_in_reach b Black d p)) refl where
      by_test : (r : Bool) → nat_le 2 (stones_in_reach b Black d p) ≡ r → r ≡ true
      by_test true e = refl
      by_test false e =
          let few : stones_in_reach b Black d p < 2 = grind (arith, nat_tests) in
          let none = no_line_points rule b d p (no_point d (stones_in_reach b Black d p) refl few) in
          let differ : false ≡ true = sym none ∙ h in
          cc

    -- and where fewer than two axes have two, there are no two threes
    pub few_threes : may_have_two_threes (reaches_of b p) ≡ false
        → nat_le 2 (count_by (λ d. is_three rule b d p (black_foul rule b)) axes) ≡ false
    unfolding may_have_two_threes reaches_of
    few_threes h =
        let fewer = fewer_axes (λ d. is_three rule b d p (black_foul rule b)) (λ d. nat_le 2 (stones_in_reach b Black d p)) three_reach in
        let two : nat_le 2 (count_by (λ d. nat_le 2 (stones_in_reach b Black d p)) axes) ≡ false = h in
        grind (arith, nat_tests)

-- ---- the short cut before a stone is put

-- the stone on the point is none of those within reach of it
pub reaches_of-put : (b : Grid) (p : Point) → is_on b p ≡ true → reaches_of (put b Black p) p ≡ reaches_of b p
unfolding reaches_of
reaches_of-put b p on = cc
    (reach-put b Black p on Row, reach-put b Black p on Column, reach-put b Black p on Down, reach-put b Black p on Up)

module _ (rule : RuleKind) (b : Grid) (p : Point) (ok : IsBoard b) (empty : is_empty b p ≡ true)
    (no : may_foul (reaches_of b p) ≡ false) where
  abbrev next : Grid
  next = put b Black p

  on_board : is_on b p ≡ true
  on_board = is_empty-on b p empty

  stone : holds next Black p ≡ true
  stone = holds-put_same b Black p ok on_board

  none_three : list_any (λ d. nat_le 3 (stones_in_reach b Black d p)) axes ≡ false
  unfolding may_foul reaches_of
  none_three = (or_parts _ _ no).0

  none_two : may_have_two_threes (reaches_of next p) ≡ false
  unfolding may_foul
  none_two = ap may_have_two_threes (reaches_of-put b p on_board) ∙ (or_parts (list_any (λ reach. nat_le 3 reach) (reaches_of b p)) _ no).1

  few : (d : Axis) → stones_in_reach b Black d p < 3
  few d = let h = no_axis (λ d. nat_le 3 (stones_in_reach b Black d p)) none_three d in grind (arith, nat_tests)

  no_over : (d : Axis) → nat_le 6 (run_of next Black d p) ≡ false
  no_over d =
      let run = run_of-put b Black p on_board ok d in
      let short = few d in
      let low : run_of next Black d p < 6 = omega (arith, run, short) in
      grind (arith, nat_tests)

  no_fours : (d : Axis) → fours_of rule next Black d p ≡ 0
  no_fours d = few_fours rule next p stone d (stones_in_reach b Black d p) (sym (reach-put b Black p on_board d)) (few d)

  none : stone_foul rule next p (black_foul rule next) ≡ None
  unfolding stone_foul
  none = rw (
    no_over Row,
    no_over Column,
    no_over Down,
    no_over Up,
    no_fours Row,
    no_fours Column,
    no_fours Down,
    no_fours Up,
    few_threes rule next p stone (IsBoard-put b Black p ok) none_two,
  ) (no_first _)

  -- where the short cut says that a point can be no foul, it is none
  pub no_foul : black_foul rule b p ≡ None
  no_foul = foul-step rule b p ok empty ∙ none

  no_win : (d : Axis) → wins_on rule b Black d p ≡ false
  no_win d =
      let run = run_of-put b Black p on_board ok d in
      let short = few d in
      let low : run_of next Black d p < 5 = omega (arith, run, short) in
      rw (empty, fewer_never rule Black (run_of next Black d p) low) refl

  -- and no five
  pub quiet_by_few : black_outcome rule b p ≡ quiet_outcome (empties_of b)
  quiet_by_few = rw (no_win Row, no_win Column, no_win Down, no_win Up, no_foul) refl

-- ---- the short cut before the judge asks itself

module _ (rule : RuleKind) (b : Grid) (p : Point) where
  places_free : (d : Axis) → has_line_three rule b d p ≡ false → (i : ℕ) → i < 11
      → is_line_three_at rule b Black d p (along d p i 5) ≡ false
  unfolding has_line_three
  places_free d h i low = false_from_ne_true _ (λ yes.
      let some = any_found (λ i. is_line_three_at rule b Black d p (along d p i 5)) 11 0 i (omega arith) (omega arith) yes in
      let differ : false ≡ true = sym h ∙ some in
      cc)

  line_by : (d : Axis) (points : ℕ) → ((i : ℕ) → i < 11 → bit_at points i ≡ cond (is_line_three_at rule b Black d p (along d p i 5)) 1 0)
      → points ≡ 0 → has_line_three rule b d p ≡ false
  unfolding has_line_three
  line_by d points bits zero = any_none _ 11 0
      (λ i low high. clear _ (sym (bits i (omega arith)) ∙ ap (λ n. bit_at n i) zero ∙ bit_at-zero i)) where
        clear : (r : Bool) → ◌≡◌ {A = ℕ} (cond r 1 0) 0 → r ≡ false
        clear true h = absurd (omega arith)
        clear false h = refl

  -- the axis has a three point exactly where the number of its bits is not 0
  pub line_by_bits : (d : Axis) (points : ℕ) → points < 2 ^ 11
      → ((i : ℕ) → i < 11 → bit_at points i ≡ cond (is_line_three_at rule b Black d p (along d p i 5)) 1 0)
      → not (nat_eq points 0) ≡ has_line_three rule b d p
  line_by_bits d points small bits = by_test (nat_eq points 0) refl (has_line_three rule b d p) refl where
    by_test : (r : Bool) → nat_eq points 0 ≡ r → (t : Bool) → has_line_three rule b d p ≡ t → not r ≡ t
    by_test true e true h =
        let zero : points ≡ 0 = grind (arith, nat_tests) in
        let differ : false ≡ true = sym (line_by d points bits zero) ∙ h in
        cc
    by_test true e false h = refl
    by_test false e true h = refl
    by_test false e false h =
        let zero : points ≡ 0 = same_from_bits_below 11 points 0 small (omega arith)
        (λ i low. bits i low ∙ ap (λ r. cond r 1 0) (places_free d h i low) ∙ sym (bit_at-zero i)) in
        absurd (grind (arith, nat_tests))

  module _ (ok : IsBoard b) (mine : holds b Black p ≡ true) where
    three_line : (d : Axis) → is_three rule b d p (black_foul rule b) ≡ true → has_line_three rule b d p ≡ true
    three_line d h = by_test (has_line_three rule b d p) refl where
      by_test : (r : Bool) → has_line_three rule b d p ≡ r → r ≡ true
      by_test true e = refl
      by_test false e =
          let none = no_three rule b d p ok mine (λ i low. not_free rule b d p (along d p i 5) (places_free d e i low)) in
          let differ : false ≡ true = sym none ∙ h in
          cc

    -- at most as many axes are threes as have three points
    pub threes_by_lines : count_by (λ d. is_three rule b d p (black_foul rule b)) axes ≤ count_by (λ d. has_line_three rule b d p) axes
    threes_by_lines = fewer_axes (λ d. is_three rule b d p (black_foul rule b)) (λ d. has_line_three rule b d p) three_line

    pub no_two_threes : (n : ℕ) → n ≡ count_by (λ d. has_line_three rule b d p) axes → n < 2
        → nat_le 2 (count_by (λ d. is_three rule b d p (black_foul rule b)) axes) ≡ false
    no_two_threes n e few = let fewer = threes_by_lines in grind (arith, nat_tests)
