-- What the shapes of a point tell of a move of Black there, where Black has fouls.
use Rattle.std.proofs.Common.{ℕ, zero, suc, ◌+◌, ◌*◌, Bool, cond, ◌≡◌, ◌%◌, true, false, arith, ◌/◌, ◌<◌, sym, ◌&&◌, rules}
use Rattle.std.proofs.Common.{ap, ◌∙◌, ◌^◌, not, List, refl, nat_eq, nat_le, sum_by, count_by, Option, is_none}
use Rattle.std.specs.Int.{bit_at}
use Rattle.std.specs.List.{range_with_len, list_any}
use Rattle.std.specs.Option.{option_map_or}
use Rattle.std.proofs.lemmas.Bool.Decides.{nat_tests}
use Rattle.std.proofs.lemmas.Nat.Bits.{bit_at_lowest, bit_at-suc}
use Rattle.game_rules.proofs.Common.{Grid, IsBoard, is_empty, put, axes, along, run_of, fours_of, is_line_three_at, has_fouls}
use Rattle.game_rules.proofs.Common.{row_wins, is_straight, first_foul, stone_foul, black_foul, five, mover, outcome, empties_of, is_win, is_foul}
use Rattle.game_rules.specs.declared.RuleKind.{RuleKind}
use Rattle.game_rules.specs.declared.Axis.{Axis}
use Rattle.game_rules.specs.declared.Point.{Point}
use Rattle.game_rules.specs.declared.Side.{Side}
use Rattle.game_rules.specs.declared.Side.TheVariants.{Black}
use Rattle.game_rules.specs.declared.Foul.{Foul}
use Rattle.game_rules.specs.declared.Foul.TheVariants.{Overline, DoubleFour, DoubleThree}
use Rattle.game_rules.specs.declared.Outcome.{Outcome}
use Rattle.game_rules.specs.declared.Outcome.TheVariants.{Wins, Fouls, Draws, GoesOn}
use Rattle.game_rules.specs.declared.Axis.TheVariants.{Row, Column, Down, Up}
use Rattle.game_rules.proofs.Boards.{is_empty-on, holds-put_same, run_of-put}
use Rattle.game_rules.proofs.Positions.{IsBoard-put}
use Rattle.game_rules.proofs.Fives.{five_alone}
use Rattle.row_shapes.specs.declared.shapes.Shape.{Shape}
use Rattle.row_shapes.specs.Rule.{reach_of, fewer_never}
use Rattle.row_shapes.specs.Reach.{stones_in_reach}
use Rattle.row_shapes.proofs.Reaches.{reach-put}
use Rattle.row_shapes.specs.LineShapes.{stone_shape, shape_at, three_bits, IsShape}
use Rattle.row_shapes.proofs.CodeDigits.{reach_five}
use Rattle.foul_judge.proofs.Common.{has_line_three, black_outcome, foul_in, outcome_of_shapes, stone_shapes, two_threes}
use Rattle.foul_judge.proofs.ThreePlaces.{foul-step}
use Rattle.foul_judge.proofs.MayFoul.{no_two_threes, line_by_bits, few_fours, few_three_points}

-- the number whose bits from a on a test tells, shifted down
halved : (ℕ → Bool) → ℕ → ℕ → ℕ
halved t zero a = 0
halved t (suc k) a = cond (t a) 1 0 + 2 * halved t k (a + 1)

odd_by : (r : Bool) (q : ℕ) → (cond r 1 0 + 2 * q) % 2 ≡ cond r 1 0
odd_by true q = omega arith
odd_by false q = omega arith

half_by : (r : Bool) (q : ℕ) → (cond r 1 0 + 2 * q) / 2 ≡ q
half_by true q = omega arith
half_by false q = omega arith

halved-bits : (t : ℕ → Bool) (k a i : ℕ) → i < k → bit_at (halved t k a) i ≡ cond (t (a + i)) 1 0
unfolding halved
halved-bits t zero a i h = absurd (omega arith)
halved-bits t (suc k) a zero h = let e : a + 0 ≡ a =
    omega arith in bit_at_lowest _ ∙ odd_by (t a) (halved t k (a + 1)) ∙ ap (λ j. cond (t j) 1 0) (sym e)
halved-bits t (suc k) a (suc i) h =
    let e : a + suc i ≡ a + 1 + i = omega arith in
    bit_at-suc _ i ∙ ap (λ n. bit_at n i) (half_by (t a) (halved t k (a + 1))) ∙ halved-bits t k (a + 1) i (omega arith)
    ∙ ap (λ j. cond (t j) 1 0) (sym e)

times : (r : Bool) (n : ℕ) → cond r n 0 ≡ n * cond r 1 0
times true n = omega arith
times false n = omega arith

one_bit : (r : Bool) → cond r 1 0 < 2
one_bit true = omega arith
one_bit false = omega arith

halved-sum : (t : ℕ → Bool) → sum_by (λ i. cond (t i) (2 ^ i) 0) (range_with_len 0 11) ≡ halved t 11 0
unfolding halved
halved-sum t = omega (
  arith,
  times (t 0) 1,
  times (t 1) 2,
  times (t 2) 4,
  times (t 3) 8,
  times (t 4) 16,
  times (t 5) 32,
  times (t 6) 64,
  times (t 7) 128,
  times (t 8) 256,
  times (t 9) 512,
  times (t 10) 1024,
)

halved-low : (t : ℕ → Bool) → halved t 11 0 < 2 ^ 11
unfolding halved
halved-low t = omega (
  arith,
  one_bit (t 0),
  one_bit (t 1),
  one_bit (t 2),
  one_bit (t 3),
  one_bit (t 4),
  one_bit (t 5),
  one_bit (t 6),
  one_bit (t 7),
  one_bit (t 8),
  one_bit (t 9),
  one_bit (t 10),
)

no_bits : (n : ℕ) → not (nat_eq n 0) ≡ false → n ≡ 0
no_bits n h = grind (arith, nat_tests)

module _ (rule : RuleKind) (b : Grid) (d : Axis) (p : Point) where
  abbrev three_at : ℕ → Bool
  three_at i = is_line_three_at rule b Black d p (along d p i 5)

  three_bits-is : three_bits rule b Black d p ≡ halved three_at 11 0
  unfolding three_bits
  three_bits-is = halved-sum three_at

  -- each place of a three point has its bit
  pub three_bit : (points i : ℕ) → points ≡ three_bits rule b Black d p → i < 11
      → bit_at points i ≡ cond (is_line_three_at rule b Black d p (along d p i 5)) 1 0
  three_bit points i e low =
      let here : 0 + i ≡ i = omega arith in
      ap (λ n. bit_at n i) (e ∙ three_bits-is) ∙ halved-bits three_at 11 0 i low ∙ ap (λ j. cond (three_at j) 1 0) here

  -- the axis has one exactly where there is a bit
  pub three_bits-some : not (nat_eq (three_bits rule b Black d p) 0) ≡ has_line_three rule b d p
  three_bits-some = line_by_bits rule b p d (three_bits rule b Black d p) (rw three_bits-is (halved-low three_at))
      (λ i low. three_bit _ i refl low)

-- ---- what the shapes of a stone say together

-- the side that has fouls is Black
pub fouls-black : (rule : RuleKind) (s : Side) → has_fouls rule s ≡ true → s ≡ Black
fouls-black rule s h = search rules

pub black-fouls : (rule : RuleKind) (s : Side) → has_fouls rule s ≡ true → has_fouls rule Black ≡ true
black-fouls rule s h = ap (has_fouls rule) (sym (fouls-black rule s h)) ∙ h

asked : (five over fours threes : Bool) (quiet : Outcome)
    → cond five Wins (option_map_or Fouls (first_foul five over fours threes) quiet)
    ≡ cond five Wins (cond over (Fouls Overline) (cond fours (Fouls DoubleFour) (cond threes (Fouls DoubleThree) quiet)))
asked five over fours threes quiet = search rules

foul_told : (five over fours threes last : Bool)
    → foul_in (cond five Wins (option_map_or Fouls (first_foul five over fours threes) (cond last Draws GoesOn)))
    ≡ first_foul five over fours threes
foul_told five over fours threes last = search rules

-- neither a win nor a foul is what is neither a five nor a foul
quiet_by : (five last : Bool) (foul : Option Foul)
    → (not (is_win (cond five Wins (option_map_or Fouls foul (cond last Draws GoesOn))))
    && not (is_foul (cond five Wins (option_map_or Fouls foul (cond last Draws GoesOn))))) ≡ (not five && is_none foul)
quiet_by five last foul = search rules

module _ (rule : RuleKind) (b : Grid) (p : Point) where
  pub quiet-outcome : (o : Outcome) → o ≡ black_outcome rule b p
      → (not (is_win o) && not (is_foul o)) ≡ (not (five rule b Black p) && is_none (black_foul rule b p))
  quiet-outcome o e = ap (λ (t : Outcome). not (is_win t) && not (is_foul t)) e
      ∙ quiet_by (five rule b Black p) (nat_eq (empties_of b) 1) (black_foul rule b p)

  -- where a side that has fouls is to move
  pub by_turn : (s : Side) → s ≡ mover b → has_fouls rule s ≡ true → is_empty b p ≡ true → outcome rule b p ≡ black_outcome rule b p
  unfolding outcome
  by_turn s turn has empty =
      let moves : mover b ≡ Black = sym turn ∙ fouls-black rule s has in
      rw (moves, black-fouls rule s has, empty) refl

  module _ (fouls : has_fouls rule Black ≡ true) where
    abbrev next : Grid
    next = put b Black p

    -- a shape that is told is the one that the stone makes, since an overline is told where five neighbours are seen
    pub made_is : (d : Axis) (told : Shape) → IsShape (reach_of rule Black) told (shape_at rule b Black d p)
        → told ≡ stone_shape rule (put b Black p) Black d p
    unfolding shape_at
    made_is d told is = λ i. record {
      five = is.five i;
      over = is.over (reach_five rule fouls) i;
      fours = is.fours i;
      straight = is.straight i;
      three = is.three i;
    }

    module _ (ok : IsBoard b) (empty : is_empty b p ≡ true) where
      abbrev exactly_five : Bool
      exactly_five = list_any (λ d. nat_eq (run_of next Black d p) 5) axes

      five_is : five rule b Black p ≡ exactly_five
      five_is = rw (
        empty,
        five_alone rule fouls (run_of next Black Row p),
        five_alone rule fouls (run_of next Black Column p),
        five_alone rule fouls (run_of next Black Down p),
        five_alone rule fouls (run_of next Black Up p),
      ) refl

      foul_is : black_foul rule b p ≡ first_foul exactly_five (list_any (λ d. nat_le 6 (run_of next Black d p)) axes)
          (nat_le 2 (sum_by (λ d. fours_of rule next Black d p) axes)) (two_threes rule next p)
      unfolding stone_foul
      foul_is = foul-step rule b p ok empty

      shapes_five : list_any (λ (shape : Shape). shape.five) (stone_shapes rule next p) ≡ exactly_five
      shapes_five = rw (
        five_alone rule fouls (run_of next Black Row p),
        five_alone rule fouls (run_of next Black Column p),
        five_alone rule fouls (run_of next Black Down p),
        five_alone rule fouls (run_of next Black Up p),
      ) refl

      -- with fewer than two stones within reach of it the stone makes nothing on the axis
      pub blank_shape : (d : Axis) → stones_in_reach b Black d p < 2
          → record { five = false; over = false; fours = 0; straight = false; three = 0 } ≡ stone_shape rule (put b Black p) Black d p
      unfolding is_straight
      blank_shape d few =
          let here = is_empty-on b p empty in
          let stone = holds-put_same b Black p ok here in
          let same = reach-put b Black p here d in
          let run = run_of-put b Black p here ok d in
          let short : run_of next Black d p < 4 = omega (arith, run, few) in
          let five : row_wins rule Black (run_of next Black d p) ≡ false = fewer_never rule Black (run_of next Black d p) (omega arith) in
          let over : nat_le 6 (run_of next Black d p) ≡ false = grind (arith, nat_tests) in
          let four : nat_eq (run_of next Black d p) 4 ≡ false = grind (arith, nat_tests) in
          let fours = few_fours rule next p stone d (stones_in_reach b Black d p) (sym same) (omega (arith, few)) in
          let none = few_three_points rule next p stone (IsBoard-put b Black p ok) d (stones_in_reach b Black d p) (sym same) few in
          let three = no_bits (three_bits rule next Black d p) (three_bits-some rule next d p ∙ none) in
          rw (five, over, four, fours, three) refl

      pub by_shapes : (shapes : List Shape) → shapes ≡ stone_shapes rule (put b Black p) p
          → black_outcome rule b p ≡ outcome_of_shapes shapes (two_threes rule (put b Black p) p) (empties_of b)
      by_shapes shapes are = rw (are, five_is, foul_is, shapes_five) (asked exactly_five _ _ _ _)

      pub foul_in-outcome : foul_in (black_outcome rule b p) ≡ black_foul rule b p
      foul_in-outcome = rw (five_is, foul_is) (foul_told exactly_five _ _ _ _)

      -- fewer than two axes with a three point make no two threes
      pub few_lines : (shapes : List Shape) → shapes ≡ stone_shapes rule (put b Black p) p → (n : ℕ)
          → n ≡ count_by (λ (shape : Shape). not (nat_eq shape.three 0)) shapes → n < 2 → false ≡ two_threes rule (put b Black p) p
      few_lines shapes are n e low = sym (no_two_threes rule next p (IsBoard-put b Black p ok)
          (holds-put_same b Black p ok (is_empty-on b p empty)) n (e ∙ rw (
            are,
            three_bits-some rule next Row p,
            three_bits-some rule next Column p,
            three_bits-some rule next Down p,
            three_bits-some rule next Up p,
          ) refl) low)
