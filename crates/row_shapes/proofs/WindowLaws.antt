-- A stone that makes a winning run fills a window of its line.
use Rattle.std.proofs.Common.{◌≡◌, ◌≢◌, inl, inr, ℕ, zero, suc, ◌+◌, ◌-◌, ◌/◌, ◌^◌, ◌≤◌, ◌<◌, Bool}
use Rattle.std.proofs.Common.{true, false, ◌&&◌, not, nat_eq, refl, sym, ap, ◌∙◌, arith, List, [], ◌∷◌, Option, Some, None}
use Rattle.std.proofs.Common.{bit_and, bit_or}
use Rattle.std.specs.Int.{bit_at, bit_not, w32}
use Rattle.std.specs.List.{list_any}
use Rattle.std.proofs.lemmas.Bool.{cases_eq, cases_lt, false_from_ne_true, both_ways}
use Rattle.std.proofs.lemmas.Nat.Bits.{bit_at_and, bit_at_or, bit_at_not, bit_at-lt, bit_at-zero, bit_at-pow_same, shr_and_one}
use Rattle.std.proofs.lemmas.Nat.{and_mask}
use Rattle.game_rules.proofs.Common.{Grid, IsBoard, is_on, is_empty, holds, run_of, points_of, row_wins, stones_ahead, stones_behind, wins_on, five, other}
use Rattle.game_rules.proofs.Common.{has_five, put, towards, run_end, along, wins_at, fours_of, place_stone, place_wins}
use Rattle.game_rules.specs.declared.RuleKind.{RuleKind}
use Rattle.game_rules.specs.declared.Side.{Side}
use Rattle.game_rules.specs.declared.Axis.{Axis}
use Rattle.game_rules.specs.declared.Axis.TheVariants.{Row, Column, Down, Up}
use Rattle.game_rules.specs.declared.Point.{Point}
use Rattle.game_rules.specs.declared.Way.{Way}
use Rattle.game_rules.proofs.Boards.{and_left, and_right, is_empty-on}
use Rattle.game_rules.specs.declared.Way.TheVariants.{Ahead, Behind}
use Rattle.game_rules.proofs.Positions.{IsBoard-put}
use Rattle.std.proofs.lemmas.Bool.Decides.{nat_tests}
use Rattle.game_rules.proofs.Wins.{wins_on-stones, row_wins-five}
use Rattle.stone_board.specs.Lines.{line_of, place_on, TellsLine}
use Rattle.stone_board.proofs.LineBits.{IsNear, board-near}
use Rattle.stone_board.proofs.LineStones.{along-places, TellsLine-put, place_low, stone_bit, empty_bit, ahead_bit, behind_low, behind_bit}
use Rattle.stone_board.proofs.Ones.{bit_shr}
use Rattle.row_shapes.proofs.Common.{HasRow, IsWindow, IsPassed, AreWindowLines, kept_five, end_five}
use Rattle.row_shapes.specs.declared.windows.WindowLines.{WindowLines}
use Rattle.row_shapes.proofs.Counting.{fours_of-gap, no_wins}

-- ---- windows by shifts

pub both : (a b i : ℕ) → bit_at a i ≡ 1 → bit_at b i ≡ 1 → bit_at (bit_and a b) i ≡ 1
both a b i h k = bit_at_and a b i ∙ omega (arith, h, k)

pub left : (a b i : ℕ) → bit_at a i ≡ 1 → bit_at (bit_or a b) i ≡ 1
left a b i h = let low = bit_at-lt b i in bit_at_or a b i ∙ omega (arith, h, low)

pub right : (a b i : ℕ) → bit_at b i ≡ 1 → bit_at (bit_or a b) i ≡ 1
right a b i h = let low = bit_at-lt a i in bit_at_or a b i ∙ omega (arith, h, low)

pub neither : (own theirs m : ℕ) → bit_or own theirs < 2 ^ 32 → m < 32 → bit_at own m ≡ 0 → bit_at theirs m ≡ 0
    → bit_at (bit_not w32 (bit_or own theirs)) m ≡ 1
neither own theirs m fits low h k =
    let none : bit_at (bit_or own theirs) m ≡ 0 = bit_at_or own theirs m ∙ (rw (h, k) refl) in
    bit_at_not w32 (bit_or own theirs) m fits low ∙ ap (λ n. 1 - n) none

four_and : (a c e f g i : ℕ) → bit_at a i ≡ 1 → bit_at c i ≡ 1 → bit_at e i ≡ 1 → bit_at f i ≡ 1 → bit_at g i ≡ 1
    → bit_at (bit_and (bit_and (bit_and (bit_and a c) e) f) g) i ≡ 1
four_and a c e f g i h k l m n = both (bit_and (bit_and (bit_and a c) e) f) g i
    (both (bit_and (bit_and a c) e) f i (both (bit_and a c) e i (both a c i h k) l) m) n

-- the places from which a window begins, as the code tells them
module _ (own free : ℕ) where
  abbrev pub gap_first : ℕ
  gap_first = bit_and (bit_and (bit_and (bit_and (own / 2 ^ 1) (own / 2 ^ 2)) (own / 2 ^ 3)) (own / 2 ^ 4)) free

  abbrev pub gap_second : ℕ
  gap_second = bit_and (bit_and (bit_and (bit_and own (own / 2 ^ 2)) (own / 2 ^ 3)) (own / 2 ^ 4)) (free / 2 ^ 1)

  abbrev pub gap_third : ℕ
  gap_third = bit_and (bit_and (bit_and (bit_and own (own / 2 ^ 1)) (own / 2 ^ 3)) (own / 2 ^ 4)) (free / 2 ^ 2)

  abbrev pub gap_fourth : ℕ
  gap_fourth = bit_and (bit_and (bit_and (bit_and own (own / 2 ^ 1)) (own / 2 ^ 2)) (own / 2 ^ 4)) (free / 2 ^ 3)

  abbrev pub gap_fifth : ℕ
  gap_fifth = bit_and (bit_and (bit_and (bit_and own (own / 2 ^ 1)) (own / 2 ^ 2)) (own / 2 ^ 3)) (free / 2 ^ 4)

  abbrev pub window_bits : ℕ
  window_bits = bit_or (bit_or (bit_or (bit_or gap_first gap_second) gap_third) gap_fourth) gap_fifth

  module _ (theirs i : ℕ) (gap : (m : ℕ) → m < 32 → bit_at own m ≡ 0 → bit_at theirs m ≡ 0 → bit_at free m ≡ 1) where
    stone : (j k : ℕ) → IsWindow own theirs i j → k < 5 → k ≢ j → bit_at (own / 2 ^ k) i ≡ 1
    stone j k h low other = bit_shr own k i ∙ h.stones k low other

    start : (j : ℕ) → IsWindow own theirs i j → 0 ≢ j → bit_at own i ≡ 1
    start j h other = let same : i ≡ i + 0 = omega arith in ap (bit_at own) same ∙ h.stones 0 (omega arith) other

    clear : (j : ℕ) → IsWindow own theirs i j → bit_at (free / 2 ^ j) i ≡ 1
    clear j h = bit_shr free j i ∙ gap (i + j) h.within h.gap h.free

    clear_first : IsWindow own theirs i 0 → bit_at free i ≡ 1
    clear_first h = let same : i ≡ i + 0 = omega arith in ap (bit_at free) same ∙ gap (i + 0) h.within h.gap h.free

    pub window-bit : (j : ℕ) → IsWindow own theirs i j → bit_at window_bits i ≡ 1
    window-bit zero h =
        left _ gap_fifth i (left _ gap_fourth i (left _ gap_third i (left gap_first gap_second i
        (four_and (own / 2 ^ 1) (own / 2 ^ 2) (own / 2 ^ 3) (own / 2 ^ 4) free i
        (stone 0 1 h (omega arith) (λ e. absurd (omega (arith, e)))) (stone 0 2 h (omega arith) (λ e. absurd (omega (arith, e))))
        (stone 0 3 h (omega arith) (λ e. absurd (omega (arith, e)))) (stone 0 4 h (omega arith) (λ e. absurd (omega (arith, e))))
        (clear_first h)))))
    window-bit (suc zero) h =
        left _ gap_fifth i (left _ gap_fourth i (left _ gap_third i (right gap_first gap_second i
        (four_and own (own / 2 ^ 2) (own / 2 ^ 3) (own / 2 ^ 4) (free / 2 ^ 1) i
        (start 1 h (λ e. absurd (omega (arith, e)))) (stone 1 2 h (omega arith) (λ e. absurd (omega (arith, e))))
        (stone 1 3 h (omega arith) (λ e. absurd (omega (arith, e)))) (stone 1 4 h (omega arith) (λ e. absurd (omega (arith, e))))
        (clear 1 h)))))
    window-bit (suc (suc zero)) h =
        left _ gap_fifth i (left _ gap_fourth i (right (bit_or gap_first gap_second) gap_third i
        (four_and own (own / 2 ^ 1) (own / 2 ^ 3) (own / 2 ^ 4) (free / 2 ^ 2) i
        (start 2 h (λ e. absurd (omega (arith, e)))) (stone 2 1 h (omega arith) (λ e. absurd (omega (arith, e))))
        (stone 2 3 h (omega arith) (λ e. absurd (omega (arith, e)))) (stone 2 4 h (omega arith) (λ e. absurd (omega (arith, e))))
        (clear 2 h))))
    window-bit (suc (suc (suc zero))) h =
        left _ gap_fifth i (right (bit_or (bit_or gap_first gap_second) gap_third) gap_fourth i
        (four_and own (own / 2 ^ 1) (own / 2 ^ 2) (own / 2 ^ 4) (free / 2 ^ 3) i
        (start 3 h (λ e. absurd (omega (arith, e)))) (stone 3 1 h (omega arith) (λ e. absurd (omega (arith, e))))
        (stone 3 2 h (omega arith) (λ e. absurd (omega (arith, e)))) (stone 3 4 h (omega arith) (λ e. absurd (omega (arith, e))))
        (clear 3 h)))
    window-bit (suc (suc (suc (suc zero)))) h =
        right (bit_or (bit_or (bit_or gap_first gap_second) gap_third) gap_fourth) gap_fifth i
        (four_and own (own / 2 ^ 1) (own / 2 ^ 2) (own / 2 ^ 3) (free / 2 ^ 4) i
        (start 4 h (λ e. absurd (omega (arith, e)))) (stone 4 1 h (omega arith) (λ e. absurd (omega (arith, e))))
        (stone 4 2 h (omega arith) (λ e. absurd (omega (arith, e)))) (stone 4 3 h (omega arith) (λ e. absurd (omega (arith, e))))
        (clear 4 h))
    window-bit (suc (suc (suc (suc (suc j))))) h = absurd (let near = h.near in omega (arith, near))

-- ---- the window that a winning stone fills

module _ (b : Grid) (s : Side) (d : Axis) (n own : ℕ) (ok : IsBoard b) (mine : TellsLine b s d n own) (q : Point)
    (on : is_on b q ≡ true) (line : line_of d q ≡ n) where
  abbrev place : ℕ
  place = place_on d q

  abbrev fore : ℕ
  fore = stones_ahead b s d q

  abbrev back : ℕ
  back = stones_behind b s d q

  place_here : (j : ℕ) → j ≤ back → place - j + j ≡ place
  place_here j behind = let low = behind_low b s d n own ok mine q on line j behind in omega (arith, low)

  -- j stones behind the point and the others ahead of it
  row_stone : (j : ℕ) → j ≤ back → 4 ≤ j + fore → (k : ℕ) → k < 5 → k ≢ j → bit_at own (place - j + k) ≡ 1
  row_stone j behind ahead k k_low differ =
      let low = behind_low b s d n own ok mine q on line j behind in
      elim (cases_lt k j) [
        | inl less ↦ let same : place - j + k ≡ place - (j - k) = omega (arith, low, less) in
            ap (bit_at own) same ∙ behind_bit b s d n own ok mine q on line (j - k) (omega (arith, less)) (omega (arith, behind))
        | inr more ↦ let same : place - j + k ≡ place + (k - j) = omega (arith, low, more) in
            ap (bit_at own) same ∙ ahead_bit b s d n own ok mine q on line (k - j) (omega (arith, more, differ))
            (omega (arith, ahead, k_low))
      ]

  -- how many of four stones next to the point are behind it
  some_behind : 4 ≤ fore + back → (j : ℕ) × (j ≤ back) × (4 ≤ j + fore) × (j < 5)
  some_behind enough = elim (cases_lt back 4) [
    | inl few ↦ (back, omega arith, omega (arith, enough), omega (arith, few))
    | inr many ↦ (4, many, omega arith, omega arith)
  ]

  -- with a stone on the point they are five in a row
  row_of : (bits : ℕ) → ((i : ℕ) → bit_at own i ≡ 1 → bit_at bits i ≡ 1) → bit_at bits place ≡ 1 → 4 ≤ fore + back → HasRow bits
  row_of bits kept there enough =
      let some = some_behind enough in
      let here = place_here some.0 some.1 in
      record {
        first = place - some.0;
        set = λ k low. elim (cases_eq k some.0) [
          | inl same ↦ ap (bit_at bits) (ap (λ m. place - some.0 + m) same ∙ here) ∙ there
          | inr differ ↦ kept (place - some.0 + k) (row_stone some.0 some.1 some.2 k low differ)
        ];
      }

  -- and without it a window
  window_of : is_empty b q ≡ true → (theirs : ℕ) → bit_at theirs place ≡ 0 → 4 ≤ fore + back
      → (i : ℕ) × (j : ℕ) × IsWindow own theirs i j
  window_of empty theirs clear enough =
      let some = some_behind enough in
      let fits = place_low d q (board-near b q ok on) in
      let here = place_here some.0 some.1 in (
        place - some.0,
        some.0,
        record {
          near = some.3;
          within = omega (arith, here, fits);
          stones = row_stone some.0 some.1 some.2;
          gap = ap (bit_at own) here ∙ empty_bit b s d n own ok mine q line empty;
          free = ap (bit_at theirs) here ∙ clear;
        },
      )

-- a stone that wins has four more in its row
four_more : (rule : RuleKind) (b : Grid) (s : Side) (d : Axis) (q : Point) → IsBoard b → wins_on rule b s d q ≡ true
    → 4 ≤ stones_ahead b s d q + stones_behind b s d q
four_more rule b s d q ok h =
    let stones : (is_empty b q && row_wins rule s (1 + stones_ahead b s d q + stones_behind b s d q)) ≡ true = sym
    (wins_on-stones rule b s d q ok) ∙ h in
    let five = row_wins-five rule s (1 + stones_ahead b s d q + stones_behind b s d q) (and_right (is_empty b q) _ stones) in
    omega (arith, five)

-- where a stone makes no five in a row, it does not win
pub no_row : (rule : RuleKind) (b : Grid) (s : Side) (d : Axis) (q : Point) (own : ℕ) → IsBoard b → TellsLine b s d (line_of d q) own
    → (HasRow (bit_or own (2 ^ place_on d q)) → ⊥) → wins_on rule b s d q ≡ false
no_row rule b s d q own ok mine none = false_from_ne_true _ (λ h.
    none (row_of b s d (line_of d q) own ok mine q (is_empty-on b q (and_left (is_empty b q) _ h)) refl _
    (left own (2 ^ place_on d q)) (right own (2 ^ place_on d q) (place_on d q) (bit_at-pow_same (place_on d q))) (four_more rule b s d q ok h)))

-- a stone whose line has no five in a row has no run that wins
pub no_run : (rule : RuleKind) (b : Grid) (s : Side) (d : Axis) (q : Point) (own : ℕ) → IsBoard b → TellsLine b s d (line_of d q) own
    → (HasRow own → ⊥) → holds b s q ≡ true → row_wins rule s (run_of b s d q) ≡ false
no_run rule b s d q own ok mine none stone = false_from_ne_true _ (λ h.
    let five = row_wins-five rule s _ h in
    let run : run_of b s d q ≡ 1 + stones_ahead b s d q + stones_behind b s d q = rw stone refl in
    none (row_of b s d (line_of d q) own ok mine q (and_left (is_on b q) _ stone) refl own (λ i set. set)
    (stone_bit b s d (line_of d q) own ok mine q refl stone) (omega (arith, five, run))))

-- the empty points of the line are clear in the bits
abbrev pub AreClear : Grid → Axis → ℕ → ℕ → Type 0
AreClear b d n bits = (q : Point) → is_empty b q ≡ true → line_of d q ≡ n → bit_at bits (place_on d q) ≡ 0

pub rival_clear : (b : Grid) (s : Side) (d : Axis) (n theirs : ℕ) → IsBoard b → TellsLine b (other s) d n theirs → AreClear b d n theirs
rival_clear b s d n theirs ok rival = λ q empty line. empty_bit b (other s) d n theirs ok rival q line empty

pub zero_clear : (b : Grid) (d : Axis) (n : ℕ) → AreClear b d n 0
zero_clear b d n = λ q empty line. bit_at-zero (place_on d q)

module _ (b : Grid) (s : Side) (d : Axis) (n own theirs : ℕ) (ok : IsBoard b) (mine : TellsLine b s d n own)
    (rival : AreClear b d n theirs) where
  -- a line with no window has no point where a stone of the side wins
  pub no_window : (w : ℕ) → ((i j : ℕ) → IsWindow own theirs i j → bit_at w i ≡ 1) → w ≡ 0 → (rule : RuleKind) (q : Point)
      → line_of d q ≡ n → wins_on rule b s d q ≡ false
  no_window w told none rule q line = false_from_ne_true _ (λ h.
      let empty : is_empty b q ≡ true = and_left (is_empty b q) _ h in
      let window = window_of b s d n own ok mine q (is_empty-on b q empty) line empty theirs (rival q empty line)
      (four_more rule b s d q ok h) in
      let bit : 0 ≡ 1 = sym (bit_at-zero window.0) ∙ ap (λ m. bit_at m window.0) (sym none) ∙ told window.0 window.1 window.2 in
      absurd (omega (arith, bit)))

-- a number that isn't other than 0
pub is_zero : (w : ℕ) → not (nat_eq w 0) ≡ false → w ≡ 0
is_zero w h = grind (arith, nat_tests)

-- ---- the line of a new stone

kept-None : (rule : RuleKind) (b : Grid) (s : Side) (d : Axis) (o : Option Point)
    → ((q : Point) → o ≡ Some q → wins_on rule b s d q ≡ false) → kept_five rule b s d o ≡ None
kept-None rule b s d None h = refl
kept-None rule b s d (Some q) h = rw (h q refl) refl

-- a point some steps away is on the line
way_line : (w : Way) (d : Axis) (p q : Point) (k : ℕ) → IsNear p → IsNear q → towards w d p k ≡ Some q → line_of d q ≡ line_of d p
way_line Ahead d p q k near close there = (along-places d p q k 0 near close there).line
way_line Behind d p q k near close there = (along-places d p q 0 k near close there).line

module _ (b : Grid) (s : Side) (d : Axis) (p : Point) (own theirs : ℕ) (ok : IsBoard b) (empty : is_empty b p ≡ true)
    (mine : TellsLine b s d (line_of d p) own) (rival : AreClear (put b s p) d (line_of d p) theirs) where
  -- where the line has no window with the stone, no further stone wins on it
  pub no_end : (w : ℕ) → ((i j : ℕ) → IsWindow (bit_or own (2 ^ place_on d p)) theirs i j → bit_at w i ≡ 1) → w ≡ 0 → (rule : RuleKind)
      (way : Way) → end_five rule b s d p way ≡ None
  unfolding end_five
  no_end w told none rule way = kept-None rule (put b s p) s d (run_end b s d way p) (λ q there. false_from_ne_true _ (λ h.
      let after : IsBoard (put b s p) = IsBoard-put b s p ok in
      let on : is_on (put b s p) q ≡ true = is_empty-on (put b s p) q (and_left (is_empty (put b s p) q) _ h) in
      let line : line_of d q ≡ line_of d p = way_line way d p q _ (board-near b p ok (is_empty-on b p empty))
      (board-near (put b s p) q after on) there in
      both_ways _ (no_window (put b s p) s d (line_of d p) _ theirs after (TellsLine-put b s d p own ok empty mine)
      rival w told none rule q line) h))

-- ---- all lines

-- a point where a stone wins is on the board
pub wins-on_board : (rule : RuleKind) (b : Grid) (s : Side) (d : Axis) (q : Point) → wins_on rule b s d q ≡ true → is_on b q ≡ true
wins-on_board rule b s d q h = is_empty-on b q (and_left (is_empty b q) _ h)

none_passes : (f : Point → Bool) (ps : List Point) → ((p : Point) → f p ≡ false) → list_any f ps ≡ false
none_passes f [] h = refl
none_passes f (p ∷ ps) h = rw (h p) (none_passes f ps h)

-- a board on which no stone wins on any axis has no five point
pub no_fives : (rule : RuleKind) (b : Grid) (s : Side) → ((q : Point) → wins_on rule b s Row q ≡ false)
    → ((q : Point) → wins_on rule b s Column q ≡ false)
    → ((q : Point) → wins_on rule b s Down q ≡ false) → ((q : Point) → wins_on rule b s Up q ≡ false) → has_five rule b s ≡ false
no_fives rule b s row column down up = none_passes (five rule b s) (points_of b) (λ q. rw (row q, column q, down q, up q) refl)

-- ---- the lines that may win

-- a bit that is 0 in all is 0 in each
none_or : (a c e f i : ℕ) → bit_at (bit_or (bit_or (bit_or a c) e) f) i ≡ 0
    → (bit_at a i ≡ 0) × (bit_at c i ≡ 0) × (bit_at e i ≡ 0) × (bit_at f i ≡ 0)
none_or a c e f i none =
    let all = bit_at_or (bit_or (bit_or a c) e) f i in
    let three = bit_at_or (bit_or a c) e i in
    let two = bit_at_or a c i in (
      omega (arith, none, all, three, two),
      omega (arith, none, all, three, two),
      omega (arith, none, all, three, two),
      omega (arith, none, all, three, two),
    )

pub none_of_four : (a c e f i : ℕ) → bit_or (bit_or (bit_or a c) e) f ≡ 0
    → (bit_at a i ≡ 0) × (bit_at c i ≡ 0) × (bit_at e i ≡ 0) × (bit_at f i ≡ 0)
none_of_four a c e f i none = none_or a c e f i (ap (λ m. bit_at m i) none ∙ bit_at-zero i)

-- where all points are passed, the side has no five point
pub passes-all : (b : Grid) (s : Side) (lines : WindowLines) → AreWindowLines b s lines → ((p : Point) → IsPassed lines p)
    → (rule : RuleKind)
    → has_five rule b s ≡ false
passes-all b s lines h all rule = no_fives rule b s (λ q. h.row rule q (all q).row) (λ q. h.column rule q (all q).column)
    (λ q. h.down rule q (all q).down) (λ q. h.up rule q (all q).up)

-- a point that is passed is no five point
pub passes-point : (b : Grid) (s : Side) (lines : WindowLines) (p : Point) → AreWindowLines b s lines → IsPassed lines p → (rule : RuleKind)
    → five rule b s p ≡ false
passes-point b s lines p h off rule = rw (h.row rule p off.row, h.column rule p off.column, h.down rule p off.down, h.up rule p off.up) refl

-- a number below 32 is its own five bits
low_bits : (n : ℕ) → n < 32 → bit_and n 31 ≡ n
low_bits n low = and_mask n 5 ∙ omega (arith, low)

-- a number whose lowest bit is not 1
low_clear : (n : ℕ) → nat_eq (bit_and n 1) 1 ≡ false → bit_at n 0 ≡ 0
low_clear n off = not_one (bit_at n 0) (bit_at-lt n 0) (ap (λ m. nat_eq m 1) (sym one) ∙ off) where
  one : bit_and n 1 ≡ bit_at n 0
  one = let here : n ≡ n / 2 ^ 0 = omega arith in ap (λ m. bit_and m 1) here ∙ shr_and_one n 0

  not_one : (m : ℕ) → m < 2 → nat_eq m 1 ≡ false → m ≡ 0
  not_one m low test = grind (arith, nat_tests)

own_bit : (n i : ℕ) → bit_at (n / 2 ^ i) 0 ≡ 0 → bit_at n i ≡ 0
own_bit n i h = let same : i ≡ 0 + i = omega arith in ap (bit_at n) same ∙ sym (bit_shr n i 0) ∙ h

-- each line through a point, shifted down to the lowest bit, tells whether it is marked
pub passed : (lines : WindowLines) (p : Point) → p.x < 32 → p.y < 32
    → nat_eq (bit_and (bit_or (bit_or (bit_or (lines.row / 2 ^ bit_and p.y 31) (lines.column / 2 ^ bit_and p.x 31))
    (lines.down / 2 ^ (bit_and p.x 31 + (31 - bit_and p.y 31)))) (lines.up / 2 ^ (bit_and p.x 31 + bit_and p.y 31))) 1) 1 ≡ false
    → IsPassed lines p
passed lines p column row off =
    let x = low_bits p.x column in
    let y = low_bits p.y row in
    let here = rw (x, y) at off in
    let each = none_or (lines.row / 2 ^ p.y) (lines.column / 2 ^ p.x) (lines.down / 2 ^ (p.x + (31 - p.y))) (lines.up / 2 ^ (p.x + p.y)) 0
    (low_clear _ here) in
    record {
      row = own_bit lines.row p.y each.0;
      column = own_bit lines.column p.x each.1;
      down = own_bit lines.down (p.x + (31 - p.y)) each.2;
      up = own_bit lines.up (p.x + p.y) each.3;
    }

-- ---- a line without a window holds no four

module _ (b : Grid) (s : Side) (d : Axis) (p : Point) (ok : IsBoard b) (on : is_on b p ≡ true)
    (none : (rule : RuleKind) (q : Point) → line_of d q ≡ line_of d p → wins_on rule b s d q ≡ false) where
  no_place : (rule : RuleKind) (i : ℕ) (o : Option Point) → along d p i 4 ≡ o → wins_at rule b s d o ≡ false
  no_place rule i None there = refl
  no_place rule i (Some q) there = false_from_ne_true _ (λ h.
      let steps = along-places d p q i 4 (board-near b p ok on) (board-near b q ok (wins-on_board rule b s d q h)) there in
      both_ways _ (none rule q steps.line) h)

  pub no_fours_on : (rule : RuleKind) → fours_of rule b s d p ≡ 0
  no_fours_on rule = fours_of-gap rule b s d p
      ∙ no_wins (place_stone b s d p) (place_wins rule b s d p) (λ i. no_place rule i (along d p i 4) refl)
