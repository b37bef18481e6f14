-- What the bits around a point tell of its neighbours.
use Rattle.std.proofs.Common.{◌≡◌, inl, inr, ℕ, ◌+◌, ◌-◌, ◌*◌, ◌/◌, ◌%◌, ◌^◌, ◌≤◌, ◌<◌, min, max, true, cond, refl, sym, ap, ◌∙◌, arith}
use Rattle.std.specs.Prelude.{Option, Some, None}
use Rattle.std.specs.Int.{bit_at}
use Rattle.std.proofs.lemmas.Bool.{cases_lt}
use Rattle.std.proofs.lemmas.Nat.{pow_pos, shl_whole}
use Rattle.std.proofs.lemmas.Nat.Bits.{bit_at_cat_high, bit_at_mask_inside, bit_at_mask_below, bit_at_mask_above}
use Rattle.game_rules.proofs.Common.{Grid, IsBoard, is_on, is_empty_cell, is_stone_of, holds, cell_at, along, towards, other}
use Rattle.game_rules.specs.declared.Cell.{Cell}
use Rattle.game_rules.specs.declared.Cell.TheVariants.{Empty, Black as BlackStone, White as WhiteStone}
use Rattle.game_rules.specs.declared.Side.{Side}
use Rattle.game_rules.specs.declared.Side.TheVariants.{Black, White}
use Rattle.game_rules.specs.declared.Axis.{Axis}
use Rattle.game_rules.specs.declared.Point.{Point}
use Rattle.game_rules.specs.declared.Way.TheVariants.{Ahead, Behind}
use Rattle.game_rules.proofs.Lines.{along-same}
use Rattle.stone_board.specs.Steps.{kept_on}
use Rattle.stone_board.specs.Walks.{steps_left}
use Rattle.stone_board.specs.Lines.{line_of, place_on, TellsLine}
use Rattle.stone_board.proofs.Looks.{kept-Some}
use Rattle.stone_board.proofs.LineBits.{board-near}
use Rattle.stone_board.proofs.LineStones.{along-places}
use Rattle.stone_board.proofs.Ones.{bit_shr}
use Rattle.stone_board.proofs.Strides.{step_on, on_left}
use Rattle.row_shapes.specs.LineCodes.{digit_at}
use Rattle.row_shapes.proofs.CodeDigits.{digit_none, digit_some}

-- ---- bits that are moved

pub moved_bit : (bits place r i : ℕ) → bits < 2 ^ 32 → r ≤ 5 → r ≤ i + place
    → bit_at (bits * 2 ^ r % 2 ^ 64 / 2 ^ place) i ≡ bit_at bits (i + place - r)
moved_bit bits place r i fits near high =
    let whole : bits * 2 ^ r % 2 ^ 64 ≡ bits * 2 ^ r + 0 = shl_whole bits 32 r 64 fits (omega arith) ∙ omega arith in
    bit_shr (bits * 2 ^ r % 2 ^ 64) place i ∙ ap (λ n. bit_at n (i + place)) whole ∙ bit_at_cat_high bits r 0 (i + place) (pow_pos r) high

-- ---- a place by the stones of both sides

stone_digit : (s : Side) (c : Cell) → cond (is_stone_of s c) 1 0 + 2 * cond (is_stone_of (other s) c) 1 0
    ≡ cond (is_empty_cell c) 0 (cond (is_stone_of s c) 1 2)
stone_digit Black Empty = refl
stone_digit Black BlackStone = refl
stone_digit Black WhiteStone = refl
stone_digit White Empty = refl
stone_digit White BlackStone = refl
stone_digit White WhiteStone = refl

point_digit : (b : Grid) (s : Side) (q : Point) → is_on b q ≡ true
    → cond (holds b s q) 1 0 + 2 * cond (holds b (other s) q) 1 0 ≡ digit_at b s (Some q)
unfolding digit_at
point_digit b s q on = rw on (stone_digit s (cell_at b q))

-- ---- the places around a point

module _ (b : Grid) (s : Side) (d : Axis) (p : Point) (ok : IsBoard b) (on : is_on b p ≡ true) (r : ℕ) where
  -- the bits of those that are on the board
  abbrev pub kept : ℕ
  kept = 2 ^ (r + 1 + steps_left Ahead d b.width b.height p) - 2 ^ (r - steps_left Behind d b.width b.height p)

  ahead_to : (i : ℕ) → r ≤ i → along d p i r ≡ towards Ahead d p (i - r)
  ahead_to i h = along-same d p i r (i - r) 0 (omega arith)

  behind_to : (i : ℕ) → i ≤ r → along d p i r ≡ towards Behind d p (r - i)
  behind_to i h = along-same d p i r 0 (r - i) (omega arith)

  module _ (i : ℕ) (q : Point) (there : along d p i r ≡ Some q) (here : is_on b q ≡ true) where
    first : r - steps_left Behind d b.width b.height p ≤ i
    first = elim (cases_lt i r) [
      | inl less ↦ let left = on_left b p q (r - i) on here Behind d (sym (behind_to i (omega arith)) ∙ there) in omega (arith, left, less)
      | inr more ↦ omega (arith, more)
    ]

    last : i < r + 1 + steps_left Ahead d b.width b.height p
    last = elim (cases_lt i r) [
      | inl less ↦ omega (arith, less)
      | inr more ↦ let left = on_left b p q (i - r) on here Ahead d (sym (ahead_to i (omega arith)) ∙ there) in omega (arith, left, more)
    ]

    kept_bit : bit_at kept i ≡ 1
    kept_bit = bit_at_mask_inside (r - steps_left Behind d b.width b.height p) (r + 1 + steps_left Ahead d b.width b.height p) i first last

  on_there : (o : Option Point) (q : Point) → o ≡ Some q → is_on b q ≡ true → kept_on b o ≡ None → ⊥
  on_there o q e h none =
      let some : kept_on b o ≡ Some q = ap (kept_on b) e ∙ ap (λ t. cond t (Some q) None) h in
      let differ : ◌≡◌ {A = Option Point} None (Some q) = sym none ∙ some in
      cc

  off_bit : (i : ℕ) → kept_on b (along d p i r) ≡ None → bit_at kept i ≡ 0
  off_bit i none = elim (cases_lt i (r - steps_left Behind d b.width b.height p)) [
    | inl less ↦ bit_at_mask_below (r - steps_left Behind d b.width b.height p) (r + 1 + steps_left Ahead d b.width b.height p) i less
    | inr more ↦ elim (cases_lt i (r + 1 + steps_left Ahead d b.width b.height p)) [
      | inr past ↦ bit_at_mask_above (r - steps_left Behind d b.width b.height p) (r + 1 + steps_left Ahead d b.width b.height p) i past
      | inl inside ↦ elim (cases_lt i r) [
        | inl before ↦ let step = step_on b p on Behind d (r - i) (omega (arith, more, before)) in
            absurd (on_there _ step.0 (behind_to i (omega arith) ∙ step.1) step.2 none)
        | inr after ↦ let step = step_on b p on Ahead d (i - r) (omega (arith, inside, after)) in
            absurd (on_there _ step.0 (ahead_to i (omega arith) ∙ step.1) step.2 none)
      ]
    ]
  ]

  module _ (own others : ℕ) (mine : TellsLine b s d (line_of d p) own) (theirs : TellsLine b (other s) d (line_of d p) others)
      (i place x y : ℕ) (place_is : place ≡ place_on d p) (x_is : r ≤ i + place → x ≡ bit_at own (i + place - r))
      (y_is : r ≤ i + place → y ≡ bit_at others (i + place - r)) (x_low : x < 2) (y_low : y < 2) where
    pub digit_is : min x (bit_at kept i) + 2 * max y (1 - bit_at kept i) ≡ digit_at b s (along d p i r)
    digit_is = by_place (kept_on b (along d p i r)) refl where
      by_place : (o : Option Point) → kept_on b (along d p i r) ≡ o
          → min x (bit_at kept i) + 2 * max y (1 - bit_at kept i) ≡ digit_at b s (along d p i r)
      by_place None none =
          let clear = off_bit i none in
          let taken = digit_none b s (along d p i r) none in
          rw (clear, taken) (omega arith)
      by_place (Some q) some =
          let there = kept-Some b (along d p i r) q some in
          let steps = along-places d p q i r (board-near b p ok on) (board-near b q ok there.1) there.0 in
          let far = steps.place in
          let same : i + place - r ≡ place_on d q = omega (arith, far, place_is) in
          let within : r ≤ i + place = omega (arith, far, place_is) in
          let set = kept_bit i q there.0 there.1 in
          let a = x_is within ∙ ap (bit_at own) same ∙ mine.stones q there.1 steps.line in
          let c = y_is within ∙ ap (bit_at others) same ∙ theirs.stones q there.1 steps.line in
          let told = digit_some b s (along d p i r) q some in
          let digit = point_digit b s q there.1 in
          rw (set, told, ← digit, ← a, ← c) (omega arith)
