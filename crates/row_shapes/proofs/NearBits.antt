-- Where the two places next to a point in each way are clear, no stone is within its reach.
use Rattle.std.proofs.Common.{◌≡◌, inl, inr, ℕ, ◌+◌, ◌-◌, ◌*◌, ◌/◌, ◌%◌, ◌^◌, ◌≤◌, ◌<◌, Bool, true, false, refl, sym, ap, ◌∙◌, arith}
use Rattle.std.specs.Prelude.{Option, Some, None, bit_and}
use Rattle.std.specs.Int.{bit_at}
use Rattle.std.proofs.lemmas.Bool.{cases_lt}
use Rattle.std.proofs.lemmas.Nat.{pow_pos}
use Rattle.std.proofs.lemmas.Nat.Bits.{bit_at_and, bit_at-lt, bit_at-zero, bit_at_cat_high}
use Rattle.game_rules.proofs.Common.{Grid, IsBoard, is_on, is_empty, stones_ahead, stones_behind, towards}
use Rattle.game_rules.specs.declared.Side.{Side}
use Rattle.game_rules.specs.declared.Axis.{Axis}
use Rattle.game_rules.specs.declared.Point.{Point}
use Rattle.game_rules.specs.declared.Way.TheVariants.{Ahead, Behind}
use Rattle.game_rules.proofs.Boards.{is_empty-on}
use Rattle.stone_board.specs.Lines.{line_of, place_on, TellsLine}
use Rattle.stone_board.proofs.LineBits.{board-near}
use Rattle.stone_board.proofs.LineStones.{along-places, ahead_bit, behind_low, behind_bit}
use Rattle.stone_board.proofs.Ones.{bit_shr}
use Rattle.row_shapes.specs.Reach.{stones_past, stones_in_reach}

-- ---- the bits next to a place

-- the code's number, in 64 bits
abbrev pub moved : ℕ → ℕ → ℕ
moved bits place = bits * 4 % 18446744073709551616 / 2 ^ place

module _ (bits place : ℕ) (fits : bits < 2 ^ 32) where
  moved_bit : (k m : ℕ) → m + 2 ≡ k + place → bit_at (moved bits place) k ≡ bit_at bits m
  moved_bit k m same =
      let whole : bits * 4 % 18446744073709551616 ≡ bits * 2 ^ 2 + 0 = omega (arith, fits) in
      let high : 2 ≤ k + place = omega (arith, same) in
      let there : k + place - 2 ≡ m = omega (arith, same) in
      bit_shr (bits * 4 % 18446744073709551616) place k ∙ ap (λ n. bit_at n (k + place)) whole
      ∙ bit_at_cat_high bits 2 0 (k + place) (pow_pos 2) high ∙ ap (bit_at bits) there

  module _ (none : bit_and (moved bits place) 27 ≡ 0) where
    clear : (k m : ℕ) → bit_at 27 k ≡ 1 → m + 2 ≡ k + place → bit_at bits m ≡ 0
    clear k m one same =
        let low = bit_at-lt (moved bits place) k in
        let both = bit_at_and (moved bits place) 27 k in
        let zero : bit_at (bit_and (moved bits place) 27) k ≡ 0 = ap (λ n. bit_at n k) none ∙ bit_at-zero k in
        sym (moved_bit k m same) ∙ omega (arith, low, both, zero, one)

    pub first_ahead : bit_at bits (place + 1) ≡ 0
    first_ahead = clear 3 (place + 1) refl (omega arith)

    pub second_ahead : bit_at bits (place + 1 + 1) ≡ 0
    second_ahead = clear 4 (place + 1 + 1) refl (omega arith)

    pub first_behind : 1 ≤ place → bit_at bits (place - 1) ≡ 0
    first_behind low = clear 1 (place - 1) refl (omega (arith, low))

    pub second_behind : 2 ≤ place → bit_at bits (place - 1 - 1) ≡ 0
    second_behind low = clear 0 (place - 1 - 1) refl (omega (arith, low))

-- ---- the stones that they tell

module _ (b : Grid) (s : Side) (d : Axis) (n bits : ℕ) (ok : IsBoard b) (tells : TellsLine b s d n bits) where
  module _ (q : Point) (on : is_on b q ≡ true) (line : line_of d q ≡ n) where
    ahead_none : bit_at bits (place_on d q + 1) ≡ 0 → stones_ahead b s d q ≡ 0
    ahead_none clear = elim (cases_lt 0 (stones_ahead b s d q)) [
      | inl some ↦ absurd (let bit = ahead_bit b s d n bits ok tells q on line 1 (omega arith) (omega (arith, some)) in
          omega (arith, bit, clear))
      | inr none ↦ omega (arith, none)
    ]

    behind_none : (1 ≤ place_on d q → bit_at bits (place_on d q - 1) ≡ 0) → stones_behind b s d q ≡ 0
    behind_none clear = elim (cases_lt 0 (stones_behind b s d q)) [
      | inl some ↦ absurd (
          let low = behind_low b s d n bits ok tells q on line 1 (omega (arith, some)) in
          let zero = clear low in
          let bit = behind_bit b s d n bits ok tells q on line 1 (omega arith) (omega (arith, some)) in omega (arith, bit, zero))
      | inr none ↦ omega (arith, none)
    ]

  module _ (p : Point) (on : is_on b p ≡ true) (line : line_of d p ≡ n) where
    past_ahead : bit_at bits (place_on d p + 1 + 1) ≡ 0 → (o : Option Point) → towards Ahead d p 1 ≡ o → stones_past Ahead b s d o ≡ 0
    past_ahead clear None there = refl
    past_ahead clear (Some q) there = by_test (is_empty b q) refl where
      by_test : (r : Bool) → is_empty b q ≡ r → stones_past Ahead b s d (Some q) ≡ 0
      by_test false h = rw h refl
      by_test true h =
          let here = is_empty-on b q h in
          let steps = along-places d p q 1 0 (board-near b p ok on) (board-near b q ok here) there in
          let same : place_on d q + 1 ≡ place_on d p + 1 + 1 = let place = steps.place in omega (arith, place) in
          rw h (ahead_none q here (steps.line ∙ line) (ap (bit_at bits) same ∙ clear))

    past_behind : (2 ≤ place_on d p → bit_at bits (place_on d p - 1 - 1) ≡ 0) → (o : Option Point) → towards Behind d p 1 ≡ o
        → stones_past Behind b s d o ≡ 0
    past_behind clear None there = refl
    past_behind clear (Some q) there = by_test (is_empty b q) refl where
      by_test : (r : Bool) → is_empty b q ≡ r → stones_past Behind b s d (Some q) ≡ 0
      by_test false h = rw h refl
      by_test true h =
          let here = is_empty-on b q h in
          let steps = along-places d p q 0 1 (board-near b p ok on) (board-near b q ok here) there in
          let place = steps.place in
          let same : place_on d q - 1 ≡ place_on d p - 1 - 1 = omega (arith, place) in
          rw h (behind_none q here (steps.line ∙ line) (λ low. ap (bit_at bits) same ∙ clear (omega (arith, place, low))))

    pub none_in_reach : bits < 2 ^ 32 → bit_and (moved bits (place_on d p)) 27 ≡ 0 → stones_in_reach b s d p ≡ 0
    none_in_reach fits none =
        let i : ℕ = place_on d p in
        let ahead = ahead_none p on line (first_ahead bits i fits none) in
        let behind = behind_none p on line (first_behind bits i fits none) in
        let past = past_ahead (second_ahead bits i fits none) (towards Ahead d p 1) refl in
        let before = past_behind (second_behind bits i fits none) (towards Behind d p 1) refl in
        rw (ahead, behind, past, before) refl
