-- What the bits of a line tell of the points along it: a step ahead on the axis is one place more.
use Rattle.std.proofs.Common.{◌≡◌, inl, inr, ℕ, ◌+◌, ◌-◌, ◌≤◌, ◌<◌, ◌^◌, max, true, cond, refl, sym, ap, subst, ◌∙◌, arith}
use Rattle.std.specs.Prelude.{Option, Some, None, bit_or}
use Rattle.std.specs.Int.{bit_at}
use Rattle.std.proofs.lemmas.Nat.Bits.{bit_at_or, bit_at-pow_same, bit_at-pow_other, bit_at-lt}
use Rattle.stone_board.proofs.Common.{Grid, IsBoard, is_on, is_empty, stone_at, holds, put, Side, Axis, Row, Column, Down, Up, Point}
use Rattle.stone_board.proofs.Common.{line_of, place_on, TellsLine}
use Rattle.game_rules.proofs.Common.{along, stones_ahead, stones_behind, other}
use Rattle.game_rules.proofs.Boards.{Apart, and_left, same_or_apart, not-apart, empty_holds, holds-put_same, holds-put_other, is_empty-on}
use Rattle.game_rules.proofs.Boards.{stone_of-other}
use Rattle.std.proofs.lemmas.Bool.{cases_lt}
use Rattle.game_rules.proofs.Lines.{OnLine, along-OnLine}
use Rattle.game_rules.proofs.Positions.{holds-other}
use Rattle.game_rules.proofs.Runs.{ahead_leads, behind_leads}
use Rattle.stone_board.proofs.LineBits.{IsNear, board-near, same_place}

-- a point so many steps along the axis is on the same line, so many places on
pub record Along (d : Axis) (p q : Point) (ahead back : ℕ) : Type 0 where
  pub line : line_of d q ≡ line_of d p
  pub place : place_on d q + back ≡ place_on d p + ahead

pub along-places : (d : Axis) (p q : Point) (ahead back : ℕ) → IsNear p → IsNear q → along d p ahead back ≡ Some q → Along d p q ahead back
along-places d p q ahead back near close there = by_axis d (along-OnLine d p ahead back q there) where
  by_axis : (d : Axis) → OnLine d p ahead back q → Along d p q ahead back
  by_axis Row h = let x = h.0 in let y = h.1 in record { line = omega (arith, y); place = omega (arith, x) }
  by_axis Column h = let x = h.0 in let y = h.1 in record { line = omega (arith, x); place = omega (arith, y) }
  by_axis Down h = let x = h.0 in let y = h.1 in record { line = omega (arith, x, y); place = omega (arith, x) }
  by_axis Up h = let x = h.0 in let y = h.1 in record { line = omega (arith, x, y); place = omega (arith, x) }

pub place_low : (d : Axis) (p : Point) → IsNear p → place_on d p < 32
place_low Row p near = omega arith
place_low Column p near = omega arith
place_low Down p near = omega arith
place_low Up p near = omega arith

-- ---- a line's bits

module _ (b : Grid) (s : Side) (d : Axis) (n bits : ℕ) (ok : IsBoard b) (tells : TellsLine b s d n bits) where
  -- a stone is a bit that is set, an empty point one that is not
  pub stone_bit : (q : Point) → line_of d q ≡ n → holds b s q ≡ true → bit_at bits (place_on d q) ≡ 1
  stone_bit q line mine = tells.stones q (and_left (is_on b q) _ mine) line ∙ ap (λ r. cond r 1 0) mine

  pub empty_bit : (q : Point) → line_of d q ≡ n → is_empty b q ≡ true → bit_at bits (place_on d q) ≡ 0
  empty_bit q line empty = tells.stones q (is_empty-on b q empty) line ∙ ap (λ r. cond r 1 0) (empty_holds b s q empty)

  module _ (q : Point) (on : is_on b q ≡ true) (line : line_of d q ≡ n) where
    -- a stone so many steps along is the bit so many places on
    stone_along : (ahead back : ℕ) (o : Option Point) → along d q ahead back ≡ o → stone_at b s o ≡ true
        → (r : Point) × (place_on d r + back ≡ place_on d q + ahead) × (bit_at bits (place_on d r) ≡ 1) × (place_on d r < 32)
    stone_along ahead back None there mine = cc
    stone_along ahead back (Some r) there mine =
        let near = board-near b q ok on in
        let close = board-near b r ok (and_left (is_on b r) _ mine) in
        let steps = along-places d q r ahead back near close there in
        (r, steps.place, stone_bit r (steps.line ∙ line) mine, place_low d r close)

    pub ahead_bit : (k : ℕ) → 1 ≤ k → k ≤ stones_ahead b s d q → bit_at bits (place_on d q + k) ≡ 1
    ahead_bit k low high =
        let stone = stone_along k 0 (along d q k 0) refl ((ahead_leads b s d q on).holds k low high) in
        let place : place_on d q + k ≡ place_on d stone.0 = let h = stone.1 in omega (arith, h) in
        ap (bit_at bits) place ∙ stone.2

    pub behind_low : (k : ℕ) → k ≤ stones_behind b s d q → k ≤ place_on d q
    behind_low k high = elim (cases_lt 0 k) [
      | inl low ↦ let stone = stone_along 0 k (along d q 0 k) refl ((behind_leads b s d q on).holds k low high) in
          let h = stone.1 in omega (arith, h)
      | inr none ↦ omega (arith, none)
    ]

    pub behind_bit : (k : ℕ) → 1 ≤ k → k ≤ stones_behind b s d q → bit_at bits (place_on d q - k) ≡ 1
    behind_bit k low high =
        let stone = stone_along 0 k (along d q 0 k) refl ((behind_leads b s d q on).holds k low high) in
        let place : place_on d q - k ≡ place_on d stone.0 = let h = stone.1 in omega (arith, h) in
        ap (bit_at bits) place ∙ stone.2

-- a stone more sets its bit on the line
module _ (b : Grid) (s : Side) (d : Axis) (p : Point) (bits : ℕ) (ok : IsBoard b) (empty : is_empty b p ≡ true) where
  here : is_on b p ≡ true
  here = is_empty-on b p empty

  pub TellsLine-put : TellsLine b s d (line_of d p) bits → TellsLine (put b s p) s d (line_of d p) (bit_or bits (2 ^ place_on d p))
  TellsLine-put tells = record { stones = λ q on line. told q on line } where
    told : (q : Point) → is_on b q ≡ true → line_of d q ≡ line_of d p → bit_at (bit_or bits (2 ^ place_on d p)) (place_on d q) ≡ cond
        (holds (put b s p) s q) 1 0
    told q on line = elim (same_or_apart p q) [
      | inl same ↦ subst (λ (r : Point). bit_at (bit_or bits (2 ^ place_on d p)) (place_on d r) ≡ cond (holds (put b s p) s r) 1 0) same
          (let low = bit_at-lt bits (place_on d p) in
          bit_at_or bits (2 ^ place_on d p) (place_on d p) ∙ ap (λ n. max (bit_at bits (place_on d p)) n) (bit_at-pow_same (place_on d p))
          ∙ omega (arith, low) ∙ sym (ap (λ r. cond r 1 0) (holds-put_same b s p ok here)))
      | inr apart ↦ bit_at_or bits (2 ^ place_on d p) (place_on d q)
          ∙ ap (λ n. max (bit_at bits (place_on d q)) n) (bit_at-pow_other (place_on d p) (place_on d q) (λ place. not-apart q
          (subst (λ (r : Point). Apart r q) (sym (same_place d q p (board-near b q ok on) (board-near b p ok here) line place)) apart)))
          ∙ omega arith ∙ tells.stones q on line ∙ sym (ap (λ r. cond r 1 0) (holds-put_other b s s p q here apart))
    ]

  -- and leaves that of the other side
  pub TellsLine-other : {n : ℕ} → TellsLine b (other s) d n bits → TellsLine (put b s p) (other s) d n bits
  TellsLine-other tells = record {
    stones = λ q on line. tells.stones q on line ∙ sym (ap (λ r. cond r 1 0) (holds-other b s (other s) p ok empty (stone_of-other s) q));
  }
