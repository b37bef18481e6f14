-- How many stones stand next to a point, by the bits of its line.
use Rattle.std.proofs.Common.{◌≡◌, inl, inr, ℕ, ◌+◌, ◌≤◌, ◌<◌, min, Bool, true, false, cond, refl, sym, ap, subst, ◌∙◌, arith, Some}
use Rattle.std.specs.Int.{bit_at}
use Rattle.std.proofs.lemmas.Bool.{cases_lt}
use Rattle.stone_board.proofs.Common.{Grid, IsBoard, is_on, stone_at, towards, Side, Axis, Point, Way, Ahead, Behind, line_of, place_on}
use Rattle.stone_board.proofs.Common.{place_towards, places_left, TellsLine, steps_left}
use Rattle.game_rules.proofs.Common.{stones_towards}
use Rattle.game_rules.proofs.Runs.{Leads, ahead_is, behind_is}
use Rattle.stone_board.proofs.LineBits.{board-near}
use Rattle.stone_board.proofs.LineStones.{along-places, place_low}
use Rattle.stone_board.proofs.Strides.{step_on, past_none}

-- a point of the line so many places on, in that way
record IsStep (d : Axis) (w : Way) (p q : Point) (k : ℕ) : Type 0 where
  line : line_of d q ≡ line_of d p
  place : place_on d q ≡ place_towards w (place_on d p) k
  near : k ≤ places_left w (place_on d p)

is_set : (n : ℕ) (r : Bool) → n ≡ cond r 1 0 → n ≡ 1 → r ≡ true
is_set n true e h = refl
is_set n false e h = absurd (omega (arith, e, h))

is_clear : (n : ℕ) (r : Bool) → n ≡ cond r 1 0 → n ≡ 0 → r ≡ false
is_clear n true e h = absurd (omega (arith, e, h))
is_clear n false e h = refl

module _ (b : Grid) (s : Side) (d : Axis) (p : Point) (bits : ℕ) (ok : IsBoard b) (on : is_on b p ≡ true)
    (tells : TellsLine b s d (line_of d p) bits) where
  abbrev left : Way → ℕ
  left w = steps_left w d b.width b.height p

  step : (w : Way) (k : ℕ) → (q : Point) → towards w d p k ≡ Some q → is_on b q ≡ true → IsStep d w p q k
  step Ahead k q there here =
      let near = board-near b p ok on in
      let close = board-near b q ok here in
      let steps = along-places d p q k 0 near close there in
      let place = steps.place in
      let low = place_low d q close in
      record { line = steps.line; place = omega (arith, place); near = omega (arith, place, low) }
  step Behind k q there here =
      let near = board-near b p ok on in
      let close = board-near b q ok here in
      let steps = along-places d p q 0 k near close there in
      let place = steps.place in
      record { line = steps.line; place = omega (arith, place); near = omega (arith, place) }

  step_of : (w : Way) (k : ℕ) → k ≤ left w → (q : Point) × (towards w d p k ≡ Some q) × (is_on b q ≡ true) × IsStep d w p q k
  step_of w k h = let there = step_on b p on w d k h in (there.0, there.1, there.2, step w k there.0 there.1 there.2)

  -- the bit of a place tells whether a stone stands there
  step_bit : (w : Way) (k : ℕ) → k ≤ left w → bit_at bits (place_towards w (place_on d p) k) ≡ cond (stone_at b s (towards w d p k)) 1 0
  step_bit w k h =
      let found = step_of w k h in
      ap (bit_at bits) (sym found.3.place) ∙ tells.stones found.0 found.2 found.3.line ∙ sym (ap (λ o. cond (stone_at b s o) 1 0) found.1)

  module _ (w : Way) (far i : ℕ) (here : i ≡ place_on d p)
      (set : (k : ℕ) → 1 ≤ k → k ≤ far → k ≤ places_left w i → bit_at bits (place_towards w i k) ≡ 1)
      (clear : far < places_left w i → bit_at bits (place_towards w i (1 + far)) ≡ 0) where
    bit_here : (k : ℕ) → k ≤ left w → bit_at bits (place_towards w i k) ≡ cond (stone_at b s (towards w d p k)) 1 0
    bit_here k h = ap (λ n. bit_at bits (place_towards w n k)) here ∙ step_bit w k h

    near_here : (k : ℕ) → k ≤ left w → k ≤ places_left w i
    near_here k h = subst (λ n. k ≤ places_left w n) (sym here) (step_of w k h).3.near

    stones : (k : ℕ) → 1 ≤ k → k ≤ min far (left w) → stone_at b s (towards w d p k) ≡ true
    stones k low high =
        let within : k ≤ left w = omega (arith, high) in
        is_set _ _ (bit_here k within) (set k low (omega (arith, high)) (near_here k within))

    no_stone : far < left w → stone_at b s (towards w d p (1 + far)) ≡ false
    no_stone short =
        let within : 1 + far ≤ left w = omega (arith, short) in
        let near = near_here (1 + far) within in
        is_clear _ _ (bit_here (1 + far) within) (clear (omega (arith, near)))

    stops : stone_at b s (towards w d p (1 + min far (left w))) ≡ false
    stops = elim (cases_lt far (left w)) [
      | inl short ↦ let all : min far (left w) ≡ far = omega (arith, short) in
          ap (λ k. stone_at b s (towards w d p (1 + k))) all ∙ no_stone short
      | inr long ↦ let all : min far (left w) ≡ left w = omega (arith, long) in
          ap (λ k. stone_at b s (towards w d p (1 + k))) all ∙ past_none b p on s w d
    ]

    by_way : (v : Way) (m : ℕ) → Leads (λ k. stone_at b s (towards v d p k)) m → stones_towards v b s d p ≡ m
    by_way Ahead m h = ahead_is b s d p on m h
    by_way Behind m h = behind_is b s d p on m h

    -- as many stones as places are set, up to the border
    pub stones_by_bits : stones_towards w b s d p ≡ min far (left w)
    stones_by_bits = by_way w (min far (left w)) (record { holds = stones; stops = stops })
