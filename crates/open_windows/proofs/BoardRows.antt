-- The rows of a board as bits.
use Rattle.std.proofs.Common.{rules, ◌≡◌, ◌⊎◌, inl, inr, ℕ, ◌+◌, ◌-◌, ◌/◌, ◌^◌, ◌≤◌, ◌<◌, min, Bool, true, false, ◌&&◌, not, nat_lt, List}
use Rattle.std.proofs.Common.{refl, sym, ap, ◌∙◌, arith, Some, bit_and}
use Rattle.std.specs.Int.{bit_at, bit_not, w32}
use Rattle.std.proofs.lemmas.Bool.{cases_lt}
use Rattle.std.proofs.lemmas.Bool.Decides.{nat_tests}
use Rattle.std.proofs.lemmas.Nat.Bits.{bit_at_and, bit_at_not, bit_at-lt, bit_at_ones, bit_at_ones_above, ones_shr}
use Rattle.game_rules.proofs.Common.{Grid, IsBoard, is_on, holds, stone_at, other}
use Rattle.game_rules.specs.declared.Side.{Side}
use Rattle.game_rules.specs.declared.Axis.TheVariants.{Row}
use Rattle.stone_board.specs.Lines.{TellsLine}
use Rattle.open_windows.specs.OpenWindows.{is_open_at}
use Rattle.open_windows.specs.Rows.{TellsRows, TellsTo, point_at}
use Rattle.open_windows.proofs.RowBits.{one, at_row, tells-all}

pub full-is : (width : ℕ) → width ≤ 32 → 4294967295 / 2 ^ (32 - width) ≡ 2 ^ width - 1
full-is width fits =
    let same : 32 - (32 - width) ≡ width = omega (arith, fits) in
    ones_shr 32 (32 - width) (omega arith) ∙ ap (λ k. 2 ^ k - 1) same

module _ (b : Grid) (ok : IsBoard b) where
  abbrev full : ℕ
  full = 2 ^ b.width - 1

  inside : (x : ℕ) → x < b.width → bit_at full x ≡ 1
  inside x low = bit_at_ones b.width x low

  beyond : (x : ℕ) → b.width ≤ x → bit_at full x ≡ 0
  beyond x high = bit_at_ones_above b.width x high

  both_tests : (r t : Bool) → r ≡ true → t ≡ true → (r && t) ≡ true
  both_tests r t h k = search rules

  first_fails : (r t : Bool) → r ≡ false → (r && t) ≡ false
  first_fails r t h = search rules

  second_fails : (r t : Bool) → t ≡ false → (r && t) ≡ false
  second_fails r t h = search rules

  here : (x y : ℕ) → x < b.width → y < b.height → is_on b (record { x = x; y = y }) ≡ true
  here x y column row = both_tests (nat_lt x b.width) (nat_lt y b.height) (grind (arith, nat_tests)) (grind (arith, nat_tests))

  right_of : (x y : ℕ) → b.width ≤ x → is_on b (record { x = x; y = y }) ≡ false
  right_of x y past = first_fails (nat_lt x b.width) (nat_lt y b.height) (grind (arith, nat_tests))

  pub below : (i x : ℕ) → b.height + 4 ≤ i → is_on b (record { x = x; y = i - 4 }) ≡ false
  below i x past = second_fails (nat_lt x b.width) (nat_lt (i - 4) b.height) (grind (arith, nat_tests))

  module _ (y : ℕ) (low : y < b.height) (bits : ℕ) where
    at : (x : ℕ) → point_at (y + 4) x ≡ Some (record { x = x; y = y })
    at x = at_row (y + 4) x (omega arith) ∙ ap (λ n. Some (record { x = x; y = n })) (omega arith)

    pub own-bit : (s : Side) → TellsLine b s Row y bits → (x : ℕ) → bit_at (bit_and bits full) x ≡ one (stone_at b s (point_at (y + 4) x))
    own-bit s tells x = bit_at_and bits full x ∙ by_column (cases_lt x b.width) ∙ sym (ap (λ o. one (stone_at b s o)) (at x)) where
      by_column : (x < b.width) ⊎ (b.width ≤ x) → min (bit_at bits x) (bit_at full x) ≡ one (holds b s (record { x = x; y = y }))
      by_column (inl column) = let e = inside x column in let m = bit_at-lt bits x in
          omega (arith, e, m) ∙ tells.stones (record { x = x; y = y }) (here x y column low) refl
      by_column (inr past) = let e = beyond x past in omega (arith, e) ∙ sym (ap one (first_fails _ _ (right_of x y past)))

    pub open-bit : (s : Side) → bits < 2 ^ 32 → TellsLine b (other s) Row y bits
        → (x : ℕ) → bit_at (bit_and (bit_not w32 bits) full) x ≡ one (is_open_at b s (point_at (y + 4) x))
    open-bit s fits tells x = bit_at_and (bit_not w32 bits) full x ∙ by_column (cases_lt x b.width)
        ∙ sym (ap (λ o. one (is_open_at b s o)) (at x)) where
          turned : (r h : Bool) (m : ℕ) → r ≡ true → m ≡ one h → 1 - m ≡ one (r && not h)
          turned r h m on e = search rules

          by_column : (x < b.width) ⊎ (b.width ≤ x) → min (bit_at (bit_not w32 bits) x) (bit_at full x)
              ≡ one (is_open_at b s (Some (record { x = x; y = y })))
          by_column (inl column) = let e = inside x column in let wide = ok.width_fits in
              let n = bit_at_not w32 bits x fits (omega (arith, column, wide)) in let m = bit_at-lt bits x in
              omega (arith, e, n, m) ∙ turned _ (holds b (other s) (record { x = x; y = y })) (bit_at bits x) (here x y column low)
              (tells.stones (record { x = x; y = y }) (here x y column low) refl)
          by_column (inr past) = let e = beyond x past in omega (arith, e) ∙ sym (ap one (first_fails _ _ (right_of x y past)))

  -- all rows
  pub own-rows : (s : Side) (rows : List ℕ) → TellsTo (stone_at b s) rows (b.height + 4) → TellsRows (stone_at b s) rows
  own-rows s rows h = tells-all (stone_at b s) refl rows (b.height + 4) h (λ i x past.
      ap (stone_at b s) (at_row i x (omega (arith, past))) ∙ first_fails _ _ (below i x past))

  pub open-rows : (s : Side) (rows : List ℕ) → TellsTo (is_open_at b s) rows (b.height + 4) → TellsRows (is_open_at b s) rows
  open-rows s rows h = tells-all (is_open_at b s) refl rows (b.height + 4) h (λ i x past.
      ap (is_open_at b s) (at_row i x (omega (arith, past))) ∙ first_fails _ _ (below i x past))
