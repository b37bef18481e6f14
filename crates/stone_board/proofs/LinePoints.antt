-- A point of the board on each line that has a number.
use Rattle.std.proofs.Common.{◌≡◌, ℕ, ◌+◌, ◌-◌, ◌≤◌, ◌<◌, nat_lt, ◌&&◌, true, inl, inr, refl, arith}
use Rattle.std.proofs.lemmas.Bool.{cases_lt}
use Rattle.std.proofs.lemmas.Bool.Decides.{nat_tests}
use Rattle.stone_board.proofs.Common.{Grid, IsBoard, Axis, Row, Column, Down, Up, MAX_SIDE, HasPointOnLine, line_of}

within : (x y w h : ℕ) → x < w → y < h → (nat_lt x w && nat_lt y h) ≡ true
within x y w h column row = grind (arith, nat_tests)

module _ (b : Grid) (n : ℕ) (ok : IsBoard b) where
  at : (d : Axis) (x y : ℕ) → x < b.width → y < b.height → line_of d (record { x = x; y = y }) ≡ n → HasPointOnLine b d n
  at d x y column row line = record { point = record { x = x; y = y }; on = within x y b.width b.height column row; line = line }

  pub on_row : n < b.height → HasPointOnLine b Row n
  on_row h = at Row 0 n (let w = ok.wide in omega (arith, w)) h refl

  pub on_column : n < b.width → HasPointOnLine b Column n
  on_column h = at Column n 0 h (let r = ok.high in omega (arith, r)) refl

  -- from the lowest row to the first, and then along the first
  pub on_down : MAX_SIDE - b.height ≤ n → n < MAX_SIDE - 1 + b.width → HasPointOnLine b Down n
  on_down low high = let w = ok.wide in let r = ok.high in elim (cases_lt n MAX_SIDE) [
    | inl few ↦ at Down 0 (MAX_SIDE - 1 - n) (omega (arith, w)) (omega (arith, low, few)) (omega (arith, few))
    | inr more ↦ at Down (n - (MAX_SIDE - 1)) 0 (omega (arith, high, more)) (omega (arith, r)) (omega (arith, more))
  ]

  -- along the first row, and then down the last column
  pub on_up : n < b.width + b.height - 1 → HasPointOnLine b Up n
  on_up high = let w = ok.wide in let r = ok.high in elim (cases_lt n b.width) [
    | inl few ↦ at Up n 0 few (omega (arith, r)) (omega arith)
    | inr more ↦ at Up (b.width - 1) (n - (b.width - 1)) (omega (arith, w)) (omega (arith, high, w, more)) (omega (arith, w, more))
  ]

-- the point of a line on each axis
pub ruleset line_points = (on_row, on_column, on_down, on_up)
