-- The halves of a code: its first digits are those of the half behind, and the others those of the half ahead.
use Rattle.std.proofs.Common.{◌≡◌, ℕ, zero, suc, ◌+◌, ◌*◌, ◌/◌, ◌%◌, ◌^◌, ◌≤◌, ◌<◌, ◌⊎◌, inl}
use Rattle.std.proofs.Common.{inr, List, ◌++◌, refl, sym, subst, arith, replicate}
use Rattle.std.proofs.Math.Nat.{pow-succ'}
use Rattle.game_rules.proofs.Common.{Grid, IsBoard, put, stone_at, towards}
use Rattle.game_rules.specs.declared.Cell.{Cell}
use Rattle.game_rules.specs.declared.Way.{Way}
use Rattle.game_rules.specs.declared.Cell.TheVariants.{Empty}
use Rattle.game_rules.specs.declared.Side.TheVariants.{Black}
use Rattle.game_rules.specs.declared.Axis.TheVariants.{Row}
use Rattle.game_rules.specs.declared.Way.TheVariants.{Ahead, Behind}
use Rattle.game_rules.proofs.Positions.{IsBoard-put}
use Rattle.row_shapes.proofs.Common.{first_digits, line_cells, line_board, middle, owns, is_free, half_cells, free_at, SeesLine}

-- ---- the digits of both halves

rem_low : (low high power : ℕ) → (low + 3 * power * high) % 3 ≡ low % 3
rem_low low high power = let more : low + 3 * power * high ≡ low + 3 * (power * high) = omega arith in rw more (omega arith)

div_low : (low high power : ℕ) → (low + 3 * power * high) / 3 ≡ low / 3 + power * high
div_low low high power = let more : low + 3 * power * high ≡ low + 3 * (power * high) = omega arith in rw more (omega arith)

third_low : (low power : ℕ) → low < 3 * power → low / 3 < power
third_low low power h = omega arith

join_digits : (n m low high : ℕ) → low < 3 ^ n → first_digits (n + m) (low + 3 ^ n * high) ≡ first_digits n low ++ first_digits m high
join_digits zero m low high h =
    let none : low ≡ 0 = omega arith in
    let all : 0 + m ≡ m = omega arith in
    let same : low + 3 ^ 0 * high ≡ high = omega arith in
    rw (all, same) refl
join_digits (suc n) m low high h =
    let power = pow-succ' 3 n in
    let more : suc n + m ≡ suc (n + m) = omega arith in
    let fits : low / 3 < 3 ^ n = third_low low (3 ^ n) (rw power at h) in
    rw (more, power, rem_low low high (3 ^ n), div_low low high (3 ^ n), join_digits n m (low / 3) high fits) refl

-- ---- the board of both halves

abbrev board_of : ℕ → List ℕ → Grid
board_of reach digits = record {
  width = 2 * reach + 1;
  height = 5;
  cells = line_cells reach digits ++ replicate (4 * (2 * reach + 1)) Empty;
}

-- the board of the code with these digits, and a stone in its middle
abbrev stone_board : ℕ → ℕ → ℕ → Grid
stone_board reach low high = put (board_of reach (first_digits reach low ++ first_digits reach high)) Black (middle reach)

-- what holds of the places 1 to 5 holds of each of them
each_near : (P : ℕ → Type 0) → P 1 → P 2 → P 3 → P 4 → P 5 → (k : ℕ) → 1 ≤ k → k ≤ 5 → P k
each_near P one two three four five zero some near = absurd (omega arith)
each_near P one two three four five (suc zero) some near = one
each_near P one two three four five (suc (suc zero)) some near = two
each_near P one two three four five (suc (suc (suc zero))) some near = three
each_near P one two three four five (suc (suc (suc (suc zero)))) some near = four
each_near P one two three four five (suc (suc (suc (suc (suc zero))))) some near = five
each_near P one two three four five (suc (suc (suc (suc (suc (suc k)))))) some near = absurd (omega arith)

-- the place so many steps from the middle holds a stone, or is empty, as the half says
abbrev SameStone : ℕ → ℕ → ℕ → Way → List Cell → ℕ → Type 0
SameStone reach low high w half k = stone_at (stone_board reach low high) Black (towards w Row (middle reach) k) ≡ owns half k

abbrev SameFree : ℕ → ℕ → ℕ → Way → List Cell → ℕ → Type 0
SameFree reach low high w half k = free_at (stone_board reach low high) (towards w Row (middle reach) k) ≡ is_free half k

module _ (low high : ℕ) where
  four_board : IsBoard (stone_board 4 low high)
  four_board = IsBoard-put (board_of 4 (first_digits 4 low ++ first_digits 4 high)) Black (middle 4)
      (record { wide = omega arith; width_fits = omega arith; high = omega arith; height_fits = omega arith; filled = refl })

  four_line : SeesLine (half_cells Ahead 4 high) (half_cells Behind 4 low) (stone_board 4 low high) (middle 4)
  four_line = record {
    board = four_board;
    stone = refl;
    forth = record {
      places = refl;
      stones = each_near (SameStone 4 low high Ahead (half_cells Ahead 4 high)) refl refl refl refl refl;
      frees = each_near (SameFree 4 low high Ahead (half_cells Ahead 4 high)) refl refl refl refl refl;
    };
    back = record {
      places = refl;
      stones = each_near (SameStone 4 low high Behind (half_cells Behind 4 low)) refl refl refl refl refl;
      frees = each_near (SameFree 4 low high Behind (half_cells Behind 4 low)) refl refl refl refl refl;
    };
  }

  five_board : IsBoard (stone_board 5 low high)
  five_board = IsBoard-put (board_of 5 (first_digits 5 low ++ first_digits 5 high)) Black (middle 5)
      (record { wide = omega arith; width_fits = omega arith; high = omega arith; height_fits = omega arith; filled = refl })

  five_line : SeesLine (half_cells Ahead 5 high) (half_cells Behind 5 low) (stone_board 5 low high) (middle 5)
  five_line = record {
    board = five_board;
    stone = refl;
    forth = record {
      places = refl;
      stones = each_near (SameStone 5 low high Ahead (half_cells Ahead 5 high)) refl refl refl refl refl;
      frees = each_near (SameFree 5 low high Ahead (half_cells Ahead 5 high)) refl refl refl refl refl;
    };
    back = record {
      places = refl;
      stones = each_near (SameStone 5 low high Behind (half_cells Behind 5 low)) refl refl refl refl refl;
      frees = each_near (SameFree 5 low high Behind (half_cells Behind 5 low)) refl refl refl refl refl;
    };
  }

code_four : (low high : ℕ) → low < 3 ^ 4 → SeesLine (half_cells Ahead 4 high) (half_cells Behind 4 low)
    (put (line_board 4 (low + 3 ^ 4 * high)) Black (middle 4)) (middle 4)
code_four low high h =
    let P : List ℕ → Type 0 = λ digits. SeesLine (half_cells Ahead 4 high) (half_cells Behind 4 low)
    (put (board_of 4 digits) Black (middle 4)) (middle 4) in
    subst P (sym (join_digits 4 4 low high h)) (four_line low high)

code_five : (low high : ℕ) → low < 3 ^ 5 → SeesLine (half_cells Ahead 5 high) (half_cells Behind 5 low)
    (put (line_board 5 (low + 3 ^ 5 * high)) Black (middle 5)) (middle 5)
code_five low high h =
    let P : List ℕ → Type 0 = λ digits. SeesLine (half_cells Ahead 5 high) (half_cells Behind 5 low)
    (put (board_of 5 digits) Black (middle 5)) (middle 5) in
    subst P (sym (join_digits 5 5 low high h)) (five_line low high)

-- the halves of a code are what stands around the stone in the middle of its board
pub code_line : (reach low high : ℕ) → (reach ≡ 4) ⊎ (reach ≡ 5) → low < 3 ^ reach
    → SeesLine (half_cells Ahead reach high) (half_cells Behind reach low)
    (put (line_board reach (low + 3 ^ reach * high)) Black (middle reach)) (middle reach)
code_line reach low high (inl e) h = rw e (code_four low high (rw e at h))
code_line reach low high (inr e) h = rw e (code_five low high (rw e at h))
