-- A line seen as two halves, one in each way from a stone of Black: a second way to say what the stone makes on its line, from
-- which the code reads. A half is the list of what stands on its places, the nearest first. Past the last of them counts
-- as taken by White.
use Rattle.std.specs.Prelude.{◌≡◌, ℕ, ◌+◌, ◌-◌, ◌≤◌, Bool, false, true, ◌&&◌, ◌||◌, not, nat_le, nat_lt, ◌==◌, if◌then◌else◌, List, [], ◌∷◌}
use Rattle.std.specs.Prelude.{◌++◌, map, length, drop, replicate, reverse, slice_index_or, Option, Some, None}
use Rattle.std.specs.List.{count_by, prefix_len, range_with_len}
use Rattle.std.specs.Int.{bit_at}
use Rattle.game_rules.specs.Grid.{Grid, IsBoard, is_empty, is_empty_cell, is_stone_of, holds}
use Rattle.game_rules.specs.Shapes.{stone_at}
use Rattle.game_rules.specs.Ways.{towards}
use Rattle.game_rules.specs.declared.Cell.{Cell}
use Rattle.game_rules.specs.declared.Cell.TheVariants.{Empty, Black as BlackStone, White as WhiteStone}
use Rattle.game_rules.specs.declared.RuleKind.{RuleKind}
use Rattle.game_rules.specs.declared.RuleKind.TheVariants.{Freestyle, Exact}
use Rattle.game_rules.specs.declared.Side.TheVariants.{Black}
use Rattle.game_rules.specs.declared.Axis.TheVariants.{Row}
use Rattle.game_rules.specs.declared.Point.{Point}
use Rattle.game_rules.specs.declared.Way.{Way}
use Rattle.game_rules.specs.declared.Way.TheVariants.{Ahead, Behind}
use Rattle.row_shapes.specs.Gaps.{listed, are_stones}
use Rattle.row_shapes.specs.LineCodes.{first_digits}
use Rattle.row_shapes.specs.LineShapes.{cell_of_digit}
use Rattle.row_shapes.specs.Threes.{place_towards}

-- what stands on a place, by two bits: a stone of Black where the first is set, nothing where the second is, and else a stone of White
abbrev pub cell_of_bits : ℕ → ℕ → Cell
cell_of_bits own free = if own == 1 then BlackStone else if free == 1 then Empty else WhiteStone

-- the cells that the five lowest bits of two numbers tell, the nearest first
unfoldable pub cells_of : ℕ → ℕ → List Cell
cells_of own free = map (λ k. cell_of_bits (bit_at own k) (bit_at free k)) (range_with_len 0 5)

-- what stands so many steps from the stone
abbrev pub cell_off : List Cell → ℕ → Cell
cell_off cells k = slice_index_or cells (k - 1) WhiteStone

-- whether a stone of Black stands so many steps from the stone
abbrev pub owns : List Cell → ℕ → Bool
owns cells k = is_stone_of Black (cell_off cells k)

-- whether the place so many steps from the stone is empty
abbrev pub is_free : List Cell → ℕ → Bool
is_free cells k = is_empty_cell (cell_off cells k)

-- how many stones of Black stand in an unbroken row past the place so many steps from the stone
abbrev pub row_past : List Cell → ℕ → ℕ
row_past cells steps = prefix_len (is_stone_of Black) (drop steps cells)

-- how many stones of Black stand past the first place that holds none, if it is empty
abbrev pub row_beyond : List Cell → ℕ
row_beyond cells = if is_free cells (1 + row_past cells 0) then row_past cells (1 + row_past cells 0) else 0

-- the rule by which a line is read: that any run of five or more wins, or only one of five
abbrev pub rule_by : Bool → RuleKind
rule_by any = if any then Freestyle else Exact

-- whether a place is empty, and wins where it has four stones next to it on the side of the stone
abbrev pub wins_off : Bool → List Cell → ℕ → Bool
wins_off any cells k = is_free cells k && (any || not (owns cells (1 + k)))

-- whether four stones in a row, so many of them in the one half and in the other, have two ends that win
abbrev pub is_open : Bool → List Cell → List Cell → ℕ → ℕ → Bool
is_open any cells other fore back = fore + back == 3 && wins_off any cells (1 + fore) && wins_off any other (1 + back)

-- the place of the three point in that way, if there is one
abbrev pub three_off : Bool → Way → List Cell → List Cell → Option ℕ
three_off any way cells other =
    if nat_le (row_past cells 0 + row_past other 0) 2
    && is_free cells (1 + row_past cells 0)
    && is_open any cells other (1 + row_past cells 0 + row_beyond cells) (row_past other 0)
    then Some (place_towards way (1 + row_past cells 0)) else None

-- which of the nine places around the stone hold stones of Black
abbrev pub nine_places : List Cell → List Cell → List Bool
nine_places ahead behind =
    owns behind 4 ∷ owns behind 3 ∷ owns behind 2 ∷ owns behind 1 ∷ true ∷ owns ahead 1 ∷ owns ahead 2 ∷ owns ahead 3 ∷ owns ahead 4 ∷ []

-- whether one of the nine places is empty
abbrev pub free_place : List Cell → List Cell → ℕ → Bool
free_place ahead behind i = if nat_lt 4 i then is_free ahead (i - 4) else is_free behind (4 - i)

-- whether one of the nine places wins: it is the one that is left out of five in a row, which begin at that place, and the others
-- hold stones of Black
abbrev pub wins_window : Bool → List Cell → List Cell → ℕ → ℕ → Bool
wins_window any ahead behind start i = free_place ahead behind i && (any || (not (owns behind (5 - start)) && not (owns ahead (start + 1))))

-- whether these are four stones of a four
abbrev pub is_four_off : Bool → List Cell → List Cell → List Bool → ℕ → ℕ → Bool
is_four_off any ahead behind stones first gap =
    not (first == gap)
    && are_stones (listed stones) first gap
    && (wins_window any ahead behind (4 - first) (gap + 4 - first) || (gap == 4 && wins_window any ahead behind (3 - first) (3 - first)))

-- the fours among the five places that begin so many steps behind the stone, but for those without the first of them
abbrev pub fours_off : Bool → List Cell → List Cell → List Bool → ℕ → ℕ
fours_off any ahead behind stones first = count_by (λ gap. is_four_off any ahead behind stones first gap) (range_with_len 1 4)

-- the half in that way of the line that has these digits there
abbrev pub half_cells : Way → ℕ → ℕ → List Cell
half_cells Ahead reach digits = map cell_of_digit (first_digits reach digits) ++ replicate (5 - reach) WhiteStone
half_cells Behind reach digits = map cell_of_digit (reverse (first_digits reach digits)) ++ replicate (5 - reach) WhiteStone

-- whether there is such a point, and it is empty
abbrev pub free_at : Grid → Option Point → Bool
free_at b None = false
free_at b (Some q) = is_empty b q

-- the half is what stands on the five places of the board in that way from the point, in its row
pub record SeesHalf (cells : List Cell) (b : Grid) (way : Way) (p : Point) : Type 0 where
  pub places : length cells ≡ 5
  pub stones : (k : ℕ) → 1 ≤ k → k ≤ 5 → stone_at b Black (towards way Row p k) ≡ owns cells k
  pub frees : (k : ℕ) → 1 ≤ k → k ≤ 5 → free_at b (towards way Row p k) ≡ is_free cells k

-- the two halves are what stands on the board around a stone of Black, in its row
pub record SeesLine (ahead behind : List Cell) (b : Grid) (p : Point) : Type 0 where
  pub board : IsBoard b
  pub stone : holds b Black p ≡ true
  pub forth : SeesHalf ahead b Ahead p
  pub back : SeesHalf behind b Behind p
