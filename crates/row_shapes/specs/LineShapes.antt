-- The shape that a stone makes on one axis, and the shape of a code.
use Rattle.std.specs.Prelude.{◌≡◌, ℕ, zero, suc, ◌+◌, ◌*◌, ◌^◌, ◌<◌, true, nat_le, ◌==◌, if◌then◌else◌, List, ◌∷◌, ◌++◌, map, take, drop}
use Rattle.std.specs.Prelude.{replicate, Some, slice_get}
use Rattle.std.specs.List.{sum_by, range_with_len}
use Rattle.game_rules.specs.Grid.{Grid, IsBoard, is_empty, put, along}
use Rattle.game_rules.specs.Shapes.{row_wins, run_of, fours_of, is_straight, is_line_three_at}
use Rattle.game_rules.specs.declared.Cell.{Cell}
use Rattle.game_rules.specs.declared.Cell.TheVariants.{Empty, Black as BlackStone, White as WhiteStone}
use Rattle.game_rules.specs.declared.RuleKind.{RuleKind}
use Rattle.game_rules.specs.declared.RuleKind.TheVariants.{Freestyle, Exact}
use Rattle.game_rules.specs.declared.Side.{Side}
use Rattle.game_rules.specs.declared.Side.TheVariants.{Black}
use Rattle.game_rules.specs.declared.Axis.{Axis}
use Rattle.game_rules.specs.declared.Axis.TheVariants.{Row}
use Rattle.game_rules.specs.declared.Point.{Point}
use Rattle.game_rules.specs.declared.TheConstants.{MIN_SIDE}
use Rattle.row_shapes.specs.declared.shapes.Shape.{Shape}
use Rattle.row_shapes.specs.Rule.{reach_of}
use Rattle.row_shapes.specs.LineCodes.{first_digits, line_code}

-- the three points of a stone on the axis, as far as this axis decides, as bits: bit 5 + k for the point k steps along
unfoldable pub three_bits : RuleKind → Grid → Side → Axis → Point → ℕ
three_bits rule b s d p = sum_by (λ i. if is_line_three_at rule b s d p (along d p i 5) then 2 ^ i else 0) (range_with_len 0 11)

-- the shape of a stone of the side on the axis
abbrev pub stone_shape : RuleKind → Grid → Side → Axis → Point → Shape
stone_shape rule b s d p = record {
  five = row_wins rule s (run_of b s d p);
  over = nat_le 6 (run_of b s d p);
  fours = fours_of rule b s d p;
  straight = is_straight rule b s d p;
  three = three_bits rule b s d p;
}

-- the shape that a stone of the side makes on the axis, if it is put on the point
unfoldable pub shape_at : RuleKind → Grid → Side → Axis → Point → Shape
shape_at rule b s d p = stone_shape rule (put b s p) s d p

-- the rule by which a code of that reach is read
abbrev pub rule_of_reach : ℕ → RuleKind
rule_of_reach reach = if reach == 4 then Freestyle else Exact

-- what a digit stands for, as Black sees it
abbrev pub cell_of_digit : ℕ → Cell
cell_of_digit zero = Empty
cell_of_digit (suc zero) = BlackStone
cell_of_digit (suc (suc n)) = WhiteStone

-- the cells of a line with these digits and an empty point in their middle, so many digits before it
abbrev pub line_cells : ℕ → List ℕ → List Cell
line_cells reach digits = map cell_of_digit (take reach digits) ++ Empty ∷ map cell_of_digit (drop reach digits)

-- a board whose first row has this code, as Black sees it: its middle and the neighbours. Its other rows are empty.
abbrev pub line_board : ℕ → ℕ → Grid
line_board reach code = record {
  width = 2 * reach + 1;
  height = MIN_SIDE;
  cells = line_cells reach (first_digits (2 * reach) code) ++ replicate (4 * (2 * reach + 1)) Empty;
}

-- the middle of that row
abbrev pub middle : ℕ → Point
middle reach = record { x = reach; y = 0 }

-- the shape of a code: the one that a stone makes in the middle of the row that has it
unfoldable pub shape_of : ℕ → ℕ → Shape
shape_of reach code = shape_at (rule_of_reach reach) (line_board reach code) Black Row (middle reach)

-- a list with the shapes of all codes of that reach
pub record TellsShapes (reach : ℕ) (shapes : List Shape) : Type 0 where
  pub told : (code : ℕ) → code < 3 ^ (2 * reach) → slice_get shapes code ≡ Some (shape_of reach code)

-- whether a shape that is told is the one that a stone makes. With a reach of 4 an overline is told only as far as the
-- neighbours show it.
pub record IsShape (reach : ℕ) (told made : Shape) : Type 0 where
  pub five : told.five ≡ made.five
  pub over : reach ≡ 5 → told.over ≡ made.over
  pub fours : told.fours ≡ made.fours
  pub straight : told.straight ≡ made.straight
  pub three : told.three ≡ made.three

-- the law of reach: the shape of a point on an axis depends on its neighbours alone, so the shape of their code tells it
abbrev pub LawOfReach : Type 0
LawOfReach =
    (rule : RuleKind) (b : Grid) (s : Side) (d : Axis) (p : Point) → IsBoard b → is_empty b p ≡ true →
    IsShape (reach_of rule s) (shape_of (reach_of rule s) (line_code (reach_of rule s) b s d p)) (shape_at rule b s d p)
