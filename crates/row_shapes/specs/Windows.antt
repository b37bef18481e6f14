-- Windows: five places in a row on a line, four of which hold stones of a side while the fifth is free.
use Rattle.std.specs.Prelude.{◌≡◌, ◌≢◌, ℕ, ◌+◌, ◌<◌, false}
use Rattle.std.specs.Int.{bit_at}
use Rattle.game_rules.specs.Grid.{Grid}
use Rattle.game_rules.specs.Shapes.{wins_on}
use Rattle.game_rules.specs.declared.Side.{Side}
use Rattle.game_rules.specs.declared.Axis.{Axis}
use Rattle.game_rules.specs.declared.Axis.TheVariants.{Row, Column, Down, Up}
use Rattle.game_rules.specs.declared.Point.{Point}
use Rattle.game_rules.specs.declared.RuleKind.{RuleKind}
use Rattle.stone_board.specs.Lines.{line_of}
use Rattle.row_shapes.specs.declared.windows.WindowLines.{WindowLines}

-- of the five places from i on, by the bits of the side and of the other, all hold a stone of the side but place j of them, which
-- is free
pub record IsWindow (own theirs i j : ℕ) : Type 0 where
  pub near : j < 5
  pub within : i + j < 32
  pub stones : (k : ℕ) → k < 5 → k ≢ j → bit_at own (i + k) ≡ 1
  pub gap : bit_at own (i + j) ≡ 0
  pub free : bit_at theirs (i + j) ≡ 0

-- five places in a row are set
pub record HasRow (bits : ℕ) : Type 0 where
  pub first : ℕ
  pub set : (k : ℕ) → k < 5 → bit_at bits (first + k) ≡ 1

-- on a line of the axis whose bit is 0 the side does not win, whatever the rule
abbrev pub AreLinesOn : Grid → Side → Axis → ℕ → Type 0
AreLinesOn b s d lines = (rule : RuleKind) (q : Point) → bit_at lines (line_of d q) ≡ 0 → wins_on rule b s d q ≡ false

-- the same on each axis
pub record AreWindowLines (b : Grid) (s : Side) (lines : WindowLines) : Type 0 where
  pub row : AreLinesOn b s Row lines.row
  pub column : AreLinesOn b s Column lines.column
  pub down : AreLinesOn b s Down lines.down
  pub up : AreLinesOn b s Up lines.up

-- no line through the point is one of these
pub record IsPassed (lines : WindowLines) (p : Point) : Type 0 where
  pub row : bit_at lines.row (line_of Row p) ≡ 0
  pub column : bit_at lines.column (line_of Column p) ≡ 0
  pub down : bit_at lines.down (line_of Down p) ≡ 0
  pub up : bit_at lines.up (line_of Up p) ≡ 0
