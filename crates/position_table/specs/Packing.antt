-- Boards packed into bytes, two bits a cell.
use Rattle.std.specs.Prelude.{◌≡◌, ◌↔◌, ℕ, ◌+◌, ◌*◌, List, map, slice_index_or}
use Rattle.std.specs.List.{range_with_len}
use Rattle.game_rules.specs.Grid.{Grid, IsBoard}
use Rattle.game_rules.specs.declared.Cell.{Cell}
use Rattle.game_rules.specs.declared.Cell.TheVariants.{Empty, Black, White}

-- what a packed board keeps: its width, its height, and the bytes of its cells
pub record Packed : Type 0 where
  pub width : ℕ
  pub height : ℕ
  pub bytes : List ℕ

-- the two bits of a cell: 0 is empty, 1 is black, 2 is white
abbrev pub code_of : Cell → ℕ
code_of Empty = 0
code_of Black = 1
code_of White = 2

-- the two bits of the cell at a place in reading order, or 0 past the last cell
abbrev pub code_at : List Cell → ℕ → ℕ
code_at cells place = code_of (slice_index_or cells place Empty)

-- byte k holds the four cells from place 4k on, the first of them in the lowest bits
abbrev pub byte_at : List Cell → ℕ → ℕ
byte_at cells k =
    code_at cells (4 * k) + 4 * code_at cells (4 * k + 1) + 16 * code_at cells (4 * k + 2) + 64 * code_at cells (4 * k + 3)

-- the 256 bytes of a board's cells
unfoldable pub bytes_of : List Cell → List ℕ
bytes_of cells = map (byte_at cells) (range_with_len 0 256)

-- the board, packed
abbrev pub packed : Grid → Packed
packed b = record { width = b.width; height = b.height; bytes = bytes_of b.cells }

-- boards are packed alike exactly where they are the same board
abbrev pub KeysTellBoards : Type 0
KeysTellBoards = (a b : Grid) → IsBoard a → IsBoard b → (packed a ≡ packed b) ↔ (a ≡ b)
