-- The halves of lines that the code keeps, and lists of them.
use Rattle.std.specs.Prelude.{◌≡◌, ℕ, ◌<◌, List, length, Some, slice_get}
use Rattle.game_rules.specs.declared.Cell.{Cell}
use Rattle.game_rules.specs.declared.Way.{Way}
use Rattle.row_shapes.specs.Halves.{cells_of, half_cells}
use Rattle.row_shapes.specs.declared.halves.Half.{Half}

-- what stands on the places of a half
abbrev pub seen : Half → List Cell
seen half = cells_of half.own half.free

-- the list has the halves in that way with these digits, in the order of the digits
pub record TellsHalves (way : Way) (reach count : ℕ) (halves : List Half) : Type 0 where
  pub all : length halves ≡ count
  pub told : (digits : ℕ) → digits < count → (half : Half) → slice_get halves digits ≡ Some half → seen half ≡ half_cells way reach digits
