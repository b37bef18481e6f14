-- What a board keeps of its stones.
use Rattle.std.specs.Prelude.{◌≡◌, ℕ, List}
use Rattle.game_rules.specs.Grid.{Grid, IsBoard, stones_of}
use Rattle.game_rules.specs.declared.Side.TheVariants.{Black, White}
use Rattle.stone_board.specs.Lines.{AreLines}

-- a board, with the numbers of its black and its white stones, and with its lines
pub record IsKept (b : Grid) (black white : ℕ) (bits : List ℕ) : Type 0 where
  pub board : IsBoard b
  pub blacks : black ≡ stones_of b Black
  pub whites : white ≡ stones_of b White
  pub lines : AreLines b bits
