-- The text of a game, line by line, and which bytes are one.
use Rattle.std.specs.Prelude.{◌≡◌, ℕ, List, [], ◌∷◌, ◌++◌, codes}
use Rattle.std.specs.List.{AllByRecursion}
use Rattle.game_rules.specs.Grid.{Grid, IsBoard}
use Rattle.game_rules.specs.declared.RuleKind.{RuleKind}
use Rattle.game_rules.specs.declared.Point.{Point}
use Rattle.position_files.specs.declared.GameFile.{GameFile}
use Rattle.text_lines.specs.Lines.{text_of}
use Rattle.text_lines.specs.Spellings.{points_text}
use Rattle.text_lines.specs.Reading.{IsWithin}
use Rattle.position_files.specs.Positions.{board_lines}

-- the line of the moves, in order of play
abbrev pub moves_line : List Point → List ℕ
moves_line ms = codes "moves" ++ points_text ms

-- each of the points is on the board
abbrev pub AreOn : Grid → List Point → Type 0
AreOn b ps = AllByRecursion (IsWithin b.width b.height) ps

-- the text of a game: a position, and the moves that are played from it
unfoldable pub game_text : RuleKind → Grid → List Point → List ℕ
game_text kind b ms = text_of (codes "renju-game 1" ∷ board_lines kind b ++ moves_line ms ∷ [])

-- the bytes are the text of the game
pub record IsTextOfGame (file : GameFile) (bytes : List ℕ) : Type 0 where
  pub board : IsBoard file.board
  pub on_board : AreOn file.board file.moves
  pub spelled : bytes ≡ game_text file.kind file.board file.moves

-- the bytes are the text of some game
abbrev pub IsGameText : List ℕ → Type 0
IsGameText bytes = (file : GameFile) × IsTextOfGame file bytes
