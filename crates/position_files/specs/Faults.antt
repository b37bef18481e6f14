-- What is said of a text that is refused.
use Rattle.std.specs.Prelude.{◌≡◌, ℕ, ◌+◌, ◌≤◌, List, Some}
use Rattle.foul_judge.specs.Lawful.{refusal}
use Rattle.text_lines.specs.declared.fault.Fault.{Fault}
use Rattle.text_lines.specs.declared.fault.Fault.TheVariants.{Bad, Memory}
use Rattle.position_files.specs.declared.error.HeadError.{HeadError}
use Rattle.position_files.specs.declared.error.HeadError.TheVariants.{BadLine as BadHead, Memory as NoRoom}
use Rattle.position_files.specs.declared.error.FileError.{FileError}
use Rattle.position_files.specs.declared.error.FileError.TheVariants.{BadLine, Unlawful, WrongMoves, Memory as NoMemory}
use Rattle.game_rules.specs.Play.{IsPosition}
use Rattle.strategy_graph.specs.Roots.{root_depth}
use Rattle.position_files.specs.declared.error.GameError.{GameError}
use Rattle.position_files.specs.declared.error.GameError.TheVariants.{BadLine as BadGame, Unlawful as UnlawfulGame, Memory as NoGame}
use Rattle.position_files.specs.declared.PositionFile.{PositionFile}
use Rattle.position_files.specs.declared.GameFile.{GameFile}
use Rattle.position_files.specs.declared.TableFile.{TableFile}
use Rattle.position_files.specs.Tables.{IsTextOfTable, IsTableText}
use Rattle.text_lines.specs.Lines.{FirstBad}
use Rattle.position_files.specs.Positions.{IsTextOfPosition, IsPositionText}
use Rattle.position_files.specs.Games.{IsTextOfGame, IsGameText}

-- the error of a section whose line of this number has the fault
abbrev pub at_line : Fault → ℕ → HeadError
at_line Bad n = BadHead n
at_line Memory n = NoRoom

-- the error, said of bytes in which so many lines come before the section
abbrev pub after_lines : ℕ → HeadError → HeadError
after_lines lines (BadHead n) = BadHead (lines + n)
after_lines lines NoRoom = NoRoom

-- the error, said of a whole text whose front the section is
abbrev pub in_file : HeadError → FileError
in_file (BadHead n) = BadLine n
in_file NoRoom = NoMemory

-- the error, said of the text of a game whose front the section is
abbrev pub in_game : HeadError → GameError
in_game (BadHead n) = BadGame n
in_game NoRoom = NoGame

-- the line that the error names, if it names one, is at most this one
abbrev pub IsUpTo : ℕ → HeadError → Type 0
IsUpTo most (BadHead n) = n ≤ most
IsUpTo most NoRoom = Unit {0}

-- What each error says of bytes that are to be the text of a position: that line n is the first bad one; or that they are such a
-- text, and why its board is no lawful position; or that there is no memory.
abbrev pub IsPositionFault : List ℕ → FileError → Type 0
IsPositionFault bytes (BadLine n) = FirstBad IsPositionText bytes n
IsPositionFault bytes (Unlawful why) = IsPositionText bytes
    × ((file : PositionFile) → IsTextOfPosition file bytes → refusal file.kind file.board ≡ Some why)
IsPositionFault bytes (WrongMoves written counted) = ⊥
IsPositionFault bytes NoMemory = Unit {0}

-- What each error says of bytes that are to be the text of a game: that line n is the first bad one; or that they are such a
-- text, and why its board is no lawful position; or that there is no memory.
abbrev pub IsGameFault : List ℕ → GameError → Type 0
IsGameFault bytes (BadGame n) = FirstBad IsGameText bytes n
IsGameFault bytes (UnlawfulGame why) = IsGameText bytes
    × ((file : GameFile) → IsTextOfGame file bytes → refusal file.kind file.board ≡ Some why)
IsGameFault bytes NoGame = Unit {0}

-- the position of the file is lawful, and these are the number of moves that it says and the depth of its root, which differ
pub record IsMiscounted (file : TableFile) (written counted : ℕ) : Type 0 where
  pub lawful : IsPosition file.kind file.board
  pub says : written ≡ file.moves
  pub depth : counted ≡ root_depth file.table file.root
  pub differ : written ≡ counted → ⊥

-- What each error says of bytes that are to be the text of a table: that line n is the first bad one; or that they are such a text,
-- and why its board is no lawful position, or both numbers of moves; or that there is no memory.
abbrev pub IsTableFault : List ℕ → FileError → Type 0
IsTableFault bytes (BadLine n) = FirstBad IsTableText bytes n
IsTableFault bytes (Unlawful why) = IsTableText bytes
    × ((file : TableFile) → IsTextOfTable file bytes → refusal file.kind file.board ≡ Some why)
IsTableFault bytes (WrongMoves written counted) = IsTableText bytes
    × ((file : TableFile) → IsTextOfTable file bytes → IsMiscounted file written counted)
IsTableFault bytes NoMemory = Unit {0}
