-- What is written is read back as the same value.
use Rattle.std.specs.Prelude.{◌≡◌, ℕ, List}
use Rattle.game_rules.specs.Play.{IsPosition}
use Rattle.strategy_graph.specs.Roots.{root_depth}
use Rattle.strategy_graph.specs.Tables.{Answers}
use Rattle.strategy_graph.specs.declared.Node.{Node}
use Rattle.position_files.specs.declared.PositionFile.{PositionFile}
use Rattle.position_files.specs.declared.TableFile.{TableFile}
use Rattle.position_files.specs.declared.GameFile.{GameFile}
use Rattle.position_files.specs.declared.sections.Head.{Head}
use Rattle.position_files.specs.declared.error.HeadError.{HeadError}
use Rattle.position_files.specs.declared.error.HeadError.TheVariants.{BadLine as BadHead, Memory as NoRoom}
use Rattle.position_files.specs.declared.error.FileError.{FileError}
use Rattle.position_files.specs.declared.error.FileError.TheVariants.{Memory}
use Rattle.position_files.specs.declared.error.GameError.{GameError}
use Rattle.position_files.specs.declared.error.GameError.TheVariants.{Memory as NoGame}
use Rattle.position_files.specs.Positions.{IsTextOfPosition}
use Rattle.position_files.specs.Tables.{IsTextOfTable}
use Rattle.position_files.specs.Games.{IsTextOfGame}
use Rattle.text_lines.specs.Lines.{BeginsWith, FirstBad}
use Rattle.position_files.specs.Boards.{IsSide}
use Rattle.position_files.specs.Sections.{AreNodeLines, IsBoardLines, IsHeadOf, IsNodesOf, IsSectionFault, IsStartLines, IsStartOf}
use Rattle.position_files.specs.Faults.{IsGameFault, IsPositionFault, IsTableFault}

-- the bytes can be read as this position alone: they are the text of no other, and nothing but want of memory is said of them
pub record OnlyPosition (file : PositionFile) (bytes : List ℕ) : Type 0 where
  pub no_other : (other : PositionFile) → IsTextOfPosition other bytes → other ≡ file
  pub no_fault : (error : FileError) → IsPositionFault bytes error → error ≡ Memory

-- the bytes can be read as this table alone: they are the text of no other, and nothing but want of memory is said of them
pub record OnlyTable (file : TableFile) (bytes : List ℕ) : Type 0 where
  pub no_other : (other : TableFile) → IsTextOfTable other bytes → other ≡ file
  pub no_fault : (error : FileError) → IsTableFault bytes error → error ≡ Memory

-- the bytes can be read as this game alone: they are the text of no other, and nothing but want of memory is said of them
pub record OnlyGame (file : GameFile) (bytes : List ℕ) : Type 0 where
  pub no_other : (other : GameFile) → IsTextOfGame other bytes → other ≡ file
  pub no_fault : (error : GameError) → IsGameFault bytes error → error ≡ NoGame

-- the text of a lawful position is read back as that position
abbrev pub PositionsReadBack : Type 0
PositionsReadBack = (file : PositionFile) (bytes : List ℕ) → IsTextOfPosition file bytes → IsPosition file.kind file.board
    → OnlyPosition file bytes

-- the text of a table at a lawful position, whose moves are the depth of its root, is read back as that table
abbrev pub TablesReadBack : Type 0
TablesReadBack =
    (file : TableFile) (bytes : List ℕ) → IsTextOfTable file bytes → IsPosition file.kind file.board
    → file.moves ≡ root_depth file.table file.root → OnlyTable file bytes

-- the text of a game from a lawful position is read back as that game
abbrev pub GamesReadBack : Type 0
GamesReadBack = (file : GameFile) (bytes : List ℕ) → IsTextOfGame file bytes → IsPosition file.kind file.board → OnlyGame file bytes

-- the bytes begin with this head alone, before this rest: with no other, and nothing but want of memory is said of them
pub record OnlyHead (head : Head) (rest bytes : List ℕ) : Type 0 where
  pub no_other : (other : Head) (more : List ℕ) → IsHeadOf other more bytes → (other ≡ head) × (more ≡ rest)
  pub no_fault : (error : HeadError) → IsSectionFault IsBoardLines bytes error → error ≡ NoRoom

-- the bytes begin with these nodes alone, where so many are asked
pub record OnlyNodes (width height count : ℕ) (found : List Node) (rest bytes : List ℕ) : Type 0 where
  pub no_other : (other : List Node) (more : List ℕ) → IsNodesOf width height count other more bytes → (other ≡ found) × (more ≡ rest)
  pub no_fault : (error : HeadError) → IsSectionFault (AreNodeLines width height count) bytes error → error ≡ NoRoom

-- the bytes begin with the line of this start alone
pub record OnlyStart (width height below : ℕ) (found : Answers) (rest bytes : List ℕ) : Type 0 where
  pub no_other : (other : Answers) (more : List ℕ) → IsStartOf width height below other more bytes → (other ≡ found) × (more ≡ rest)
  pub no_fault : (error : HeadError) → IsSectionFault (IsStartLines width height below) bytes error → error ≡ NoRoom

-- bytes that begin with a head are read as that head
abbrev pub HeadsReadBack : Type 0
HeadsReadBack = (head : Head) (rest bytes : List ℕ) → IsHeadOf head rest bytes → OnlyHead head rest bytes

-- bytes that begin with the lines of so many nodes are read as these nodes
abbrev pub NodesReadBack : Type 0
NodesReadBack =
    (width height count : ℕ) (found : List Node) (rest bytes : List ℕ) → IsSide width → IsSide height
    → IsNodesOf width height count found rest bytes → OnlyNodes width height count found rest bytes

-- bytes that begin with the line of a start are read as that start
abbrev pub StartsReadBack : Type 0
StartsReadBack =
    (width height below : ℕ) (found : Answers) (rest bytes : List ℕ) → IsSide width → IsSide height
    → IsStartOf width height below found rest bytes → OnlyStart width height below found rest bytes

-- what is said of bad lines at the front of bytes is said of the first bad line of the texts that begin with such lines
abbrev pub NamesFirstBad : (List (List ℕ) → Type 0) → Type 0
NamesFirstBad IsLines = (bytes : List ℕ) (n : ℕ) → IsSectionFault IsLines bytes (BadHead n) → FirstBad (BeginsWith IsLines) bytes n

-- the same of the lines of so many nodes
abbrev pub NodesNameFirstBad : Type 0
NodesNameFirstBad = (width height count : ℕ) → IsSide width → IsSide height → NamesFirstBad (AreNodeLines width height count)

-- the same of the line of a start
abbrev pub StartsNameFirstBad : Type 0
StartsNameFirstBad = (width height below : ℕ) → IsSide width → IsSide height → NamesFirstBad (IsStartLines width height below)
