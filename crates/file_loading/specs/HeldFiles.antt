-- The FILE of a command: what the shelf gives, what its text gives to be held, and what is told of one that is not held.
use Rattle.std.specs.Prelude.{◌≡◌, ◌≢◌, ◌⊎◌, ℕ, ◌≤◌, ◌<◌, List, [], ◌∷◌, length, map, Option, Some}
use Rattle.std.specs.Prelude.{IfSome}
use Rattle.strategy_graph.specs.Roots.{root_arrivals, AcceptedRoot}
use Rattle.strategy_graph.specs.declared.Node.{Node}
use Rattle.strategy_checker.specs.HeldRoots.{HeldTable}
use Rattle.strategy_checker.specs.declared.held.HeldRoot.{HeldRoot}
use Rattle.table_book.specs.declared.Book.{Book}
use Rattle.table_book.specs.declared.Entry.{Entry}
use Rattle.table_book.specs.Books.{BeginsBook}
use Rattle.table_book.specs.Holding.{held_entry}
use Rattle.position_files.specs.declared.TableFile.{TableFile}
use Rattle.position_files.specs.Faults.{IsTableFault}
use Rattle.renju_io.specs.Files.{Files, file_under}
use Rattle.renju_io.specs.declared.TheConstants.{MAX_INPUT_BYTES}
use Rattle.command_base.specs.declared.status.Status.{Status}
use Rattle.command_base.specs.declared.status.Status.TheVariants.{ShelfFault, TooLong}
use Rattle.brain_session.specs.declared.TheConstants.{BRAIN_WORK}
use Rattle.command_base.specs.Texts.{too_long_line, shelf_line}
use Rattle.command_base.specs.Runs.{Change, Run, HasFailed, HasNoFault, IsUnasked, IsDelivered}
use Rattle.command_base.specs.Refusals.{IsRefusedText}
use Rattle.file_loading.specs.TableFiles.{IsTableAt, IsRefusedTable, IsSpentWork}
use Rattle.file_loading.specs.BookFiles.{AreAccepted, IsBookAt, IsRefusedBook, IsRefusedEntry}

-- FILE is any word that is not empty
abbrev pub IsFileName : List ℕ → Type 0
IsFileName name = name ≢ []

-- a root, and the number of moves that is named for it
pub record NamedRoot : Type 0 where
  pub root : HeldRoot
  pub moves : ℕ

-- what is held by a table and roots of it
abbrev pub held_with : List Node → List NamedRoot → HeldTable
held_with t named = record { table = t; roots = map (λ r. r.root) named }

-- What a FILE gives to be held: a table, and roots of it with the moves that are named for them.
pub record HeldFile : Type 0 where
  pub table : List Node
  pub roots : List NamedRoot

-- what a brain holds by it
abbrev pub held_by : HeldFile → HeldTable
held_by file = held_with file.table file.roots

-- the one root of the text of a table, with the moves that the text names
abbrev pub named_root : TableFile → NamedRoot
named_root file = record { root = record { root = file.root; kind = file.kind; board = file.board }; moves = file.moves }

-- what the text of a table gives to be held: the table with this root
abbrev pub of_table : TableFile → HeldFile
of_table file = record { table = file.table; roots = named_root file ∷ [] }

-- the root of an entry, with the moves that are named for it
abbrev pub named_entry : Entry → NamedRoot
named_entry e = record { root = held_entry e; moves = e.moves }

-- what a book gives to be held: its table with the roots of its entries, in their order
abbrev pub of_book : Book → HeldFile
of_book book = record { table = book.table; roots = map named_entry book.entries }

-- the shelf gave these bytes under the name, which are its own where it tells its files, and has counted no fault
pub record IsLoaded (shelf : Change (Option Files)) (name bytes : List ℕ) : Type 0 where
  pub found : IfSome shelf.before (λ files. file_under name files ≡ Some bytes)
  pub sound : HasNoFault shelf

-- the root of the text is accepted with at most so many arrivals
pub record IsFit (work : ℕ) (file : TableFile) : Type 0 where
  pub accepted : AcceptedRoot file.kind file.table file.root file.board
  pub within : root_arrivals file.kind file.table file.root file.board ≤ work

-- What is said of the bytes of a FILE that is to be a table and is not accepted: why the text is refused, or else why the table is, or
-- that it has more arrivals than are allowed.
abbrev pub TableFileSays : ℕ → List ℕ → Status → List ℕ → Type 0
TableFileSays work bytes status text =
    IsRefusedText (IsTableFault bytes) status text
    ⊎ ((file : TableFile) × IsTableAt file bytes × (IsRefusedTable file status text ⊎ IsSpentWork work file status text))

-- what is said of those of a book that is not held: why the text is refused, or else which entry is not accepted
abbrev pub BookFileSays : List ℕ → Status → List ℕ → Type 0
BookFileSays bytes status text = IsRefusedBook bytes status text ⊎
    ((book : Book) × IsBookAt book bytes × IsRefusedEntry BRAIN_WORK book status text)

-- What is said of the bytes of a FILE that a brain does not hold: where their first line is that of a book what is said of a book, and
-- else what is said of a table.
abbrev pub FileSays : List ℕ → Status → List ℕ → Type 0
FileSays bytes status text =
    (BeginsBook bytes × BookFileSays bytes status text) ⊎ ((¬ BeginsBook bytes) × TableFileSays BRAIN_WORK bytes status text)

-- the bytes are the text of a table that is accepted, and this is what it gives
pub record IsOfTable (held : HeldFile) (bytes : List ℕ) : Type 0 where
  pub file : TableFile
  pub at : IsTableAt file bytes
  pub fit : IsFit BRAIN_WORK file
  pub gives : held ≡ of_table file

-- the bytes are the text of a book of which each entry is accepted, and this is what it gives
pub record IsOfBook (held : HeldFile) (bytes : List ℕ) : Type 0 where
  pub book : Book
  pub at : IsBookAt book bytes
  pub fit : AreAccepted BRAIN_WORK book
  pub gives : held ≡ of_book book

-- the bytes give this to be held
abbrev pub IsHeldText : HeldFile → List ℕ → Type 0
IsHeldText held bytes = IsOfTable held bytes ⊎ IsOfBook held bytes

-- FILE was loaded, and is not held
pub record IsRefusedFile (Says : List ℕ → Status → List ℕ → Type 0) (shelf : Change (Option Files)) (name : List ℕ) (status : Status)
    (text : List ℕ) : Type 0 where
  pub bytes : List ℕ
  pub loaded : IsLoaded shelf name bytes
  pub fits : length bytes ≤ MAX_INPUT_BYTES
  pub says : Says bytes status text

-- FILE has more bytes than a command takes, and is only told so
pub record IsLongFile (shelf : Change (Option Files)) (name : List ℕ) (status : Status) (text : List ℕ) : Type 0 where
  pub bytes : List ℕ
  pub loaded : IsLoaded shelf name bytes
  pub long : MAX_INPUT_BYTES < length bytes
  pub ends : status ≡ TooLong
  pub line : text ≡ too_long_line

-- the shelf failed, which is told
pub record IsShelfFault (shelf : Change (Option Files)) (status : Status) (text : List ℕ) : Type 0 where
  pub failed : HasFailed shelf
  pub ends : status ≡ ShelfFault
  pub line : text ≡ shelf_line

-- why nothing is held, with the status and the text that are due for it
abbrev pub IsUnheld : (List ℕ → Status → List ℕ → Type 0) → Change (Option Files) → List ℕ → Status → List ℕ → Type 0
IsUnheld Says shelf name status text =
    IsRefusedFile Says shelf name status text ⊎ IsLongFile shelf name status text ⊎ IsShelfFault shelf status text

-- FILE is not held: why is told, and the input is left unasked
pub record TellsFile (Says : List ℕ → Status → List ℕ → Type 0) (name : List ℕ) (run : Run) : Type 0 where
  pub status : Status
  pub text : List ℕ
  pub why : IsUnheld Says run.shelf name status text
  pub input : IsUnasked run.input
  pub delivered : IsDelivered status text run.output run.status

-- The file under the name is not too long, and is the text of a table that is accepted with at most so many arrivals. Where the shelf
-- tells its files, it is one of them.
pub record IsTableFile (work : ℕ) (shelf : Option Files) (name : List ℕ) (file : TableFile) : Type 0 where
  pub bytes : List ℕ
  pub found : IfSome shelf (λ files. file_under name files ≡ Some bytes)
  pub fits : length bytes ≤ MAX_INPUT_BYTES
  pub at : IsTableAt file bytes
  pub fit : IsFit work file

-- among these files the one with this name is not too long, and gives this to be held
pub record GivesHeld (name : List ℕ) (files : Files) (file : HeldFile) : Type 0 where
  pub bytes : List ℕ
  pub found : file_under name files ≡ Some bytes
  pub fits : length bytes ≤ MAX_INPUT_BYTES
  pub at : IsHeldText file bytes

-- what a command with a FILE needs of the shelf: it counts no fault in the run, and tells its files, of which one fits
pub record IsUnhinderedShelf (Fits : Files → Type 0) (run : Run) : Type 0 where
  pub files : Files
  pub told : run.shelf.before ≡ Some files
  pub fit : Fits files
  pub shelf_sound : HasFailed run.shelf → ⊥
