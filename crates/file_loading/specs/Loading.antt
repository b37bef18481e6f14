-- What comes of a FILE that is loaded: it is held, or handed on, or it is told why not.
use Rattle.std.specs.Prelude.{◌≡◌, ◌⊎◌, ℕ, ◌≤◌, List, length, Option}
use Rattle.strategy_checker.specs.HeldRoots.{HeldTable}
use Rattle.position_files.specs.declared.TableFile.{TableFile}
use Rattle.table_book.specs.declared.Book.{Book}
use Rattle.brain_session.specs.declared.TheConstants.{BRAIN_WORK}
use Rattle.command_base.specs.declared.status.Status.{Status}
use Rattle.renju_io.specs.Files.{Files}
use Rattle.renju_io.specs.declared.TheConstants.{MAX_INPUT_BYTES}
use Rattle.file_loading.specs.declared.loading.Holdable.{Holdable}
use Rattle.file_loading.specs.declared.loading.Holdable.TheVariants.{Table, TableOrBook}
use Rattle.file_loading.specs.declared.loading.Loaded.{Loaded}
use Rattle.file_loading.specs.declared.loading.Loaded.TheVariants.{Holds, Tells}
use Rattle.command_base.specs.Runs.{Change}
use Rattle.file_loading.specs.TableFiles.{IsTableAt, IsRefusedTable, IsSpentWork}
use Rattle.file_loading.specs.BookFiles.{AreAccepted, IsBookAt, IsRefusedEntry}
use Rattle.file_loading.specs.HeldFiles.{BookFileSays, FileSays, HeldFile, IsFit, IsHeldText, IsLoaded, IsUnheld, TableFileSays, held_by}
use Rattle.file_loading.specs.HeldFiles.{of_book, of_table}

-- what comes of the table of a text: it is held, or what is told of it says why not
abbrev pub IsLoadedFile : TableFile → Loaded → Type 0
IsLoadedFile file (Holds held) = IsFit BRAIN_WORK file × (held ≡ held_by (of_table file))
IsLoadedFile file (Tells answer) =
    IsRefusedTable file answer.status answer.text ⊎ IsSpentWork BRAIN_WORK file answer.status answer.text

-- what comes of the bytes of a FILE that is to be a table: the table of the text is held, or what is told of them says why not
abbrev pub IsLoadedText : List ℕ → Loaded → Type 0
IsLoadedText bytes (Holds held) = (file : TableFile) × IsTableAt file bytes × IsFit BRAIN_WORK file × (held ≡ held_by (of_table file))
IsLoadedText bytes (Tells answer) = TableFileSays BRAIN_WORK bytes answer.status answer.text

-- what comes of a book: it is held with all its entries, or what is told of it says why not
abbrev pub IsLoadedBook : Book → Loaded → Type 0
IsLoadedBook book (Holds held) = AreAccepted BRAIN_WORK book × (held ≡ held_by (of_book book))
IsLoadedBook book (Tells answer) = IsRefusedEntry BRAIN_WORK book answer.status answer.text

-- what comes of the bytes of a FILE that is to be a book: the book of the text is held, or what is told of them says why not
abbrev pub IsLoadedBookText : List ℕ → Loaded → Type 0
IsLoadedBookText bytes (Holds held) = (book : Book) × IsBookAt book bytes × AreAccepted BRAIN_WORK book × (held ≡ held_by (of_book book))
IsLoadedBookText bytes (Tells answer) = BookFileSays bytes answer.status answer.text

-- what comes of the bytes of a FILE: what they give is held, or what is told of them says why not
abbrev pub IsLoadedHeld : List ℕ → Loaded → Type 0
IsLoadedHeld bytes (Holds held) = (file : HeldFile) × IsHeldText file bytes × (held ≡ held_by file)
IsLoadedHeld bytes (Tells answer) = FileSays bytes answer.status answer.text

-- what comes of the bytes of a FILE whose text may be this
abbrev pub IsLoadedAs : Holdable → List ℕ → Loaded → Type 0
IsLoadedAs Table = IsLoadedText
IsLoadedAs TableOrBook = IsLoadedHeld

-- what is said of the bytes of one that is not held
abbrev pub SaysUnheld : Holdable → List ℕ → Status → List ℕ → Type 0
SaysUnheld Table = TableFileSays BRAIN_WORK
SaysUnheld TableOrBook = FileSays

-- the shelf gave the bytes of FILE, which are not too many, and what they give is held
pub record HoldsFile (holdable : Holdable) (shelf : Change (Option Files)) (name : List ℕ) (held : HeldTable) : Type 0 where
  pub bytes : List ℕ
  pub loaded : IsLoaded shelf name bytes
  pub fits : length bytes ≤ MAX_INPUT_BYTES
  pub gives : IsLoadedAs holdable bytes (Holds held)

-- what comes of FILE: what it gives is held, or what is told says why not
abbrev pub IsLoadedFrom : Holdable → Change (Option Files) → List ℕ → Loaded → Type 0
IsLoadedFrom holdable shelf name (Holds held) = HoldsFile holdable shelf name held
IsLoadedFrom holdable shelf name (Tells answer) = IsUnheld (SaysUnheld holdable) shelf name answer.status answer.text
