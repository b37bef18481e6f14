-- The command `bind`: its words, what becomes of its files, and what its runs show.
use Rattle.std.specs.Prelude.{◌≡◌, ◌⊎◌, ℕ, List, [], ◌∷◌, ◌++◌, codes, length, Option, Some, IfSome}
use Rattle.strategy_graph.specs.declared.TheConstants.{MAX_NODES}
use Rattle.strategy_compiler.specs.Unfolded.{HoldMore}
use Rattle.strategy_compiler.specs.Walks.{AreDifferent}
use Rattle.position_files.specs.declared.TableFile.{TableFile}
use Rattle.renju_io.specs.Told.{Takes}
use Rattle.renju_io.specs.Files.{Files}
use Rattle.table_book.specs.Books.{IsTextOfBook, IsWellFormed}
use Rattle.table_book.specs.Binding.{AreEntriesOf, IsBound, tables_of}
use Rattle.table_book.specs.declared.Book.{Book}
use Rattle.brain_session.specs.declared.TheConstants.{BRAIN_WORK}
use Rattle.table_commands.specs.declared.TheConstants.{MAX_FILES}
use Rattle.command_base.specs.declared.status.Status.{Status}
use Rattle.command_base.specs.declared.status.Status.TheVariants.{Done, Full}
use Rattle.command_base.specs.Statuses.{status_number}
use Rattle.command_base.specs.Runs.{Change, Run, HasFailed, IsDelivered, IsOutOfMemory, HasNoFault, IsAskedNoMore, IsUnasked}
use Rattle.command_base.specs.Forms.{Command}
use Rattle.file_loading.specs.ManyFiles.{AreFileNames, AreTableFiles, IsFileRefused, IsNotKept}
use Rattle.command_base.specs.Texts.{full_line}

-- the words `bind FILE ..`
abbrev pub bind_words : List (List ℕ) → List (List ℕ)
bind_words names = codes "bind" ∷ names

-- there are 1 to MAX_FILES names, and none is empty
abbrev pub AreNames : List (List ℕ) → Type 0
AreNames = AreFileNames MAX_FILES

-- the files together hold no more different nodes than a book may have
abbrev pub AreFew : List TableFile → Type 0
AreFew files = HoldMore (tables_of files) MAX_NODES → ⊥

-- all files are bound, and the text is that of the book
pub record IsBookTold (names : List (List ℕ)) (shelf : Change (Option Files)) (status : Status) (text : List ℕ) : Type 0 where
  pub files : List TableFile
  pub accepted : AreTableFiles BRAIN_WORK shelf.before names files
  pub few : AreFew files
  pub sound : HasNoFault shelf
  pub book : Book
  pub well_formed : IsWellFormed book
  pub bound : IsBound files book
  pub ends : status ≡ Done
  pub told : IsTextOfBook book text

-- a file cannot be bound: what is told of it by `brain FILE` is told after its number; the files before it can, and together hold no
-- more different nodes than a book may have
pub record IsUnbound (names : List (List ℕ)) (shelf : Change (Option Files)) (status : Status) (text : List ℕ) : Type 0 where
  pub refused : IsFileRefused BRAIN_WORK names shelf status text
  pub few : AreFew refused.stop.files

-- these files hold no more different nodes than a book may have, but with this one they do, which is told
pub record IsFullAt (files : List TableFile) (file : TableFile) (status : Status) (text : List ℕ) : Type 0 where
  pub few : AreFew files
  pub full : HoldMore (tables_of (files ++ file ∷ [])) MAX_NODES
  pub ends : status ≡ Full
  pub told : text ≡ full_line

-- a file can be bound, and so can those before it, but the files up to it hold more different nodes than a book may have
abbrev pub IsBookFull : List (List ℕ) → Change (Option Files) → Status → List ℕ → Type 0
IsBookFull = IsNotKept IsFullAt BRAIN_WORK

-- What `bind` says of the files under these names: their book, why the earliest one that cannot be bound is not, or that they hold
-- too many nodes.
abbrev pub BindSays : List (List ℕ) → Change (Option Files) → Status → List ℕ → Type 0
BindSays names shelf status text = IsBookTold names shelf status text ⊎ IsUnbound names shelf status text ⊎ IsBookFull names shelf status
    text

-- what is said of the files is delivered
pub record TellsBook (names : List (List ℕ)) (run : Run) : Type 0 where
  pub status : Status
  pub text : List ℕ
  pub says : BindSays names run.shelf status text
  pub delivered : IsDelivered status text run.output run.status

-- What `bind` does in a run: it leaves the input unasked, asks the shelf no more often than there are files, and says what becomes of
-- them, or memory ran out before.
pub record IsBind (names : List (List ℕ)) (run : Run) : Type 0 where
  pub input : IsUnasked run.input
  pub each : IsAskedNoMore (length names) run.shelf
  pub ends : TellsBook names run ⊎ IsOutOfMemory run.output run.status

-- What `bind` needs to write a book of these tables: a shelf that tells its files, in which they stand under the names; no more
-- different nodes than a book may have; and devices that count no fault in the run.
pub record IsUnhinderedBind (names : List (List ℕ)) (run : Run) (files : List TableFile) : Type 0 where
  pub shelf : Files
  pub told : run.shelf.before ≡ Some shelf
  pub accepted : AreTableFiles BRAIN_WORK (Some shelf) names files
  pub few : AreFew files
  pub shelf_sound : HasFailed run.shelf → ⊥
  pub output_sound : HasFailed run.output → ⊥

-- the tables are bound into a book, whose text was written whole
pub record HasBound (files : List TableFile) (run : Run) : Type 0 where
  pub book : Book
  pub well_formed : IsWellFormed book
  pub bound : IsBound files book
  pub text : List ℕ
  pub spelled : IsTextOfBook book text
  pub ends : run.status ≡ status_number Done
  pub whole : Takes run.output.before text run.output.after

-- `bind FILE ..`, which binds all tables that it can
abbrev pub bind_command : List (List ℕ) → Command
bind_command names = record {
  words = bind_words names;
  in_range = AreNames names;
  Does = IsBind names;
  Answers = λ run. (files : List TableFile) → IsUnhinderedBind names run files → HasBound files run ⊎ IsOutOfMemory run.output run.status;
}

-- The files under the names are accepted tables, and the output took the text of a book, whole. No two nodes of it are equal, and its
-- entries are those of the files in their order: each has the rule, the position and the moves of its file, and a root that says in
-- the book what the file's root says with its table.
pub record ShowsBound (names : List (List ℕ)) (shelf : Files) (run : Run) : Type 0 where
  pub files : List TableFile
  pub accepted : AreTableFiles BRAIN_WORK (Some shelf) names files
  pub book : Book
  pub different : AreDifferent book.table
  pub entries : AreEntriesOf files book.table book.entries
  pub text : List ℕ
  pub spelled : IsTextOfBook book text
  pub whole : Takes run.output.before text run.output.after

-- The headline of the binder: what status 0 of `bind` shows, where the shelf tells its files.
abbrev pub ShowsBinding : Run → Type 0
ShowsBinding run =
    (names : List (List ℕ)) → run.words ≡ bind_words names → AreNames names → run.status ≡ 0
    → IfSome run.shelf.before (λ shelf. ShowsBound names shelf run)
