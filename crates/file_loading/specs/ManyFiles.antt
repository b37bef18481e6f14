-- Tables of files that are loaded one after another: which are accepted, and what is told of the earliest that is not.
use Rattle.std.specs.Prelude.{◌≡◌, ◌⊎◌, ℕ, ◌+◌, ◌≤◌, List, [], ◌∷◌, ◌++◌, codes, length, Option, Some, None}
use Rattle.std.specs.List.{AllByRecursion}
use Rattle.std.specs.Fmt.{decimal}
use Rattle.position_files.specs.declared.TableFile.{TableFile}
use Rattle.renju_io.specs.Files.{Files}
use Rattle.command_base.specs.declared.status.Status.{Status}
use Rattle.command_base.specs.declared.answer.Answer.{Answer}
use Rattle.command_base.specs.Runs.{Change, HasNoFault}
use Rattle.file_loading.specs.TableFiles.{IsTableAt, IsRefusedTable, IsSpentWork}
use Rattle.file_loading.specs.HeldFiles.{IsFileName, IsFit, IsTableFile, IsUnheld, TableFileSays}
use Rattle.file_loading.specs.declared.fitting.Fitted.{Fitted}
use Rattle.file_loading.specs.declared.fitting.Fitted.TheVariants.{Fits, Tells}

-- there are 1 to so many names, and none is empty
pub record AreFileNames (most : ℕ) (names : List (List ℕ)) : Type 0 where
  pub some : 1 ≤ length names
  pub few : length names ≤ most
  pub each : AllByRecursion IsFileName names

-- these are the tables under the names, in their order
abbrev pub AreTableFiles : ℕ → Option Files → List (List ℕ) → List TableFile → Type 0
AreTableFiles work shelf [] [] = Unit {0}
AreTableFiles work shelf [] (file ∷ files) = ⊥
AreTableFiles work shelf (name ∷ names) [] = ⊥
AreTableFiles work shelf (name ∷ names) (file ∷ files) = IsTableFile work shelf name file × AreTableFiles work shelf names files

-- a text that is told of file n
abbrev pub of_file : ℕ → List ℕ → List ℕ
of_file n text = codes "file " ++ decimal n ++ (codes " " ++ text)

-- the files before the one with this name are accepted
pub record StopsAt (work : ℕ) (names : List (List ℕ)) (shelf : Option Files) : Type 0 where
  pub before : List (List ℕ)
  pub name : List ℕ
  pub later : List (List ℕ)
  pub names_are : names ≡ before ++ name ∷ later
  pub files : List TableFile
  pub accepted : AreTableFiles work shelf before files

-- that one is not: what is said of it is told after its number
pub record IsFileRefused (work : ℕ) (names : List (List ℕ)) (shelf : Change (Option Files)) (status : Status) (text : List ℕ) :
    Type 0 where
  pub stop : StopsAt work names shelf.before
  pub line : List ℕ
  pub why : IsUnheld (TableFileSays work) shelf stop.name status line
  pub told : text ≡ of_file (length stop.before + 1) line

-- the files are accepted, and this holds of what is kept of them
pub record AreKept (Kept : List TableFile → Type 0) (work : ℕ) (names : List (List ℕ)) (shelf : Change (Option Files)) : Type 0 where
  pub files : List TableFile
  pub accepted : AreTableFiles work shelf.before names files
  pub sound : HasNoFault shelf
  pub kept : Kept files

-- a file is accepted and not kept, and this is told in place of it; those before it are kept
pub record IsNotKept (Instead : List TableFile → TableFile → Status → List ℕ → Type 0) (work : ℕ) (names : List (List ℕ))
    (shelf : Change (Option Files)) (status : Status) (text : List ℕ) : Type 0 where
  pub stop : StopsAt work names shelf.before
  pub file : TableFile
  pub last : IsTableFile work shelf.before stop.name file
  pub sound : HasNoFault shelf
  pub tells : Instead stop.files file status text

-- what comes of files that are kept one after another: all are, or what is told of the earliest that is not accepted, or not kept
abbrev pub AreLoaded : (List TableFile → Type 0) → (List TableFile → TableFile → Status → List ℕ → Type 0) → ℕ → List (List ℕ)
    → Change (Option Files) → Option Answer → Type 0
AreLoaded Kept Instead work names shelf None = AreKept Kept work names shelf
AreLoaded Kept Instead work names shelf (Some answer) =
    ((refused : IsFileRefused work names shelf answer.status answer.text) × Kept refused.stop.files)
    ⊎ IsNotKept Instead work names shelf answer.status answer.text

-- ---- what comes of one

-- what comes of the table of a text: it is accepted, or what is told of it says why not
abbrev pub IsFittedTable : ℕ → TableFile → Fitted → Type 0
IsFittedTable work file (Fits found) = IsFit work file × (found ≡ file)
IsFittedTable work file (Tells answer) = IsRefusedTable file answer.status answer.text ⊎ IsSpentWork work file answer.status answer.text

-- what comes of bytes: they are the text of a table that is accepted, or what is told of them says why not
abbrev pub IsFittedText : ℕ → List ℕ → Fitted → Type 0
IsFittedText work bytes (Fits file) = IsTableAt file bytes × IsFit work file
IsFittedText work bytes (Tells answer) = TableFileSays work bytes answer.status answer.text

-- this is told of file n, for which the line is due
abbrev pub TellsOfFile : ℕ → (Status → List ℕ → Type 0) → Answer → Type 0
TellsOfFile n IsDue answer = (line : List ℕ) × IsDue answer.status line × (answer.text ≡ of_file n line)

-- what comes of the bytes of file n
abbrev pub IsFittedOf : ℕ → ℕ → List ℕ → Fitted → Type 0
IsFittedOf work n bytes (Fits file) = IsTableAt file bytes × IsFit work file
IsFittedOf work n bytes (Tells answer) = TellsOfFile n (TableFileSays work bytes) answer

-- what comes of file n, which stands under the name
abbrev pub IsFittedFile : ℕ → Change (Option Files) → ℕ → List ℕ → Fitted → Type 0
IsFittedFile work shelf n name (Fits file) = IsTableFile work shelf.before name file × HasNoFault shelf
IsFittedFile work shelf n name (Tells answer) = TellsOfFile n (IsUnheld (TableFileSays work) shelf name) answer
