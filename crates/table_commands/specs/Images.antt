-- The command `image`: its words, what it says of its input, and what its status 0 shows.
use Rattle.std.specs.Prelude.{◌≡◌, ◌↔◌, ◌⊎◌, ℕ, true, false, List, [], ◌∷◌, map, codes, Option, IfSome}
use Rattle.std.specs.List.{list_all}
use Rattle.game_rules.specs.Grid.{is_on}
use Rattle.game_rules.specs.declared.Point.{Point}
use Rattle.strategy_graph.specs.Roots.{AcceptedRoot, root_arrivals}
use Rattle.position_files.specs.Faults.{IsTableFault}
use Rattle.position_files.specs.declared.TableFile.{TableFile}
use Rattle.text_lines.specs.Lines.{ended}
use Rattle.board_symmetry.specs.Points.{fits, point_image}
use Rattle.board_symmetry.specs.Files.{file_image}
use Rattle.board_symmetry.specs.RootGames.{root_game}
use Rattle.board_symmetry.specs.Laws.{KeepsWins}
use Rattle.board_symmetry.specs.declared.symmetry.Symmetry.{Symmetry}
use Rattle.board_symmetry.specs.declared.symmetry.Symmetry.TheVariants.{Identity, Half, FlipX, FlipY, Quarter, ThreeQuarter, Diagonal}
use Rattle.board_symmetry.specs.declared.symmetry.Symmetry.TheVariants.{AntiDiagonal}
use Rattle.renju_io.specs.Told.{Takes}
use Rattle.command_base.specs.declared.status.Status.{Status}
use Rattle.command_base.specs.declared.status.Status.TheVariants.{Done, RefusedText}
use Rattle.command_base.specs.Runs.{Run, Change}
use Rattle.command_base.specs.Told.{ToldCommand}
use Rattle.command_base.specs.Refusals.{IsRefusedText}
use Rattle.file_loading.specs.TableFiles.{IsTableAt}

-- the word of a symmetry
abbrev pub symmetry_word : Symmetry → List ℕ
symmetry_word Identity = codes "identity"
symmetry_word Half = codes "half"
symmetry_word FlipX = codes "flip-x"
symmetry_word FlipY = codes "flip-y"
symmetry_word Quarter = codes "quarter"
symmetry_word ThreeQuarter = codes "three-quarter"
symmetry_word Diagonal = codes "diagonal"
symmetry_word AntiDiagonal = codes "antidiagonal"

-- a symmetry that does not fit the board of the text
abbrev pub unfit_line : List ℕ
unfit_line = ended (codes "refused symmetry")

-- the symmetry fits the board, and the text is that of the image, which is a table at a lawful position with its number of moves
pub record IsImage (s : Symmetry) (file : TableFile) (status : Status) (text : List ℕ) : Type 0 where
  pub fitting : fits s file.board.width file.board.height ≡ true
  pub ends : status ≡ Done
  pub image : IsTableAt (file_image s file) text

-- the symmetry does not fit the board
pub record IsUnfit (s : Symmetry) (file : TableFile) (status : Status) (text : List ℕ) : Type 0 where
  pub unfit : fits s file.board.width file.board.height ≡ false
  pub ends : status ≡ RefusedText
  pub line : text ≡ unfit_line

-- what is said of a table text
abbrev pub ImagedFileSays : Symmetry → TableFile → Status → List ℕ → Type 0
ImagedFileSays s file status text = IsImage s file status text ⊎ IsUnfit s file status text

-- What `image` says of an input that it has read whole: why the text is refused, or else the image of the table, or that the
-- symmetry does not fit.
abbrev pub ImageSays : Symmetry → List ℕ → Status → List ℕ → Type 0
ImageSays s input status text =
    IsRefusedText (IsTableFault input) status text ⊎ ((file : TableFile) × IsTableAt file input × ImagedFileSays s file status text)

-- the words `image SYMMETRY`
abbrev pub image_words : Symmetry → List (List ℕ)
image_words s = codes "image" ∷ symmetry_word s ∷ []

-- `image SYMMETRY`. It answers for a table at a lawful position with its number of moves and a board that the symmetry fits.
abbrev pub image_command : Symmetry → ToldCommand
image_command s = record {
  words = image_words s;
  in_range = Unit {0};
  Says = ImageSays s;
  IsAnswerable = λ input. (file : TableFile) × IsTableAt file input × (fits s file.board.width file.board.height ≡ true);
  IsAnswer = λ status. status ≡ Done;
}

-- The bytes are the text of a table at a lawful position with its number of moves. The output took, whole, a text of its image,
-- which is one too. The image is accepted at its root exactly where the table is, with as many arrivals and the same games; and its
-- board is won exactly where that of the table is.
pub record IsImagedInput (s : Symmetry) (bytes : List ℕ) (output : Change (Option (List ℕ))) : Type 0 where
  pub file : TableFile
  pub table : IsTableAt file bytes
  pub fitting : fits s file.board.width file.board.height ≡ true
  pub text : List ℕ
  pub image : IsTableAt (file_image s file) text
  pub whole : Takes output.before text output.after
  pub same_accepted : AcceptedRoot file.kind (file_image s file).table (file_image s file).root (file_image s file).board
      ↔ AcceptedRoot file.kind file.table file.root file.board
  pub same_arrivals : root_arrivals file.kind (file_image s file).table (file_image s file).root (file_image s file).board
      ≡ root_arrivals file.kind file.table file.root file.board
  pub same_game : (qs : List Point) → list_all (is_on file.board) qs ≡ true
      → root_game file.kind (file_image s file).table (file_image s file).root (file_image s file).board
      (map (point_image s file.board.width file.board.height) qs) ≡ root_game file.kind file.table file.root file.board qs
  pub same_wins : KeepsWins s file.board

-- The headline of `image`: where it answers 0, and the input tells its bytes, the output took the image.
abbrev pub ShowsImage : Run → Type 0
ShowsImage run =
    (s : Symmetry) → run.words ≡ image_words s → run.status ≡ 0
    → IfSome run.input.before (λ bytes. IsImagedInput s bytes run.output)
