-- The command `referee`: its words, what it says of a game, how it goes with a FILE, and what its runs show.
use Rattle.std.specs.Prelude.{◌≡◌, ◌⊎◌, ℕ, ◌≤◌, List, [], ◌∷◌, ◌++◌, codes, length, Option, Some, IfSome}
use Rattle.std.specs.Fmt.{decimal}
use Rattle.game_rules.specs.Grid.{Grid}
use Rattle.game_rules.specs.Play.{IsPosition}
use Rattle.game_rules.specs.declared.RuleKind.{RuleKind}
use Rattle.game_rules.specs.declared.Point.{Point}
use Rattle.strategy_checker.specs.HeldRoots.{HeldTable}
use Rattle.game_referee.specs.declared.GameVerdict.{GameVerdict}
use Rattle.game_referee.specs.declared.ReplayAnswer.{ReplayAnswer}
use Rattle.game_referee.specs.declared.ReplayAnswer.TheVariants.{Follows, Departs}
use Rattle.game_referee.specs.Verdicts.{verdict}
use Rattle.game_referee.specs.Replays.{replay}
use Rattle.game_referee.specs.Followers.{GoesByRoot, IsPlayed, NeverLoses, side_of}
use Rattle.game_referee.specs.Lines.{verdict_line}
use Rattle.text_lines.specs.Lines.{ended}
use Rattle.position_files.specs.declared.GameFile.{GameFile}
use Rattle.position_files.specs.declared.TableFile.{TableFile}
use Rattle.position_files.specs.declared.error.GameError.{GameError}
use Rattle.position_files.specs.declared.error.GameError.TheVariants.{BadLine as BadGame, Unlawful as UnlawfulGame, Memory as NoGame}
use Rattle.position_files.specs.declared.error.FileError.{FileError}
use Rattle.position_files.specs.declared.error.FileError.TheVariants.{BadLine, Unlawful, Memory as NoFile}
use Rattle.position_files.specs.Games.{IsTextOfGame}
use Rattle.position_files.specs.Faults.{IsGameFault}
use Rattle.renju_io.specs.Told.{Takes}
use Rattle.renju_io.specs.Files.{Files}
use Rattle.renju_io.specs.declared.TheConstants.{MAX_INPUT_BYTES}
use Rattle.brain_session.specs.declared.TheConstants.{BRAIN_WORK}
use Rattle.command_base.specs.declared.status.Status.{Status}
use Rattle.command_base.specs.declared.status.Status.TheVariants.{Done}
use Rattle.command_base.specs.Statuses.{status_number}
use Rattle.command_base.specs.Runs.{Change, Run, IsAskedOnly, IsUnbegun}
use Rattle.command_base.specs.Forms.{Command}
use Rattle.command_base.specs.Told.{AnswersTold, EndsTold, IsYielded, ToldCommand}
use Rattle.command_base.specs.Refusals.{IsRefusedText}
use Rattle.file_loading.specs.TableFiles.{IsTableAt}
use Rattle.file_loading.specs.HeldFiles.{IsFileName, IsFit, IsLoaded, IsTableFile, IsUnhinderedShelf, TableFileSays, TellsFile, held_by}
use Rattle.file_loading.specs.HeldFiles.{of_table}

-- the words `referee`
abbrev pub referee_words : List (List ℕ)
referee_words = codes "referee" ∷ []

-- the words `referee FILE`
abbrev pub referee_with_words : List ℕ → List (List ℕ)
referee_with_words name = codes "referee" ∷ name ∷ []

-- the bytes are the text of the game, which begins at a lawful position
pub record IsGameAt (game : GameFile) (input : List ℕ) : Type 0 where
  pub text : IsTextOfGame game input
  pub lawful : IsPosition game.kind game.board

-- the fault of a game, said as of any text
abbrev pub of_game : GameError → FileError
of_game (BadGame n) = BadLine n
of_game (UnlawfulGame why) = Unlawful why
of_game NoGame = NoFile

-- the bytes have this fault as the text of a game
abbrev pub HasGameFault : List ℕ → FileError → Type 0
HasGameFault input error = (fault : GameError) × (error ≡ of_game fault) × IsGameFault input fault

-- the verdict on the game of a text
abbrev pub verdict_on : GameFile → GameVerdict
verdict_on game = verdict game.kind game.board game.moves

-- the verdict is told
pub record IsJudged (game : GameFile) (status : Status) (text : List ℕ) : Type 0 where
  pub ends : status ≡ Done
  pub line : text ≡ verdict_line (verdict_on game)

-- What `referee` says of an input that it has read whole: why the text is refused, or else the verdict.
abbrev pub RefereeSays : List ℕ → Status → List ℕ → Type 0
RefereeSays input status text =
    IsRefusedText (HasGameFault input) status text ⊎ ((game : GameFile) × IsGameAt game input × IsJudged game status text)

-- `referee`, which answers for each game from a lawful position
abbrev pub referee_command : ToldCommand
referee_command = record {
  words = referee_words;
  in_range = Unit {0};
  Says = RefereeSays;
  IsAnswerable = λ input. (game : GameFile) × IsGameAt game input;
  IsAnswer = λ status. status ≡ Done;
}

-- the bytes are the text of a game from a lawful position, and the output took the line of the verdict on it, whole
pub record WritesVerdict (input : List ℕ) (output : Change (Option (List ℕ))) : Type 0 where
  pub game : GameFile
  pub at : IsGameAt game input
  pub whole : Takes output.before (verdict_line (verdict_on game)) output.after

-- What the statuses of `referee` say of an input: 0 that it is a game, whose verdict was written; and of a game it is 0, unless the
-- status is one that stands in place of each.
pub record IsJudgedInput (input : List ℕ) (run : Run) : Type 0 where
  pub judged : run.status ≡ status_number Done → WritesVerdict input run.output
  pub only : (game : GameFile) → IsGameAt game input → (run.status ≡ status_number Done) ⊎ IsYielded run.status

-- The headline of `referee` without a FILE: what its statuses show, where the input tells its bytes.
abbrev pub ShowsVerdict : Run → Type 0
ShowsVerdict run = run.words ≡ referee_words → IfSome run.input.before (λ input. IsJudgedInput input run)

-- With a FILE

-- what is told of a game that was played by the table, or departs from it at move n
abbrev pub replay_line : ReplayAnswer → List ℕ
replay_line Follows = ended (codes "table follows")
replay_line (Departs n) = ended (codes "table departs " ++ decimal n)

-- what is told where the table is of another rule or position
abbrev pub absent_line : List ℕ
absent_line = ended (codes "table absent")

-- the rule and the position of the table are those of the game, and the replay is told
pub record IsReplayed (file : TableFile) (kind : RuleKind) (b : Grid) (ms : List Point) (line : List ℕ) : Type 0 where
  pub same_rule : file.kind ≡ kind
  pub same_board : file.board ≡ b
  pub told : line ≡ replay_line (replay kind file.table file.root b ms)

-- the rule or the position of the table is another one, which is told
pub record IsAbsent (file : TableFile) (kind : RuleKind) (b : Grid) (line : List ℕ) : Type 0 where
  pub differs : file.kind ≡ kind → file.board ≡ b → ⊥
  pub told : line ≡ absent_line

-- what the line says of the game of these moves from the board under the rule beside the table of the file
abbrev pub TellsTable : TableFile → RuleKind → Grid → List Point → List ℕ → Type 0
TellsTable file kind b ms line = IsReplayed file kind b ms line ⊎ IsAbsent file kind b line

-- the verdict is told, and after it the line of the table
pub record IsCompared (file : TableFile) (game : GameFile) (status : Status) (text : List ℕ) : Type 0 where
  pub second : List ℕ
  pub tells : TellsTable file game.kind game.board game.moves second
  pub ends : status ≡ Done
  pub lines : text ≡ verdict_line (verdict_on game) ++ second

-- what `referee FILE` says of an input that it has read whole, where FILE has this table
abbrev pub ComparesSays : TableFile → List ℕ → Status → List ℕ → Type 0
ComparesSays file input status text =
    IsRefusedText (HasGameFault input) status text ⊎ ((game : GameFile) × IsGameAt game input × IsCompared file game status text)

-- the same, said of what is held by the table of a FILE
abbrev pub HeldSays : HeldTable → List ℕ → Status → List ℕ → Type 0
HeldSays held input status text = (file : TableFile) → held ≡ held_by (of_table file) → ComparesSays file input status text

-- the bytes of FILE are the text of a table that is accepted, and only then the input is read, and judged beside it
pub record RefereesByFile (name : List ℕ) (run : Run) : Type 0 where
  pub bytes : List ℕ
  pub loaded : IsLoaded run.shelf name bytes
  pub fits : length bytes ≤ MAX_INPUT_BYTES
  pub file : TableFile
  pub at : IsTableAt file bytes
  pub fit : IsFit BRAIN_WORK file
  pub ends : EndsTold (ComparesSays file) run.input run.output run.status

-- What `referee FILE` does in a run: it asks the shelf once, and judges beside the table of the file, or tells why it does not and
-- leaves the input unasked, or memory ran out before.
pub record IsRefereeWith (name : List ℕ) (run : Run) : Type 0 where
  pub once : IsAskedOnly run.shelf
  pub ends : RefereesByFile name run ⊎ TellsFile (TableFileSays BRAIN_WORK) name run ⊎ IsUnbegun run.input run.output run.status

-- `referee FILE` as a command that is told its input, once FILE is accepted: it answers for each game from a lawful position
abbrev pub compares_command : List ℕ → TableFile → ToldCommand
compares_command name file = record {
  words = referee_with_words name;
  in_range = IsFileName name;
  Says = ComparesSays file;
  IsAnswerable = λ input. (game : GameFile) × IsGameAt game input;
  IsAnswer = λ status. status ≡ Done;
}

-- `referee FILE`, which answers by the table of each file that fits
abbrev pub referee_with_command : List ℕ → Command
referee_with_command name = record {
  words = referee_with_words name;
  in_range = IsFileName name;
  Does = IsRefereeWith name;
  Answers = λ run. (file : TableFile) → IsUnhinderedShelf (λ files. IsTableFile BRAIN_WORK (Some files) name file) run
      → AnswersTold (compares_command name file) run;
}

-- FILE fits, the input is a game, and the output took the verdict and the line of the table, whole. Where that line says that the
-- table is followed, the side of the table did not lose the game, nor one that had ended before the last move, and it is no draw;
-- and where the moves were played as a game, they go by the table: the front of its attacks, and won with as many as the game against
-- it is.
pub record ShowsGame (name : List ℕ) (files : Files) (input : List ℕ) (run : Run) : Type 0 where
  pub file : TableFile
  pub fit : IsTableFile BRAIN_WORK (Some files) name file
  pub game : GameFile
  pub at : IsGameAt game input
  pub second : List ℕ
  pub tells : TellsTable file game.kind game.board game.moves second
  pub whole : Takes run.output.before (verdict_line (verdict_on game) ++ second) run.output.after
  pub goes : second ≡ replay_line Follows → IsPlayed (verdict_on game)
      → GoesByRoot game.kind file.table file.root game.board game.moves
  pub kept : second ≡ replay_line Follows → NeverLoses game.kind (side_of file.root game.board) game.board game.moves

-- The headline of the referee: what status 0 of `referee FILE` shows, where the shelf tells its files and the input its bytes.
abbrev pub ShowsReferee : Run → Type 0
ShowsReferee run =
    (name : List ℕ) → run.words ≡ referee_with_words name → IsFileName name → run.status ≡ 0
    → IfSome run.shelf.before (λ files. IfSome run.input.before (λ input. ShowsGame name files input run))
