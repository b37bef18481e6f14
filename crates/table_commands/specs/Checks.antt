-- The command `check`: its words, what it says of its input, and what its status 0 shows.
use Rattle.std.specs.Prelude.{◌≡◌, ◌⊎◌, ℕ, ◌≤◌, List, [], ◌∷◌, ◌++◌, codes, Option, IfSome}
use Rattle.std.specs.Fmt.{decimal}
use Rattle.game_rules.specs.Play.{IsPosition}
use Rattle.strategy_graph.specs.Roots.{root_depth, root_arrivals, AcceptedRoot, RootWins}
use Rattle.text_lines.specs.Lines.{ended}
use Rattle.position_files.specs.declared.TableFile.{TableFile}
use Rattle.position_files.specs.Tables.{IsTextOfTable}
use Rattle.position_files.specs.Faults.{IsTableFault}
use Rattle.renju_io.specs.Told.{Takes}
use Rattle.command_base.specs.declared.status.Status.{Status}
use Rattle.command_base.specs.declared.status.Status.TheVariants.{Done, RefusedTable}
use Rattle.file_loading.specs.declared.TheConstants.{MAX_WORK}
use Rattle.command_base.specs.Runs.{Change, Run}
use Rattle.command_base.specs.Told.{ToldCommand}
use Rattle.command_base.specs.Refusals.{IsRefusedText}
use Rattle.file_loading.specs.TableFiles.{IsTableAt, IsRefusedTable, IsSpentWork}

-- an accepted table: its moves and its arrivals
abbrev pub accepted_line : ℕ → ℕ → List ℕ
accepted_line moves arrivals = ended (codes "accepted in " ++ decimal moves ++ codes " moves, " ++ decimal arrivals ++ codes " arrivals")

-- the table is accepted at its root with at most so many arrivals, and wins there within its depth, whatever the replies
pub record IsAcceptedTable (work : ℕ) (file : TableFile) (status : Status) (text : List ℕ) : Type 0 where
  pub accepted : AcceptedRoot file.kind file.table file.root file.board
  pub within : root_arrivals file.kind file.table file.root file.board ≤ work
  pub wins : RootWins file.kind file.root (root_depth file.table file.root) file.board
  pub ends : status ≡ Done
  pub line : text ≡ accepted_line (root_depth file.table file.root) (root_arrivals file.kind file.table file.root file.board)

-- what is said of a table text with so many arrivals allowed
abbrev pub TableSays : ℕ → TableFile → Status → List ℕ → Type 0
TableSays work file status text = IsAcceptedTable work file status text ⊎ IsRefusedTable file status text ⊎ IsSpentWork work file status
    text

-- What `check` says of an input that it has read whole: why the text is refused, or else what is said of the table.
abbrev pub CheckSays : ℕ → List ℕ → Status → List ℕ → Type 0
CheckSays work input status text =
    IsRefusedText (IsTableFault input) status text ⊎ ((file : TableFile) × IsTableAt file input × TableSays work file status text)

-- the words `check WORK`, with WORK in decimal without leading zeros
abbrev pub check_words : ℕ → List (List ℕ)
check_words work = codes "check" ∷ decimal work ∷ []

-- `check WORK`. It answers for a table at a lawful position with its number of moves and no more arrivals than are allowed:
-- it accepts it or refuses it.
abbrev pub check_command : ℕ → ToldCommand
check_command work = record {
  words = check_words work;
  in_range = (1 ≤ work) × (work ≤ MAX_WORK);
  Says = CheckSays work;
  IsAnswerable = λ input. (file : TableFile) × IsTableAt file input × (root_arrivals file.kind file.table file.root file.board ≤ work);
  IsAnswer = λ status. (status ≡ Done) ⊎ (status ≡ RefusedTable);
}

-- The bytes are the text of a rule, a lawful position, a table with its root and a number of moves. The root is accepted there
-- with at most so many arrivals, the number is its depth, and it wins within that number whatever the replies. The output took
-- the accepted line with the number and the arrivals, whole.
pub record IsAcceptedInput (work : ℕ) (bytes : List ℕ) (output : Change (Option (List ℕ))) : Type 0 where
  pub file : TableFile
  pub text : IsTextOfTable file bytes
  pub lawful : IsPosition file.kind file.board
  pub accepted : AcceptedRoot file.kind file.table file.root file.board
  pub within : root_arrivals file.kind file.table file.root file.board ≤ work
  pub depth : file.moves ≡ root_depth file.table file.root
  pub wins : RootWins file.kind file.root file.moves file.board
  pub line : Takes output.before (accepted_line file.moves (root_arrivals file.kind file.table file.root file.board)) output.after

-- The headline of the checker: where `check` answers 0, and the input tells its bytes, they are accepted.
abbrev pub ShowsWin : Run → Type 0
ShowsWin run = (work : ℕ) → run.words ≡ check_words work → 1 ≤ work → work ≤ MAX_WORK → run.status ≡ 0
    → IfSome run.input.before (λ bytes. IsAcceptedInput work bytes run.output)
