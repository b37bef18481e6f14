-- The command `defend`: its words, what it says of its input, and what its statuses show.
use Rattle.std.specs.Prelude.{◌≡◌, ◌≢◌, ◌⊎◌, ℕ, ◌≤◌, ◌<◌, List, [], ◌∷◌, ◌++◌, length, codes}
use Rattle.std.specs.Prelude.{Option, Some, None, IfSome}
use Rattle.std.specs.Fmt.{decimal}
use Rattle.game_rules.specs.Games.{WinsAfter}
use Rattle.game_rules.specs.declared.Point.{Point}
use Rattle.strategy_graph.specs.declared.Node.{Node}
use Rattle.strategy_graph.specs.declared.roots.Root.TheVariants.{Defend}
use Rattle.strategy_graph.specs.Tables.{Answers, named, start_depth}
use Rattle.strategy_graph.specs.Acceptance.{AcceptedStart}
use Rattle.strategy_compiler.specs.Trees.{Branches}
use Rattle.strategy_compiler.specs.Walks.{AreDifferent, ReachedFrom}
use Rattle.strategy_compiler.specs.Starts.{IsStartOfBranches}
use Rattle.defence_finder.specs.Defences.{beaten_of, defences_of, first_spent, SufficesAfterEach, IsShortAfter}
use Rattle.defence_finder.specs.Answers.{most_nodes, plans_after}
use Rattle.defence_finder.specs.Lines.{defences_text}
use Rattle.text_lines.specs.Lines.{ended}
use Rattle.text_lines.specs.Spellings.{point_text}
use Rattle.position_files.specs.declared.PositionFile.{PositionFile}
use Rattle.position_files.specs.declared.TableFile.{TableFile}
use Rattle.position_files.specs.Tables.{IsTextOfTable}
use Rattle.renju_io.specs.Told.{Takes}
use Rattle.command_base.specs.declared.status.Status.{Status}
use Rattle.command_base.specs.declared.status.Status.TheVariants.{Done, Spent}
use Rattle.command_base.specs.Statuses.{status_number}
use Rattle.command_base.specs.Runs.{Change, Run}
use Rattle.command_base.specs.Told.{IsYielded}
use Rattle.command_base.specs.Positions.{PositionCommand}
use Rattle.command_base.specs.Searches.{ShowsOfPosition}
use Rattle.position_commands.specs.Fours.{AreLimits}

-- the moves of the side to move that hold against continuous fours within so many moves, in reading order
abbrev pub defences_at : ℕ → PositionFile → List Point
defences_at limit file = defences_of file.kind limit file.board

-- a branch for each move that goes on and does not hold, with the plan of the win by fours with the fewest moves after it
abbrev pub plans_at : ℕ → PositionFile → Branches
plans_at limit file = plans_after file.kind limit file.board (beaten_of file.kind limit file.board)

-- the first move of the side to move after which the budget is not enough for a search for continuous fours, if there is one
abbrev pub first_spent_at : ℕ → ℕ → PositionFile → Option Point
first_spent_at limit nodes file = first_spent file.kind limit nodes file.board

-- the budget is enough for the search after each move that goes on
abbrev pub IsEnoughAfterEach : ℕ → ℕ → PositionFile → Type 0
IsEnoughAfterEach limit nodes file = SufficesAfterEach file.kind limit nodes file.board

-- after this move the budget is not enough
abbrev pub spent_after_line : Point → List ℕ
spent_after_line q = ended (codes "spent " ++ point_text q)

-- the table at the position, entered by the start
abbrev pub start_at : PositionFile → List Node → Answers → TableFile
start_at file table start =
    record { kind = file.kind; board = file.board; table = table; root = Defend start; moves = start_depth table start }

-- The text is that of the one table of the plans: a branch for each move that goes on and does not hold (where none holds, each that goes
-- on), with the plan of the win by fours with the fewest moves after it. Its start is accepted at the position, is no deeper than the
-- limit, and reaches each node; no two nodes are equal, and there are at most two for each empty point and each move of the limit.
pub record IsLostText (limit : ℕ) (file : PositionFile) (text : List ℕ) : Type 0 where
  pub table : List Node
  pub start : Answers
  pub plans : IsStartOfBranches (plans_at limit file) table start
  pub accepted : AcceptedStart file.kind table start file.board
  pub within : start_depth table start ≤ limit
  pub different : AreDifferent table
  pub reached : (k : ℕ) → k < length table → ReachedFrom table (named start) k
  pub few : length table ≤ most_nodes limit file.board
  pub written : IsTextOfTable (start_at file table start) text

-- a position and a limit have one such text
abbrev pub LostTextIsOne : Type 0
LostTextIsOne = (limit : ℕ) (file : PositionFile) (text other : List ℕ) → IsLostText limit file text → IsLostText limit file other
    → text ≡ other

-- the budget is enough after each move, and some move holds: those that hold are listed
pub record IsDefended (limit nodes : ℕ) (file : PositionFile) (status : Status) (text : List ℕ) : Type 0 where
  pub enough : first_spent_at limit nodes file ≡ None
  pub some : defences_at limit file ≢ []
  pub ends : status ≡ Done
  pub list : text ≡ defences_text (defences_at limit file)

-- the budget is enough after each move, and no move holds: the text of a table is written by which the other side wins
pub record IsUndefended (limit nodes : ℕ) (file : PositionFile) (status : Status) (text : List ℕ) : Type 0 where
  pub enough : first_spent_at limit nodes file ≡ None
  pub none : defences_at limit file ≡ []
  pub ends : status ≡ Done
  pub lost : IsLostText limit file text

-- the budget is not enough after some move, and the first such move is told
pub record IsSpentAfter (limit nodes : ℕ) (file : PositionFile) (status : Status) (text : List ℕ) : Type 0 where
  pub at : Point
  pub first : first_spent_at limit nodes file ≡ Some at
  pub ends : status ≡ Spent
  pub line : text ≡ spent_after_line at

-- what is said of a position within so many moves and with so many positions to look at after each move
abbrev pub DefenceSays : ℕ → ℕ → PositionFile → Status → List ℕ → Type 0
DefenceSays limit nodes file status text =
    IsDefended limit nodes file status text ⊎ IsUndefended limit nodes file status text ⊎ IsSpentAfter limit nodes file status text

-- the words `defend DEPTH NODES`, with both numbers in decimal without leading zeros
abbrev pub defend_words : ℕ → ℕ → List (List ℕ)
defend_words depth nodes = codes "defend" ∷ decimal depth ∷ decimal nodes ∷ []

-- `defend DEPTH NODES`. It answers for a lawful position where the budget is enough after each move that goes on.
abbrev pub defend_command : ℕ → ℕ → PositionCommand
defend_command depth nodes = record {
  words = defend_words depth nodes;
  in_range = AreLimits depth nodes;
  Says = DefenceSays depth nodes;
  IsEnough = IsEnoughAfterEach depth nodes;
  IsAnswer = λ status. status ≡ Done;
}

-- some move holds, and the output took the list of exactly those that hold, whole
pub record ListsDefences (limit : ℕ) (file : PositionFile) (output : Change (Option (List ℕ))) : Type 0 where
  pub some : defences_at limit file ≢ []
  pub whole : Takes output.before (defences_text (defences_at limit file)) output.after

-- No move holds, and the output took the text of a table whose start is accepted, whole: the other side wins within the limit, whatever
-- is played first.
pub record WritesStart (limit : ℕ) (file : PositionFile) (output : Change (Option (List ℕ))) : Type 0 where
  pub none : defences_at limit file ≡ []
  pub text : List ℕ
  pub lost : IsLostText limit file text
  pub whole : Takes output.before text output.after
  pub loses : WinsAfter file.kind limit file.board

-- the statuses of `defend` that speak of a position
abbrev pub SpeaksOfDefence : ℕ → Type 0
SpeaksOfDefence number = (number ≡ status_number Done) ⊎ (number ≡ status_number Spent)

-- What the statuses of `defend` say of the lawful position that is the input: 0 that the budget is enough after each move that goes
-- on, and the moves that hold are listed, or a table is written by which the other side wins; 5 that it is not enough after some
-- move that goes on. One of them comes, so each comes exactly there, unless the status is one that stands in place of each.
pub record IsJudgedDefence (limit nodes : ℕ) (file : PositionFile) (run : Run) : Type 0 where
  pub found : run.status ≡ status_number Done
      → IsEnoughAfterEach limit nodes file × (ListsDefences limit file run.output ⊎ WritesStart limit file run.output)
  pub spent : run.status ≡ status_number Spent → (q : Point) × IsShortAfter file.kind limit nodes file.board q
  pub only : SpeaksOfDefence run.status ⊎ IsYielded run.status

-- The headline of `defend`: what its statuses show, where the input tells its bytes.
abbrev pub ShowsDefence : Run → Type 0
ShowsDefence run =
    (depth nodes : ℕ) → run.words ≡ defend_words depth nodes → AreLimits depth nodes
    → IfSome run.input.before (ShowsOfPosition (SpeaksOfDefence run.status) (λ file. IsJudgedDefence depth nodes file run))
