-- The command `fours`: its words, what it says of its input, and what its statuses 0, 9 and 5 show.
use Rattle.std.specs.Prelude.{◌≡◌, ◌⊎◌, ℕ, ◌*◌, ◌≤◌, ◌<◌, List, [], ◌∷◌, length, codes, Option, IfSome}
use Rattle.std.specs.Fmt.{decimal}
use Rattle.game_rules.specs.Games.{WinsByFours}
use Rattle.strategy_graph.specs.declared.Node.{Node}
use Rattle.strategy_graph.specs.declared.roots.Root.TheVariants.{Attack}
use Rattle.strategy_graph.specs.Tables.{depth}
use Rattle.strategy_graph.specs.Acceptance.{Accepted}
use Rattle.strategy_graph.specs.Arrivals.{arrivals}
use Rattle.strategy_compiler.specs.Walks.{IsTableOf, last, AreDifferent, Reaches}
use Rattle.four_search.specs.declared.TheConstants.{MAX_DEPTH}
use Rattle.four_search.specs.FourGame.{four_cost}
use Rattle.four_search.specs.Answers.{IsFewestByFours}
use Rattle.four_search.specs.Plans.{four_plan}
use Rattle.position_files.specs.declared.PositionFile.{PositionFile}
use Rattle.position_files.specs.declared.TableFile.{TableFile}
use Rattle.position_files.specs.Tables.{IsTextOfTable}
use Rattle.renju_io.specs.Told.{Takes}
use Rattle.command_base.specs.declared.status.Status.{Status}
use Rattle.command_base.specs.declared.status.Status.TheVariants.{Done, Spent, NotFound}
use Rattle.command_base.specs.declared.TheConstants.{MAX_SEARCHED}
use Rattle.command_base.specs.Texts.{spent_line, none_line}
use Rattle.command_base.specs.Runs.{Change, Run}
use Rattle.command_base.specs.Positions.{PositionCommand}
use Rattle.command_base.specs.Searches.{SpeaksOfPosition, IsSearched, ShowsOfPosition}

-- The table of the plan of a win by fours with so many moves: its last node is accepted at the position, is as deep as the
-- win has moves, and has at most so many arrivals for each of them as the board has points. It has at most two nodes for each.
pub record IsFourTable (file : PositionFile) (moves : ℕ) (table : List Node) : Type 0 where
  pub plan : IsTableOf (four_plan file.kind moves file.board) table
  pub accepted : Accepted file.kind table (last table) file.board
  pub deep : depth table (last table) ≡ moves
  pub short : arrivals file.kind table (last table) file.board ≤ file.board.width * file.board.height * moves
  pub few : length table ≤ 2 * moves

-- the table, with its last node as root, at the position
abbrev pub table_at : PositionFile → ℕ → List Node → TableFile
table_at file moves table = record { kind = file.kind; board = file.board; table = table; root = Attack (last table); moves = moves }

-- the text is that of the table of a win by fours with the fewest moves, no more than the limit
pub record IsFourText (limit : ℕ) (file : PositionFile) (text : List ℕ) : Type 0 where
  pub moves : ℕ
  pub table : List Node
  pub within : moves ≤ limit
  pub fewest : IsFewestByFours file.kind moves file.board
  pub made : IsFourTable file moves table
  pub written : IsTextOfTable (table_at file moves table) text

-- The text is that of a table at the position whose last node is accepted there, is as deep as the number of moves, no more than
-- the limit, and reaches each node; no two nodes are equal.
pub record IsWinText (limit : ℕ) (file : PositionFile) (text : List ℕ) : Type 0 where
  pub moves : ℕ
  pub table : List Node
  pub within : moves ≤ limit
  pub accepted : Accepted file.kind table (last table) file.board
  pub deep : depth table (last table) ≡ moves
  pub different : AreDifferent table
  pub reached : (i : ℕ) → i < length table → Reaches table (last table) i
  pub written : IsTextOfTable (table_at file moves table) text

-- the text is that of a win, and its table has at most so many nodes
abbrev pub IsShortWinText : ℕ → ℕ → PositionFile → List ℕ → Type 0
IsShortWinText limit most file text = (win : IsWinText limit file text) × (length win.table ≤ most)

-- there is a win by fours and the budget is enough for the search: the text of its table is written
pub record IsFoundWin (limit nodes : ℕ) (file : PositionFile) (status : Status) (text : List ℕ) : Type 0 where
  pub enough : four_cost file.kind limit file.board ≤ nodes
  pub win : IsFourText limit file text
  pub ends : status ≡ Done

-- there is no win by fours, and the budget is enough for the search
pub record IsDenied (limit nodes : ℕ) (file : PositionFile) (status : Status) (text : List ℕ) : Type 0 where
  pub enough : four_cost file.kind limit file.board ≤ nodes
  pub none : ¬ WinsByFours file.kind limit file.board
  pub ends : status ≡ NotFound
  pub line : text ≡ none_line

-- there are more positions to look at than the budget
pub record IsSpentBudget (limit nodes : ℕ) (file : PositionFile) (status : Status) (text : List ℕ) : Type 0 where
  pub more : nodes < four_cost file.kind limit file.board
  pub ends : status ≡ Spent
  pub line : text ≡ spent_line

-- what is said of a position within so many moves and with so many positions to look at
abbrev pub SearchSays : ℕ → ℕ → PositionFile → Status → List ℕ → Type 0
SearchSays limit nodes file status text = IsFoundWin limit nodes file status text ⊎ IsDenied limit nodes file status text ⊎ IsSpentBudget
    limit nodes file status text

-- the words `fours DEPTH NODES`, with both numbers in decimal without leading zeros
abbrev pub fours_words : ℕ → ℕ → List (List ℕ)
fours_words depth nodes = codes "fours" ∷ decimal depth ∷ decimal nodes ∷ []

-- DEPTH is from 1 to MAX_DEPTH, and NODES from 1 to MAX_SEARCHED
abbrev pub AreLimits : ℕ → ℕ → Type 0
AreLimits depth nodes = (1 ≤ depth) × (depth ≤ MAX_DEPTH) × (1 ≤ nodes) × (nodes ≤ MAX_SEARCHED)

-- `fours DEPTH NODES`. It answers for a lawful position with no more positions to look at than are allowed: it finds a win or
-- none.
abbrev pub fours_command : ℕ → ℕ → PositionCommand
fours_command depth nodes = record {
  words = fours_words depth nodes;
  in_range = AreLimits depth nodes;
  Says = SearchSays depth nodes;
  IsEnough = λ file. four_cost file.kind depth file.board ≤ nodes;
  IsAnswer = λ status. (status ≡ Done) ⊎ (status ≡ NotFound);
}

-- the output took the text of the table of the win with the fewest moves, whole
pub record WritesWin (limit : ℕ) (file : PositionFile) (output : Change (Option (List ℕ))) : Type 0 where
  pub text : List ℕ
  pub win : IsFourText limit file text
  pub whole : Takes output.before text output.after

-- What the statuses of `fours` say of the lawful position that is the input: 0 that there is a win by fours and the budget is
-- enough, and its table is written; 9 that there is none and the budget is enough; 5 that the budget is not enough.
abbrev pub IsSearchedByFours : ℕ → ℕ → PositionFile → Run → Type 0
IsSearchedByFours limit nodes file run =
    IsSearched (four_cost file.kind limit file.board) nodes (WritesWin limit file run.output) (¬ WinsByFours file.kind limit file.board) run

-- The headline of the search: what the statuses of `fours` show, where the input tells its bytes.
abbrev pub ShowsSearch : Run → Type 0
ShowsSearch run =
    (depth nodes : ℕ) → run.words ≡ fours_words depth nodes → AreLimits depth nodes
    → IfSome run.input.before (ShowsOfPosition (SpeaksOfPosition run.status) (λ file. IsSearchedByFours depth nodes file run))
