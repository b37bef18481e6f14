-- Wins that a search wrote into a compiler, and the tables that are made of them.
use Rattle.std.specs.Prelude.{◌≡◌, ℕ, ◌<◌, ◌≤◌, List, ◌++◌, length, Some, slice_get}
use Rattle.game_rules.specs.Grid.{Grid}
use Rattle.game_rules.specs.declared.RuleKind.{RuleKind}
use Rattle.strategy_graph.specs.declared.Node.{Node}
use Rattle.strategy_graph.specs.Tables.{NamesLower, NamesOnBoard, TableOnBoard, depth}
use Rattle.strategy_graph.specs.Acceptance.{Accepted}
use Rattle.strategy_compiler.specs.declared.compiler.CompileError.{CompileError}
use Rattle.strategy_compiler.specs.declared.compiler.CompileError.TheVariants.{Full, Memory}
use Rattle.strategy_compiler.specs.declared.error.SearchError.{SearchError}
use Rattle.strategy_compiler.specs.declared.error.SearchError.TheVariants.{Full as SearchFull, Memory as SearchMemory}
use Rattle.strategy_compiler.specs.declared.wins.WrittenWin.{WrittenWin}
use Rattle.strategy_compiler.specs.Walks.{Reaches, last}

-- why a search gives no answer where a node is not put in
abbrev pub search_error : CompileError → SearchError
search_error Full = SearchFull
search_error Memory = SearchMemory

-- each node that this one reaches, itself included, names points of the board alone
abbrev pub StaysOnBoard : Grid → List Node → ℕ → Type 0
StaysOnBoard b t i = (k : ℕ) (n : Node) → Reaches t i k → slice_get t k ≡ Some n → NamesOnBoard b n

-- A win at b: its node is one of these nodes and is accepted at b, its depth is the moves of the win, which are at most the
-- limit, and what it reaches names points of the board alone.
pub record IsWrittenWin (rule : RuleKind) (limit : ℕ) (b : Grid) (t : List Node) (win : WrittenWin) : Type 0 where
  pub in_compiler : win.node < length t
  pub accepted : Accepted rule t win.node b
  pub deep : depth t win.node ≡ win.moves
  pub within : win.moves ≤ limit
  pub on_board : StaysOnBoard b t win.node

-- The table of a win at b: its last node is accepted at b, its depth is the moves of the win, which are at least 1, and each of
-- its nodes names points of the board alone.
pub record IsWinTable (rule : RuleKind) (b : Grid) (win : WrittenWin) (t : List Node) : Type 0 where
  pub accepted : Accepted rule t (last t) b
  pub deep : depth t (last t) ≡ win.moves
  pub some_moves : 1 ≤ win.moves
  pub on_board : TableOnBoard b t

-- a win is one in each list of nodes that begins with these
abbrev pub GrowthKeepsWins : Type 0
GrowthKeepsWins =
    (rule : RuleKind) (limit : ℕ) (b : Grid) (t more : List Node) (win : WrittenWin) → NamesLower t → IsWrittenWin rule limit b t win
    → IsWrittenWin rule limit b (t ++ more) win
