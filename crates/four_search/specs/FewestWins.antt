-- What the search for the fewest win by fours tells: its table, that there is none, or that the budget does not suffice.
use Rattle.std.specs.Prelude.{◌≡◌, ℕ, ◌*◌, ◌<◌, ◌≤◌, List, length, Option, Some, None}
use Rattle.game_rules.specs.Grid.{Grid}
use Rattle.game_rules.specs.declared.RuleKind.{RuleKind}
use Rattle.strategy_graph.specs.declared.Node.{Node}
use Rattle.strategy_graph.specs.Tables.{TableOnBoard}
use Rattle.strategy_compiler.specs.Trees.{Tree, StandsFor}
use Rattle.strategy_compiler.specs.Walks.{IsTableOf, Reaches, last}
use Rattle.strategy_compiler.specs.Wins.{IsWrittenWin}
use Rattle.strategy_compiler.specs.declared.wins.WrittenWin.{WrittenWin}
use Rattle.four_search.specs.declared.fewest.FourTable.{FourTable}
use Rattle.four_search.specs.declared.fewest.FewestWin.{FewestWin}
use Rattle.four_search.specs.declared.fewest.FewestWin.TheVariants.{Win, None as NoWin, Spent}
use Rattle.four_search.specs.FourGame.{four_cost}
use Rattle.four_search.specs.Answers.{IsFourWin, IsWithoutFours}
use Rattle.four_search.specs.Plans.{four_plan}

-- The table of a win by fours at b within the limit: its node is the last one and wins with the fewest moves, and the table is that of the
-- plan of this win. It has at most two nodes for each move, each is reached from the last one, and all name points of the board alone.
pub record IsFourTable (rule : RuleKind) (limit : ℕ) (b : Grid) (made : FourTable) : Type 0 where
  pub win : IsFourWin rule limit b made.table (record { node = made.node; moves = made.moves })
  pub plan : IsTableOf (four_plan rule made.moves b) made.table
  pub last_node : made.node ≡ last made.table
  pub few : length made.table ≤ 2 * made.moves
  pub reached : (i : ℕ) → i < length made.table → Reaches made.table (last made.table) i
  pub on_board : TableOnBoard b made.table

-- the budget suffices for the search, and this is the table of the win
pub record IsFoundTable (rule : RuleKind) (limit budget : ℕ) (b : Grid) (found : FourTable) : Type 0 where
  pub fits : four_cost rule limit b ≤ budget
  pub made : IsFourTable rule limit b found

-- what is found at b: the table of the fewest win, no win within the limit, or that there are more positions to look at than the budget
abbrev pub IsFewestWin : RuleKind → ℕ → ℕ → Grid → FewestWin → Type 0
IsFewestWin rule limit budget b (Win made) = IsFoundTable rule limit budget b made
IsFewestWin rule limit budget b NoWin = IsWithoutFours rule limit budget b
IsFewestWin rule limit budget b Spent = budget < four_cost rule limit b

-- the table of the win, if there is one
abbrev pub win_of : FewestWin → Option FourTable
win_of (Win made) = Some made
win_of NoWin = None
win_of Spent = None

-- the table that is made of a win in t, whatever it wins at: with its last node, its moves, and the nodes that the win reaches
pub record IsFinished (t : List Node) (win : WrittenWin) (made : FourTable) : Type 0 where
  pub moves : made.moves ≡ win.moves
  pub last_node : made.node ≡ last made.table
  pub some : 0 < length made.table
  pub few : length made.table ≤ length t
  pub trees : (tree : Tree) → StandsFor t win.node tree → IsTableOf tree made.table
  pub reached : (i : ℕ) → i < length made.table → Reaches made.table (last made.table) i
  pub on_board : (rule : RuleKind) (limit : ℕ) (b : Grid) → IsWrittenWin rule limit b t win → TableOnBoard b made.table
