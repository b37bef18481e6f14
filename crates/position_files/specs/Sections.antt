-- What stands at the front of bytes: a head, the lines of nodes, or the line of a start; and where bytes leave such lines.
use Rattle.std.specs.Prelude.{◌≡◌, ℕ, ◌+◌, ◌++◌, List, map, length}
use Rattle.std.specs.List.{AllByRecursion}
use Rattle.game_rules.specs.Grid.{Grid, IsBoard}
use Rattle.game_rules.specs.declared.RuleKind.{RuleKind}
use Rattle.strategy_graph.specs.Tables.{Answers, IsTable}
use Rattle.strategy_graph.specs.declared.Node.{Node}
use Rattle.text_lines.specs.Lines.{IsLineOf, LeavesAt, ended, text_of}
use Rattle.position_files.specs.Tables.{node_line, start_line}
use Rattle.position_files.specs.Answers.{NodeFits, StartFits}
use Rattle.position_files.specs.Positions.{board_lines}
use Rattle.position_files.specs.declared.sections.Head.{Head}
use Rattle.position_files.specs.declared.error.HeadError.{HeadError}
use Rattle.position_files.specs.declared.error.HeadError.TheVariants.{BadLine, Memory}

-- What each error says of bytes that are to begin with lines of a kind: that line n, counted from 1, is the first at which they
-- leave such lines; or that there is no memory.
abbrev pub IsSectionFault : (List (List ℕ) → Type 0) → List ℕ → HeadError → Type 0
IsSectionFault IsLines bytes (BadLine n) = (i : ℕ) × (n ≡ i + 1) × LeavesAt IsLines bytes i
IsSectionFault IsLines bytes Memory = Unit {0}

-- the lines are those of a rule and a board
abbrev pub IsBoardLines : List (List ℕ) → Type 0
IsBoardLines ls = (kind : RuleKind) × (b : Grid) × IsBoard b × (ls ≡ board_lines kind b)

-- the bytes are the lines of the rule and the board of the head, and the rest
pub record IsHeadOf (head : Head) (rest bytes : List ℕ) : Type 0 where
  pub board : IsBoard head.board
  pub text : bytes ≡ text_of (board_lines head.kind head.board) ++ rest

-- the nodes are a table of so many nodes, which name points within these bounds
pub record AreNodes (width height count : ℕ) (nodes : List Node) : Type 0 where
  pub table : IsTable nodes
  pub fit : AllByRecursion (NodeFits width height) nodes
  pub counted : length nodes ≡ count

-- the lines are those of such nodes
abbrev pub AreNodeLines : ℕ → ℕ → ℕ → List (List ℕ) → Type 0
AreNodeLines width height count ls = (nodes : List Node) × AreNodes width height count nodes × (ls ≡ map node_line nodes)

-- the bytes are the lines of such nodes, and the rest
pub record IsNodesOf (width height count : ℕ) (found : List Node) (rest bytes : List ℕ) : Type 0 where
  pub nodes : AreNodes width height count found
  pub text : bytes ≡ text_of (map node_line found) ++ rest

-- the lines are the line of a start that names nodes below this number and points within these bounds
abbrev pub IsStartLines : ℕ → ℕ → ℕ → List (List ℕ) → Type 0
IsStartLines width height below ls = IsLineOf (StartFits width height below) start_line ls

-- the bytes are the line of such a start, and the rest
pub record IsStartOf (width height below : ℕ) (found : Answers) (rest bytes : List ℕ) : Type 0 where
  pub start : StartFits width height below found
  pub text : bytes ≡ ended (start_line found) ++ rest
