-- The table that is made of a node of a compiler.
use Rattle.std.specs.Prelude.{◌≡◌, ◌⊎◌, ℕ, ◌<◌, List, length, All, Some, slice_get}
use Rattle.game_rules.specs.declared.Point.{Point}
use Rattle.strategy_graph.specs.Acceptance.{Accepted}
use Rattle.strategy_graph.specs.Laws.{SaysSame}
use Rattle.strategy_graph.specs.Tables.{answer_at, depth}
use Rattle.strategy_graph.specs.declared.Node.{Node}
use Rattle.strategy_graph.specs.declared.Reply.{Reply}
use Rattle.strategy_graph.specs.declared.TheConstants.{MAX_NODES}
use Rattle.strategy_graph.specs.declared.roots.Root.TheVariants.{Attack}
use Rattle.strategy_compiler.specs.Nodes.{PutsIn, answering_node}
use Rattle.strategy_compiler.specs.Walks.{AreDifferent, Reaches, last}
use Rattle.position_files.specs.Tables.{IsTextOfTable}
use Rattle.position_files.specs.declared.PositionFile.{PositionFile}
use Rattle.position_files.specs.declared.TableFile.{TableFile}
use Rattle.command_base.specs.declared.status.Status.{Status}
use Rattle.command_base.specs.declared.status.Status.TheVariants.{Done, Full}
use Rattle.command_base.specs.Texts.{full_line}

-- the table, with its last node as root, at the position
abbrev pub table_at : PositionFile → ℕ → List Node → TableFile
table_at file moves t = record { kind = file.kind; board = file.board; table = t; root = Attack (last t); moves = moves }

-- The text is that of the table at the position with its last node as root and its depth as moves. The last node says what this node
-- says, and reaches each; no two nodes are equal.
pub record IsTextOfNode (nodes : List Node) (root : ℕ) (file : PositionFile) (text : List ℕ) : Type 0 where
  pub moves : ℕ
  pub table : List Node
  pub same : SaysSame nodes root table (last table)
  pub deep : depth table (last table) ≡ moves
  pub different : AreDifferent table
  pub reached : (i : ℕ) → i < length table → Reaches table (last table) i
  pub written : IsTextOfTable (table_at file moves table) text

-- the node that plays p and has these answers is put in, and the table of it is told
pub record TellsNode (nodes : List Node) (p : Point) (answers : List Reply) (file : PositionFile) (text : List ℕ) : Type 0 where
  pub grown : List Node
  pub root : ℕ
  pub put : PutsIn nodes (answering_node p answers) grown
  pub at : slice_get grown root ≡ Some (answering_node p answers)
  pub listed : All (λ r. answer_at grown root r.at ≡ Some r.next) answers
  pub accepted : Accepted file.kind grown root file.board
  pub told : IsTextOfNode grown root file text

-- the table of that node is told, or that there is no room for it
abbrev pub IsNodeTold : List Node → Point → List Reply → PositionFile → Status → List ℕ → Type 0
IsNodeTold nodes p answers file status text =
    ((status ≡ Done) × TellsNode nodes p answers file text) ⊎ ((status ≡ Full) × (text ≡ full_line) × (length nodes ≡ MAX_NODES))
