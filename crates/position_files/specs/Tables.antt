-- The text of a table, line by line, and which bytes are one.
use Rattle.std.specs.Prelude.{◌≡◌, ℕ, ◌+◌, ◌≤◌, true, List, [], ◌∷◌, ◌++◌, map, length, codes}
use Rattle.std.specs.List.{flat_map}
use Rattle.std.specs.Fmt.{decimal}
use Rattle.game_rules.specs.Grid.{Grid, IsBoard}
use Rattle.game_rules.specs.declared.RuleKind.{RuleKind}
use Rattle.strategy_graph.specs.Tables.{Answers, answers_of, IsTable, IsStart, names_below, RepliesOn, TableOnBoard}
use Rattle.strategy_graph.specs.declared.Reply.{Reply}
use Rattle.strategy_graph.specs.declared.Rest.{Rest}
use Rattle.strategy_graph.specs.declared.Rest.TheVariants.{Wins, To, Nothing}
use Rattle.strategy_graph.specs.declared.Node.{Node}
use Rattle.strategy_graph.specs.declared.roots.Root.{Root}
use Rattle.strategy_graph.specs.declared.roots.Root.TheVariants.{Attack, Defend}
use Rattle.position_files.specs.declared.TableFile.{TableFile}
use Rattle.position_files.specs.declared.TheConstants.{MAX_MOVES}
use Rattle.text_lines.specs.Lines.{text_of}
use Rattle.text_lines.specs.Spellings.{space, point_text}
use Rattle.position_files.specs.Positions.{board_lines}

-- what answers the replies that are not listed
abbrev pub rest_text : Rest → List ℕ
rest_text Wins = codes "wins"
rest_text (To j) = codes "rest " ++ decimal j
rest_text Nothing = codes "only"

-- a reply that is listed, and the node that answers it
abbrev pub reply_text : Reply → List ℕ
reply_text r = point_text r.at ++ (codes ">" ++ decimal r.next)

-- replies, each after a space
abbrev pub replies_text : List Reply → List ℕ
replies_text rs = flat_map (λ r. codes " " ++ reply_text r) rs

-- the rest, and the replies that are listed
abbrev pub answers_text : Answers → List ℕ
answers_text a = rest_text a.rest ++ replies_text a.replies

-- the line of a node: its attack, and its answers
abbrev pub node_line : Node → List ℕ
node_line n = point_text n.attack ++ (codes " " ++ answers_text (answers_of n))

-- the line of a start
abbrev pub start_line : Answers → List ℕ
start_line a = codes "start " ++ answers_text a

-- the lines of the numbers of moves and of nodes, and of the nodes
unfoldable pub nodes_lines : List Node → ℕ → List (List ℕ)
nodes_lines nodes moves = (codes "moves " ++ decimal moves) ∷ (codes "nodes " ++ decimal (length nodes)) ∷ map node_line nodes

-- The text of a table. One whose root is a node is in version 1, and its root is the last node; one whose root is a start is in
-- version 2, and ends with the start.
unfoldable pub table_text : RuleKind → Grid → List Node → Root → ℕ → List ℕ
table_text kind b t (Attack r) moves = text_of (codes "renju-table 1" ∷ board_lines kind b ++ nodes_lines t moves)
table_text kind b t (Defend a) moves = text_of (codes "renju-table 2" ∷ board_lines kind b ++ nodes_lines t moves ++ start_line a ∷ [])

-- The root and the number of moves have a text with these nodes: a node is the last one, and has 1 to MAX_MOVES moves; a start
-- names nodes of the table and points of the board, and has 0 to MAX_MOVES moves.
abbrev pub RootFits : Grid → List Node → Root → ℕ → Type 0
RootFits b nodes (Attack r) moves = (length nodes ≡ r + 1) × (1 ≤ moves) × (moves ≤ MAX_MOVES)
RootFits b nodes (Defend a) moves = IsStart a × (names_below a (length nodes) ≡ true) × RepliesOn b a.replies × (moves ≤ MAX_MOVES)

-- the bytes are the text of the table
pub record IsTextOfTable (file : TableFile) (bytes : List ℕ) : Type 0 where
  pub board : IsBoard file.board
  pub table : IsTable file.table
  pub on_board : TableOnBoard file.board file.table
  pub root : RootFits file.board file.table file.root file.moves
  pub spelled : bytes ≡ table_text file.kind file.board file.table file.root file.moves

-- the bytes are the text of some table
abbrev pub IsTableText : List ℕ → Type 0
IsTableText bytes = (file : TableFile) × IsTextOfTable file bytes
