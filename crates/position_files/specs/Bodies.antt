-- What a table's text has between its first line and its root.
use Rattle.std.specs.Prelude.{◌≡◌, ℕ, List, ◌++◌, length, Some}
use Rattle.game_rules.specs.Grid.{IsBoard}
use Rattle.game_rules.specs.Play.{IsPosition}
use Rattle.strategy_graph.specs.Tables.{IsTable, TableOnBoard}
use Rattle.strategy_graph.specs.Roots.{root_depth}
use Rattle.strategy_graph.specs.declared.roots.Root.{Root}
use Rattle.foul_judge.specs.Lawful.{refusal}
use Rattle.position_files.specs.declared.TableFile.{TableFile}
use Rattle.position_files.specs.declared.error.FileError.{FileError}
use Rattle.position_files.specs.declared.error.FileError.TheVariants.{BadLine, Unlawful, WrongMoves, Memory}
use Rattle.position_files.specs.declared.tables.Body.{Body}
use Rattle.position_files.specs.Positions.{board_lines}
use Rattle.position_files.specs.Tables.{nodes_lines}
use Rattle.position_files.specs.declared.TheConstants.{MAX_MOVES}
use Rattle.strategy_graph.specs.declared.TheConstants.{MAX_NODES}
use Rattle.text_lines.specs.Reading.{IsBetween}

-- the board is one, the nodes name points of the board, and there are enough moves and nodes
pub record BodyFits (least : ℕ) (body : Body) : Type 0 where
  pub board : IsBoard body.board
  pub on_board : TableOnBoard body.board body.table
  pub nodes : IsBetween least MAX_NODES (length body.table)
  pub moves : IsBetween least MAX_MOVES body.moves

-- the file is the body with this root, its position is lawful, and its moves are the depth of the root
pub record IsFinished (body : Body) (root : Root) (file : TableFile) : Type 0 where
  pub file_is : file ≡ record { kind = body.kind; board = body.board; table = body.table; root = root; moves = body.moves }
  pub lawful : IsPosition body.kind body.board
  pub moves : body.moves ≡ root_depth body.table root

-- the lines of a body
abbrev pub body_lines : Body → List (List ℕ)
body_lines body = board_lines body.kind body.board ++ nodes_lines body.table body.moves

-- the lines are those of a body with at least so many moves and nodes, and the nodes are a table
abbrev pub IsBodyLines : ℕ → List (List ℕ) → Type 0
IsBodyLines least ls = (body : Body) × BodyFits least body × IsTable body.table × (ls ≡ body_lines body)

-- What each error says of a body that is read whole, and its root: why the board is no lawful position; or, where it is one, the
-- number of moves that is written and the depth of the root, which differ.
abbrev pub IsFinishFault : Body → Root → FileError → Type 0
IsFinishFault body root (BadLine n) = ⊥
IsFinishFault body root (Unlawful why) = refusal body.kind body.board ≡ Some why
IsFinishFault body root (WrongMoves written counted) =
    IsPosition body.kind body.board × (written ≡ body.moves) × (counted ≡ root_depth body.table root) × (written ≡ counted → ⊥)
IsFinishFault body root Memory = Unit {0}
