-- The image of a table as a file has it.
use Rattle.position_files.specs.declared.TableFile.{TableFile}
use Rattle.board_symmetry.specs.Points.{board_image}
use Rattle.board_symmetry.specs.Images.{table_image, root_image}
use Rattle.board_symmetry.specs.declared.symmetry.Symmetry.{Symmetry}

-- the same rule and number of moves, with the images of the board, of the table and of its root
abbrev pub file_image : Symmetry → TableFile → TableFile
file_image s file = record {
  kind = file.kind;
  board = board_image s file.board;
  table = table_image s file.board.width file.board.height file.table;
  root = root_image s file.board.width file.board.height file.root;
  moves = file.moves;
}
