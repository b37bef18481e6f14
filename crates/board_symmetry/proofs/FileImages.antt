-- The image of a table as a file has it: it is one again, and has a text.
use Rattle.std.proofs.Common.{◌≡◌, ℕ, true, List, [], ◌∷◌, rules}
use Rattle.std.proofs.lemmas.List.{length-map}
use Rattle.board_symmetry.proofs.Common.{Grid, TableOnBoard, Node, fits, board_image, table_image, root_image, KeepsRoot, IsRoot, Symmetry}
use Rattle.strategy_graph.proofs.Common.{RootOnBoard}
use Rattle.strategy_graph.specs.declared.roots.Root.{Root}
use Rattle.position_files.proofs.Common.{RootFits, IsTextOfTable}
use Rattle.position_files.specs.declared.TableFile.{TableFile}
use Rattle.board_symmetry.proofs.Eight.{turn_of}
use Rattle.board_symmetry.proofs.ImageLaws.{keeps_root}
use Rattle.board_symmetry.proofs.TableImages.{image-below, image-rising, image-on}

module _ (s : Symmetry) (b : Grid) (fit : fits s b.width b.height ≡ true) where
  -- the points that an image names are on the board
  pub image-named : (t : List Node) → TableOnBoard b t → TableOnBoard (board_image s b) (table_image s b.width b.height t)
  image-named [] on = tt
  image-named (n ∷ t) on = (
    record { attack = (turn_of s b.width b.height fit).kept n.attack on.0.attack; replies = image-on s b.width b.height n.replies },
    image-named t on.1,
  )

  -- the image of a root has a text with the image of the table
  pub image-root : (t : List Node) (r : Root) (moves : ℕ) → RootFits b t r moves
      → RootFits (board_image s b) (table_image s b.width b.height t) (root_image s b.width b.height r) moves
  image-root t r moves h = search (rules, length-map, image-rising, image-below, image-on)

-- a root that has a text is one of a table, and names points of the board
pub root-fits : (b : Grid) (t : List Node) (r : Root) (moves : ℕ) → RootFits b t r moves → IsRoot r × RootOnBoard b r
root-fits b t r moves fit = search rules

-- the image of a root of a file
pub file-root : (s : Symmetry) (file : TableFile) (bytes : List ℕ)
    → IsTextOfTable file bytes → fits s file.board.width file.board.height ≡ true → KeepsRoot s file.board file.table file.root
file-root s file bytes text fit =
    let root = root-fits file.board file.table file.root file.moves text.root in
    keeps_root s file.board text.board fit file.table text.table text.on_board file.root root.0 root.1
