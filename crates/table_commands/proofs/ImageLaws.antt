-- The command `image`: its answers, and what its status 0 shows.
use Rattle.std.proofs.Common.{◌≡◌, inl, inr, sym, ap, subst, ◌∙◌, ℕ, Bool, true, List, refl, IfSome, rules}
use Rattle.std.proofs.lemmas.Bool.{both_ways}
use Rattle.game_rules.proofs.Common.{IsPosition, Grid}
use Rattle.strategy_graph.proofs.Common.{root_depth, TableOnBoard}
use Rattle.table_commands.proofs.Common.{Node, TableFile, Takes, Status, Done, RefusedText, status_number, Run, IsTold, IsTableAt}
use Rattle.table_commands.proofs.Common.{ImagedFileSays, ImageSays, image_command, IsImage, IsImagedInput}
use Rattle.strategy_graph.specs.declared.roots.Root.{Root}
use Rattle.position_files.proofs.Common.{IsTextOfTable, RootFits}
use Rattle.position_files.proofs.ReadBack.{table-read-back}
use Rattle.board_symmetry.specs.Points.{fits, board_image}
use Rattle.board_symmetry.specs.Images.{table_image, root_image}
use Rattle.board_symmetry.specs.Files.{file_image}
use Rattle.board_symmetry.specs.declared.symmetry.Symmetry.{Symmetry}
use Rattle.board_symmetry.proofs.FileImages.{file-root, image-named, image-root}
use Rattle.board_symmetry.proofs.ImageLaws.{keeps_positions, keeps_wins}
use Rattle.command_base.proofs.ToldLaws.{done-told}

-- what is said of a text whose board the symmetry fits is an answer
pub image-answers : (s : Symmetry) (bytes : List ℕ) → (image_command s).IsAnswerable bytes → (status : Status) (text : List ℕ)
    → ImageSays s bytes status text → (image_command s).IsAnswer status
image-answers s bytes can status text (inl refused) =
    let only = table-read-back can.0 bytes can.1.text can.1.lawful can.1.moves in
    absurd (refused.cause (only.no_fault refused.error refused.fault))
image-answers s bytes can status text (inr said) = by-saying said.2 where
  by-saying : ImagedFileSays s said.0 status text → status ≡ Done
  by-saying (inl image) = image.ends
  by-saying (inr unfit) =
      let only = table-read-back can.0 bytes can.1.text can.1.lawful can.1.moves in
      let same : said.0 ≡ can.0 = only.no_other said.0 said.1.text in
      absurd (both_ways _ unfit.unfit (subst (λ (f : TableFile). fits s f.board.width f.board.height ≡ true) (sym same) can.2))

-- ---- the image as it is made, where the code has the width and the height

module _ (s : Symmetry) (file : TableFile) (w h : ℕ) (wide : w ≡ file.board.width) (high : h ≡ file.board.height) where
  pub image-fit : (answer r : Bool) → answer ≡ fits s w h → answer ≡ r → fits s file.board.width file.board.height ≡ r
  image-fit answer r told is = (λ i. fits s (sym wide i) (sym high i)) ∙ sym told ∙ is

  pub image-made : (board : Grid) (table : List Node) (root : Root)
      → board ≡ board_image s file.board → table ≡ table_image s w h file.table → root ≡ root_image s w h file.root
      → record { kind = file.kind; board = board; table = table; root = root; moves = file.moves } ≡ file_image s file
  image-made board table root boards tables roots = search rules

-- it has a text
pub image-writable : (s : Symmetry) (file made : TableFile) (bytes : List ℕ) → IsTextOfTable file bytes
    → fits s file.board.width file.board.height ≡ true
    → made ≡ file_image s file → TableOnBoard made.board made.table × RootFits made.board made.table made.root made.moves
image-writable s file made bytes read fit is =
    rw is (image-named s file.board fit file.table read.on_board, image-root s file.board fit file.table file.root file.moves read.root)

-- what is written is the text of the image
pub image-written : (s : Symmetry) (file made : TableFile) (bytes text : List ℕ)
    → IsTextOfTable file bytes → IsPosition file.kind file.board → file.moves ≡ root_depth file.table file.root
    → fits s file.board.width file.board.height ≡ true → made ≡ file_image s file → IsTextOfTable made text → IsImage s file Done text
image-written s file made bytes text read lawful moves fit is written = record {
  fitting = fit;
  ends = refl;
  image = record {
    text = rw is at written;
    lawful = (keeps_positions s file.board read.board fit file.kind).1 lawful;
    moves = moves ∙ sym (file-root s file bytes read fit).same_depth;
  };
}

-- ---- status 0

module _ (s : Symmetry) (run : Run) (zero : run.status ≡ 0) where
  -- a text that is refused ends with another
  not-refused : (status : Status) → run.status ≡ status_number status → status ≡ RefusedText → ⊥
  not-refused status ends is = absurd (let no : 0 ≡ 3 = sym zero ∙ ends ∙ ap status_number is in cc)

  imaged : (bytes text : List ℕ) (file : TableFile) → IsTableAt file bytes → (status : Status) → IsImage s file status text
      → Takes run.output.before text run.output.after → IsImagedInput s bytes run.output
  imaged bytes text file at status image whole =
      let root = file-root s file bytes at.text image.fitting in
      record {
        file = file;
        table = at;
        fitting = image.fitting;
        text = text;
        image = image.image;
        whole = whole;
        same_accepted = root.same_accepted file.kind;
        same_arrivals = root.same_arrivals file.kind;
        same_game = root.same_game file.kind;
        same_wins = keeps_wins s file.board at.text.board image.fitting;
      }

  by-saying : (bytes : List ℕ) (status : Status) (text : List ℕ) → run.status ≡ status_number status
      → Takes run.output.before text run.output.after → ImageSays s bytes status text → IsImagedInput s bytes run.output
  by-saying bytes status text ends whole (inl refused) = absurd (not-refused status ends refused.ends)
  by-saying bytes status text ends whole (inr said) = by-file said.2 where
    by-file : ImagedFileSays s said.0 status text → IsImagedInput s bytes run.output
    by-file (inl image) = imaged bytes text said.0 said.1 status image whole
    by-file (inr unfit) = absurd (not-refused status ends unfit.ends)

  -- what `image` did in a run that ends with 0
  pub image-shown : IsTold (ImageSays s) run → IfSome run.input.before (λ bytes. IsImagedInput s bytes run.output)
  image-shown = done-told (ImageSays s) (λ bytes. IsImagedInput s bytes run.output) run zero by-saying
