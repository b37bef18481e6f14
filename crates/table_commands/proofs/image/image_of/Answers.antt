-- The image has the width and the height of the board, so it is that of the file.
use Rattle.std.proofs.Common.{inl, true, refl}
use Rattle.board_symmetry.proofs.FileImages.{root-fits}
use Rattle.board_symmetry.proofs.ImageGroup.{names_sized, root_sized}
use Rattle.table_commands.proofs.ImageLaws.{image-fit, image-made, image-writable, image-written}
use Rattle.table_commands.proofs.image.image_of.Goals as goal

pub image_table-requires-clause-on_board : goal.image_table-requires-clause-on_board
image_table-requires-clause-on_board c = rw (c.width-width.ensures.width, c.height-height.ensures.height)
    (names_sized c.args.file.now.board c.args.file.now.table c.requires.text.1.on_board)

pub image_root-requires-clause-on_board : goal.image_root-requires-clause-on_board
image_root-requires-clause-on_board c =
    let file = c.args.file.now in
    rw (c.width-width.ensures.width, c.height-height.ensures.height)
    (root_sized file.board file.root (root-fits file.board file.table file.root file.moves c.requires.text.1.root).1)

pub write_table-requires : goal.write_table-requires
write_table-requires c =
    let wide = c.width-width.ensures.width in
    let high = c.height-height.ensures.height in
    let fit = image-fit c.args.s c.args.file.now _ _ wide high c.fits.result true c.fits.ensures.fits c.if-not-fits.false in
    let made = image-made c.args.s c.args.file.now _ _ wide high _ _ _ c.in_ok-image.ensures.image c.in_ok-nodes.ensures.image
    c.in_ok-root.ensures.image in
    let both = image-writable c.args.s c.args.file.now _ c.requires.text.0 c.requires.text.1 fit made in
    record { on_board = both.0; root = both.1 }

pub returns : goal.returns
returns c =
    let wide = c.width-width.ensures.width in
    let high = c.height-height.ensures.height in
    let fit = image-fit c.args.s c.args.file.now _ _ wide high c.fits.result true c.fits.ensures.fits c.if-not-fits.false in
    let made = image-made c.args.s c.args.file.now _ _ wide high _ _ _ c.in_ok-image.ensures.image c.in_ok-nodes.ensures.image
    c.in_ok-root.ensures.image in
    record {
      says = rw c.written.ensures.answer
          (inl (image-written c.args.s c.args.file.now _ c.requires.text.0 _ c.requires.text.1 c.requires.lawful c.requires.moves fit made
          c.in_ok-bytes.ensures.written));
      no_memory = λ unfit. refl;
    }
