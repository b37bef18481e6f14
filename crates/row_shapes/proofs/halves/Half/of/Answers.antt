use Rattle.std.proofs.Common.{◌∙◌, refl}
use Rattle.row_shapes.proofs.HalfBits.{bits_told}
use Rattle.row_shapes.proofs.halves.Half.of.Goals as goal

pub returns : goal.returns
returns c = record {
  cells = c.new.ensures.seen ∙ bits_told c.args.first c.args.second c.args.third c.args.fourth c.args.fifth _ _
      (rw (c.black.ensures.black, c.black-2.ensures.black, c.black-3.ensures.black, c.black-4.ensures.black, c.black-5.ensures.black) refl)
      (rw (c.empty.ensures.empty, c.empty-2.ensures.empty, c.empty-3.ensures.empty, c.empty-4.ensures.empty, c.empty-5.ensures.empty) refl);
}
