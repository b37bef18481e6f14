use Rattle.row_shapes.proofs.PlacesAround.{moved_bit}
use Rattle.row_shapes.proofs.places.moved.Goals as goal

pub returns : goal.returns
returns c = record {
  moved = λ i high. rw c.from.ensures (moved_bit c.args.bits c.args.place c.args.reach i c.ranges.bits.fits c.requires.reach high);
}
