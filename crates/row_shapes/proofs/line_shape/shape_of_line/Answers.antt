use Rattle.std.proofs.Common.{refl}
use Rattle.row_shapes.proofs.Common.{seen}
use Rattle.row_shapes.proofs.HalfShapes.{five_told, over_told, straight_told, three_told}
use Rattle.row_shapes.proofs.line_shape.shape_of_line.Goals as goal

pub returns : goal.returns
returns c = record {
  shape = λ b p sees.
      let five = five_told (seen c.args.ahead.now) (seen c.args.behind.now) b p sees c.args.any in
      let over = over_told (seen c.args.ahead.now) (seen c.args.behind.now) b p sees in
      let straight = straight_told (seen c.args.ahead.now) (seen c.args.behind.now) b p sees c.args.any in
      let three = three_told (seen c.args.ahead.now) (seen c.args.behind.now) b p sees c.args.any in
      let fours = c.fours.ensures.fours b p sees in
      rw (
        five,
        over,
        fours,
        straight,
        three,
        c.is_win.ensures.wins,
        c.is_open_four.ensures.open,
        c.bit.ensures.bit,
        c.bit-2.ensures.bit,
        c.three_place.ensures.place,
        c.three_place-2.ensures.place,
        c.args.ahead.now.near_told,
        c.args.behind.now.near_told,
      ) refl;
}
