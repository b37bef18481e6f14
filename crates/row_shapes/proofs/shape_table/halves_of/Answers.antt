use Rattle.row_shapes.proofs.HalfTables.{halves_push}
use Rattle.row_shapes.proofs.shape_table.halves_of.Goals as goal

pub loop-digits-preserved : goal.loop-digits-preserved
loop-digits-preserved c = rw c.in_ok-push.ensures.items
    (halves_push c.args.way c.args.reach c.loop-digits.digits c.loop-digits.halves.items c.of_digits.result c.loop-digits.invariant
    c.of_digits.ensures.cells)
