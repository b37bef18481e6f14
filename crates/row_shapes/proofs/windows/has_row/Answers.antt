use Rattle.row_shapes.proofs.RowBits.{row_decides}
use Rattle.row_shapes.proofs.windows.has_row.Goals as goal

pub returns : goal.returns
returns c = record { row = row_decides c.args.bits c.ranges.bits.fits }
