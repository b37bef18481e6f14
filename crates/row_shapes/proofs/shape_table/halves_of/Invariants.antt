use Rattle.row_shapes.specs.HalfTables.{TellsHalves}
use Rattle.row_shapes.proofs.shape_table.halves_of.Given as goal

-- the halves so far are told
abbrev pub invariant-loop-digits : goal.invariant-loop-digits
invariant-loop-digits l = TellsHalves l.way l.reach l.digits l.halves.items
