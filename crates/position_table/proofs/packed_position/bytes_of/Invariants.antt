use Rattle.position_table.proofs.Packing.{IsPackedTo}
use Rattle.position_table.proofs.packed_position.bytes_of.Given as goal

abbrev pub invariant-loop-k : goal.invariant-loop-k
invariant-loop-k l = IsPackedTo l.cells l.bytes l.k
