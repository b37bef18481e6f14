use Rattle.row_shapes.proofs.ReachLaw.{reach_law}
use Rattle.row_shapes.proofs.laws.shapes_have_reach.Goals as goal

pub returns : goal.returns
returns c = record { reach = reach_law }
