use Rattle.std.proofs.Common.{ap}
use Rattle.position_table.specs.Packing.{packed}
use Rattle.position_table.proofs.Packing.{packed-tells}
use Rattle.position_table.proofs.Remembering.{test-tells}
use Rattle.position_table.proofs.packed_position.keys_tell_boards.Goals as goal

pub returns-clause-boards : goal.returns-clause-boards
returns-clause-boards c = λ a b in_a in_b. (packed-tells a b in_a in_b, ap packed)

pub returns-clause-test : goal.returns-clause-test
returns-clause-test c = test-tells
