use Rattle.std.proofs.Common.{arith}
use Rattle.std.proofs.lemmas.Grind.{common_steps}
use Rattle.renju_io.proofs.FileNames.{file_under-found}
use Rattle.renju_io.proofs.memory_shelf.copy_file.Goals as goal

pub returns-in_default-clause-err : goal.returns-in_default-clause-err
returns-in_default-clause-err c =
    let under = file_under-found c.args.name.now c.args.files.now _ c.find_file.ensures.first in grind (arith, common_steps, under)

pub returns-then-len-gt-MAX_INPUT_BYTES-clause-err : goal.returns-then-len-gt-MAX_INPUT_BYTES-clause-err
returns-then-len-gt-MAX_INPUT_BYTES-clause-err c =
    let under = file_under-found c.args.name.now c.args.files.now _ c.in-Some.ensures.first in grind (arith, common_steps, under)

pub returns-in-Ok-clause-ok : goal.returns-in-Ok-clause-ok
returns-in-Ok-clause-ok c =
    let under = file_under-found c.args.name.now c.args.files.now _ c.in-Some.ensures.first in grind (arith, common_steps, under)
