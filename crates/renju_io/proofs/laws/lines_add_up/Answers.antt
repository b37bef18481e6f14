use Rattle.renju_io.proofs.WholeLines.{told_adds_up, told_are_whole, told_to_the_end}
use Rattle.renju_io.proofs.laws.lines_add_up.Goals as goal

pub returns-clause-adds_up : goal.returns-clause-adds_up
returns-clause-adds_up c = told_adds_up

pub returns-clause-whole : goal.returns-clause-whole
returns-clause-whole c = told_are_whole

pub returns-clause-to_the_end : goal.returns-clause-to_the_end
returns-clause-to_the_end c = told_to_the_end
