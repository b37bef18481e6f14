use Rattle.std.proofs.Common.{◌+◌, ◌*◌}
use Rattle.four_search.proofs.plan.+plan.Given as goal

abbrev pub decreases-compile : goal.decreases-compile
decreases-compile g l = 4 * l.moves + 3

abbrev pub decreases-compile_four : goal.decreases-compile_four
decreases-compile_four g l = 4 * l.moves + 2

abbrev pub decreases-compile_one : goal.decreases-compile_one
decreases-compile_one g l = 4 * l.moves + 1

abbrev pub decreases-compile_after : goal.decreases-compile_after
decreases-compile_after g l = 4 * l.moves + 4
