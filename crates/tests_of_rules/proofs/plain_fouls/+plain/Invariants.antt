use Rattle.std.proofs.Common.{◌+◌, ◌*◌}
use Rattle.tests_of_rules.proofs.plain_fouls.+plain.Given as goal

abbrev pub decreases-plain_foul : goal.decreases-plain_foul
decreases-plain_foul g l = 4 * l.stones

abbrev pub decreases-stone_foul : goal.decreases-stone_foul
decreases-stone_foul g l = 4 * l.stones + 3

abbrev pub decreases-threes : goal.decreases-threes
decreases-threes g l = 4 * l.stones + 2

abbrev pub decreases-is_three : goal.decreases-is_three
decreases-is_three g l = 4 * l.stones + 1
