use Rattle.std.proofs.Common.{◌≡◌, ◌++◌, filter}
use Rattle.game_rules.proofs.Common.{five, five_points}
use Rattle.row_shapes.proofs.ShortLists.{listed}
use Rattle.row_shapes.proofs.fives.fives_in_short.Given as goal

-- the first found, and the five points among the points left, are all
abbrev pub invariant-loop-p : goal.invariant-loop-p
invariant-loop-p g l = listed l.first ++ filter (five g.R.Rule.KIND l.board l.side) l.p-iterator ≡ five_points g.R.Rule.KIND l.board l.side
