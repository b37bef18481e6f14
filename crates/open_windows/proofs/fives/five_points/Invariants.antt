use Rattle.std.proofs.Common.{◌≡◌, ◌++◌, filter}
use Rattle.game_rules.proofs.Common.{five, five_points}
use Rattle.open_windows.proofs.fives.five_points.Given as goal

-- the five points found, and those of the points left, are all
abbrev pub invariant-loop-p : goal.invariant-loop-p
invariant-loop-p g l = l.found ++ filter (five g.R.Rule.KIND l.board l.side) l.p-iterator ≡ five_points g.R.Rule.KIND l.board l.side
