use Rattle.std.proofs.Common.{◌≡◌, ◌++◌, filter}
use Rattle.threat_space.proofs.Common.{points_of, may_make_two}
use Rattle.threat_space.proofs.pairs.all_pairs.Given as goal

-- the points found, and those of the points left, are all
abbrev pub invariant-loop-p : goal.invariant-loop-p
invariant-loop-p g l = l.found ++ filter (may_make_two g.R.Rule.KIND l.board l.side) l.p-iterator ≡ filter
    (may_make_two g.R.Rule.KIND l.board l.side) (points_of l.board)
