use Rattle.std.proofs.Common.{◌≡◌, ◌++◌, filter_map}
use Rattle.position_commands.proofs.Common.{foul_point, black_fouls}
use Rattle.position_commands.proofs.fouls.black_fouls.Given as goal

-- the fouls so far and those among the points that are left are all
abbrev pub invariant-loop-p : goal.invariant-loop-p
invariant-loop-p g l = (l.board ≡ l.fn.board)
    × (l.fouls.items ++ filter_map (foul_point g.R.Rule.KIND l.fn.board) l.p-iterator ≡ black_fouls g.R.Rule.KIND l.fn.board)
