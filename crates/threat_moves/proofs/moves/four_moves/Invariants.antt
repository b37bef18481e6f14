use Rattle.std.proofs.Common.{◌≡◌, ◌++◌, filter}
use Rattle.threat_moves.specs.FourMoves.{is_four_move, four_moves}
use Rattle.threat_moves.proofs.moves.four_moves.Given as goal

-- the view is as before; the four moves found, and those of the points left, are all
abbrev pub invariant-loop-p : goal.invariant-loop-p
invariant-loop-p g l = (g.V.Seen.position l.view ≡ g.V.Seen.position l.fn.view)
    × (l.found ++ filter (is_four_move g.R.Rule.KIND (g.V.Seen.position l.fn.view)) l.p-iterator ≡ four_moves g.R.Rule.KIND
    (g.V.Seen.position l.fn.view))
