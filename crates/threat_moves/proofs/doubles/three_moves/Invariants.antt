use Rattle.std.proofs.Common.{◌≡◌, ◌++◌, filter}
use Rattle.threat_moves.specs.ThreeMoves.{is_three_move, three_moves}
use Rattle.threat_moves.proofs.doubles.three_moves.Given as goal

-- the view is as before, and the board a copy of its board; the three moves found, and those of the points left, are all
abbrev pub invariant-loop-p : goal.invariant-loop-p
invariant-loop-p g l =
    (g.V.Seen.position l.view ≡ g.V.Seen.position l.fn.view)
    × (l.board ≡ g.V.Seen.position l.fn.view)
    × (l.found ++ filter (is_three_move g.R.Rule.KIND (g.V.Seen.position l.fn.view)) l.p-iterator ≡ three_moves g.R.Rule.KIND
    (g.V.Seen.position l.fn.view))
