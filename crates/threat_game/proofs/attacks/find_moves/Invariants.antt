use Rattle.std.proofs.Common.{◌≡◌, ◌++◌}
use Rattle.std.specs.List.{list_all, filter}
use Rattle.game_rules.specs.Grid.{points_of}
use Rattle.threat_game.specs.Attacks.{is_tried, is_settled_move, tried_moves}
use Rattle.threat_game.proofs.attacks.find_moves.Given as goal

-- the view is as before, and the board; the moves found, and those of the points left, are all; where the points left are settled, all
-- are
abbrev pub invariant-loop-p : goal.invariant-loop-p
invariant-loop-p g l =
    (g.V.Seen.position l.view ≡ g.V.Seen.position l.fn.view)
    × (l.board ≡ l.fn.board)
    × (l.moves ++ filter (is_tried g.R.Rule.KIND (g.V.Seen.position l.fn.view)) l.p-iterator ≡ tried_moves g.R.Rule.KIND
    (g.V.Seen.position l.fn.view))
    × (list_all (is_settled_move g.R.Rule.KIND (g.V.Seen.position l.fn.view)) l.p-iterator ≡ list_all
    (is_settled_move g.R.Rule.KIND (g.V.Seen.position l.fn.view)) (points_of (g.V.Seen.position l.fn.view)))
