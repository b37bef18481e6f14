use Rattle.std.proofs.Common.{◌≡◌}
use Rattle.std.specs.List.{list_any}
use Rattle.game_rules.specs.Grid.{points_of}
use Rattle.threat_game.specs.Attacks.{is_last_move}
use Rattle.threat_game.proofs.last_moves.last_move.Given as goal

-- the view is as before, and the board; some point left is a last move exactly where some point is
abbrev pub invariant-loop-p : goal.invariant-loop-p
invariant-loop-p g l =
    (g.V.Seen.position l.view ≡ g.V.Seen.position l.fn.view)
    × (l.board ≡ l.fn.board)
    × (list_any (is_last_move g.R.Rule.KIND (g.V.Seen.position l.fn.view)) l.p-iterator ≡ list_any
    (is_last_move g.R.Rule.KIND (g.V.Seen.position l.fn.view)) (points_of (g.V.Seen.position l.fn.view)))
