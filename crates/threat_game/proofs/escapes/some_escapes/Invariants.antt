use Rattle.std.proofs.Common.{◌≡◌}
use Rattle.threat_game.proofs.escapes.some_escapes.Given as goal

-- the view is as before, and the board
abbrev pub invariant-loop-q : goal.invariant-loop-q
invariant-loop-q g l = (g.V.Seen.position l.view ≡ g.V.Seen.position l.fn.view) × (l.board ≡ l.fn.board)
