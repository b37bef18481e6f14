use Rattle.std.proofs.Common.{◌≡◌, drop}
use Rattle.std.specs.List.{list_any}
use Rattle.game_rules.specs.Play.{outcome, goes_on}
use Rattle.threat_game.proofs.attacks.find_double.Given as goal

-- the view is as before, and the board; some point left goes on exactly where some of them all does
abbrev pub invariant-loop-p : goal.invariant-loop-p
invariant-loop-p g l =
    (g.V.Seen.position l.view ≡ g.V.Seen.position l.fn.view)
    × (l.board ≡ l.fn.board)
    × (list_any (λ p. goes_on (outcome g.R.Rule.KIND (g.V.Seen.position l.fn.view) p)) (drop l.p-index l.twos)
    ≡ list_any (λ p. goes_on (outcome g.R.Rule.KIND (g.V.Seen.position l.fn.view) p)) l.twos)
