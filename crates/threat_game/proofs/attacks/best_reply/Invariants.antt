use Rattle.std.proofs.Common.{◌≡◌, ◌||◌}
use Rattle.std.specs.List.{list_any}
use Rattle.game_rules.specs.Play.{outcome, goes_on, saves}
use Rattle.threat_game.specs.Attacks.{has_reply, has_saving}
use Rattle.threat_game.proofs.attacks.best_reply.Given as goal

-- the view is as before; some point left goes on exactly where some point does, and so with those that save
abbrev pub invariant-loop-q : goal.invariant-loop-q
invariant-loop-q g l =
    (g.V.Seen.position l.view ≡ g.V.Seen.position l.fn.view)
    × (list_any (λ q. goes_on (outcome g.R.Rule.KIND (g.V.Seen.position l.fn.view) q)) l.q-iterator ≡ has_reply g.R.Rule.KIND
    (g.V.Seen.position l.fn.view))
    × ((l.saved || list_any (λ q. saves (outcome g.R.Rule.KIND (g.V.Seen.position l.fn.view) q)) l.q-iterator) ≡ has_saving g.R.Rule.KIND
    (g.V.Seen.position l.fn.view))
