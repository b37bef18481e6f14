use Rattle.std.proofs.Common.{◌≡◌, ◌++◌, filter}
use Rattle.game_rules.specs.Play.{outcome, goes_on}
use Rattle.threat_game.specs.Replies.{replies_at}
use Rattle.threat_game.proofs.doubles.all_replies.Given as goal

-- the view is as before; the replies found, and those left, are all
abbrev pub invariant-loop-q : goal.invariant-loop-q
invariant-loop-q g l =
    (g.V.Seen.position l.view ≡ g.V.Seen.position l.fn.view)
    × (l.found.items ++ filter (λ q. goes_on (outcome g.R.Rule.KIND (g.V.Seen.position l.fn.view) q)) l.q-iterator ≡ replies_at
    g.R.Rule.KIND (g.V.Seen.position l.fn.view))
