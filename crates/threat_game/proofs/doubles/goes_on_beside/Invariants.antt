use Rattle.std.proofs.Common.{◌≡◌, ◌&&◌, not}
use Rattle.std.specs.List.{list_any}
use Rattle.game_rules.proofs.Common.{is_same_point, outcome, goes_on}
use Rattle.threat_game.specs.Replies.{has_reply_beside}
use Rattle.threat_game.proofs.doubles.goes_on_beside.Given as goal

-- the view is as before; another reply goes on exactly where one of those left does
abbrev pub invariant-loop-q : goal.invariant-loop-q
invariant-loop-q g l =
    (g.V.Seen.position l.view ≡ g.V.Seen.position l.fn.view)
    × (list_any (λ q. goes_on (outcome g.R.Rule.KIND (g.V.Seen.position l.fn.view) q) && not (is_same_point q l.first)) l.q-iterator
    ≡ has_reply_beside g.R.Rule.KIND (g.V.Seen.position l.fn.view) l.first)
