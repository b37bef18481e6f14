use Rattle.std.proofs.Common.{◌≡◌, take, All}
use Rattle.game_rules.specs.Play.{after}
use Rattle.threat_game.specs.Replies.{HasEscape}
use Rattle.threat_game.proofs.escapes.each_fails.Given as goal

-- the view is as before, and the board; after each attack so far there is an escape
abbrev pub invariant-loop-p : goal.invariant-loop-p
invariant-loop-p g l =
    (g.V.Seen.position l.view ≡ g.V.Seen.position l.fn.view)
    × (l.board ≡ l.fn.board)
    × All (λ p. HasEscape g.R.Rule.KIND 1 (after (g.V.Seen.position l.fn.view) p)) (take l.p-index l.moves)
