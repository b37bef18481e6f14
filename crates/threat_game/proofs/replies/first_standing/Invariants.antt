use Rattle.std.proofs.Common.{◌≡◌, drop, find}
use Rattle.threat_game.proofs.Common.{is_standing}
use Rattle.threat_game.proofs.replies.first_standing.Given as goal

-- the first that may stand is one of those left
abbrev pub invariant-loop-child : goal.invariant-loop-child
invariant-loop-child l = find (λ child. is_standing child.judged) (drop l.child-index l.judged) ≡ find (λ child. is_standing child.judged)
    l.judged
