use Rattle.std.proofs.Common.{◌≡◌, not, drop, find}
use Rattle.game_rules.specs.Shapes.{is_same_point}
use Rattle.threat_game.proofs.replies.five_beside.Given as goal

-- the first that is beside the point is one of those left
abbrev pub invariant-loop-five : goal.invariant-loop-five
invariant-loop-five l = find (λ w. not (is_same_point w l.q)) (drop l.five-index l.five-items) ≡ find (λ w. not (is_same_point w l.q))
    l.fn.fives
