use Rattle.std.proofs.Common.{◌≡◌, not, false, find, map, drop, get_or}
use Rattle.strategy_compiler.proofs.walk.first_listed.Given as goal

abbrev pub invariant-loop-reply : goal.invariant-loop-reply
invariant-loop-reply l = find (λ j. not (get_or l.is_completed j false))
    (map (λ r. r.next) l.replies) ≡ find (λ j. not (get_or l.is_completed j false)) (map (λ r. r.next) (drop l.reply-index l.replies))
