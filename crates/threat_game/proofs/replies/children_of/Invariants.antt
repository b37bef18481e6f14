use Rattle.std.proofs.Common.{◌≡◌, ◌≤◌, ◌+◌, ◌*◌, not, take, filter, sum_by}
use Rattle.threat_game.proofs.Common.{counted_for, is_met, put_first}
use Rattle.threat_game.proofs.replies.children_of.Given as goal

-- the children are kept of those before the place, and as many positions are counted
abbrev pub invariant-loop-child : goal.invariant-loop-child
invariant-loop-child l =
    (l.children.all.items ≡ put_first l.first (filter (λ child. not (is_met l.first child.judged)) (take l.child-index l.judged)))
    × (l.children.count ≡ sum_by (λ child. counted_for child.judged) l.children.all.items)
    × (l.children.count ≤ 3 * (l.child-index + 1))
