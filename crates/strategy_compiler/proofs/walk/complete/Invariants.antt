use Rattle.std.proofs.Common.{◌+◌, ◌*◌, length, reverse}
use Rattle.strategy_compiler.proofs.Common.{completed_after, unset}
use Rattle.strategy_compiler.proofs.Walking.{IsWalk, front}
use Rattle.strategy_compiler.proofs.walk.complete.Given as goal

abbrev pub invariant-loop-number : goal.invariant-loop-number
invariant-loop-number l = IsWalk l.nodes (completed_after l.nodes l.fn.order.items l.root) l.is_completed l.order.items
    (reverse l.path.items)

-- a step down lowers the front of the way, and a node that is completed takes a flag
abbrev pub decreases-loop-number : goal.decreases-loop-number
decreases-loop-number l = unset l.is_completed * (length l.nodes + 1) + front (reverse l.path.items)
