use Rattle.std.proofs.Common.{◌≡◌, ◌++◌, map, take}
use Rattle.strategy_graph.proofs.Common.{rest_nodes}
use Rattle.strategy_compiler.proofs.starts.visited.Given as goal

abbrev pub invariant-loop-reply : goal.invariant-loop-reply
invariant-loop-reply l = l.roots.items ≡ rest_nodes l.fn.rest ++ map (λ r. r.next) (take l.reply-index l.reply-items)
