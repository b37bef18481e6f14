use Rattle.std.proofs.Common.{◌≡◌, max, map, drop, slice_index}
use Rattle.strategy_graph.specs.Tables.{greatest, named}
use Rattle.strategy_graph.proofs.Naming.{greatest_listed}
use Rattle.strategy_graph.proofs.depths.deepest.Given as goal

abbrev pub invariant-loop-reply : goal.invariant-loop-reply
invariant-loop-reply l = greatest (map (λ j. slice_index l.depths j) (named (record { replies = l.replies; rest = l.fn.rest })))
    ≡ max l.most (greatest_listed (λ j. slice_index l.depths j) (drop l.reply-index l.replies))
