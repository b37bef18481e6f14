use Rattle.std.proofs.Common.{◌≡◌, take}
use Rattle.strategy_compiler.proofs.Common.{completed_from, IsBetween}
use Rattle.strategy_compiler.proofs.walk.completed_order.Given as goal

-- the walks from the roots so far
abbrev pub invariant-loop-root : goal.invariant-loop-root
invariant-loop-root l = record {
  walked : l.order.items ≡ completed_from l.nodes (take l.root-index l.roots);
  between : IsBetween l.nodes l.order.items l.is_completed.items;
}
