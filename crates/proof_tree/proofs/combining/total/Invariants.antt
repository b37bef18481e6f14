use Rattle.std.proofs.Common.{◌≡◌, ◌<◌, ◌+◌, map, drop}
use Rattle.proof_tree.specs.Combining.{finite_sum, plus, sought, total}
use Rattle.proof_tree.specs.declared.TheConstants.{INFINITE}
use Rattle.proof_tree.proofs.combining.total.Given as goal

abbrev pub invariant-loop-child : goal.invariant-loop-child
invariant-loop-child l = record {
  fits : l.sum + finite_sum (map (sought l.kind) (drop l.child-index l.children)) < INFINITE;
  so_far : total (map (sought l.kind) l.children) ≡ plus l.sum (total (map (sought l.kind) (drop l.child-index l.children)));
}
