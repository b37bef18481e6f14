use Rattle.std.proofs.Common.{◌≡◌, ◌≤◌, map, min, drop}
use Rattle.proof_tree.specs.Combining.{least, sought}
use Rattle.proof_tree.specs.declared.TheConstants.{INFINITE}
use Rattle.proof_tree.proofs.combining.least.Given as goal

abbrev pub invariant-loop-child : goal.invariant-loop-child
invariant-loop-child l = record {
  low : l.least ≤ INFINITE;
  so_far : least (map (sought l.kind) l.children) ≡ min l.least (least (map (sought l.kind) (drop l.child-index l.children)));
}
