use Rattle.std.proofs.Common.{map, arith}
use Rattle.proof_tree.specs.Combining.{sought}
use Rattle.proof_tree.proofs.Combined.{least-le}
use Rattle.proof_tree.proofs.combining.least.Goals as goal

pub loop-child-init : goal.loop-child-init
loop-child-init c = record {
  low = omega arith;
  so_far = omega (arith, least-le (map (sought c.args.kind) c.args.children.now));
}
