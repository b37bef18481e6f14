use Rattle.std.proofs.Common.{◌<◌, ◌≤◌, length}
use Rattle.proof_tree.specs.Trees.{IsOnWayUp, OthersStay, leaf_sum}
use Rattle.proof_tree.specs.declared.Kind.{Kind}
use Rattle.proof_tree.proofs.Updated.{IsRightBut}
use Rattle.proof_tree.proofs.updating.update_from.Given as goal

abbrev pub invariant-loop-link : goal.invariant-loop-link
invariant-loop-link l = record {
  inside : l.number < length l.links;
  right : IsRightBut l.links l.numbers l.number;
  above : IsOnWayUp l.links l.fn.start l.number;
  others : OthersStay l.links l.fn.start l.fn.numbers l.numbers;
  leaves : (kind : Kind) → leaf_sum kind l.links l.numbers ≤ leaf_sum kind l.links l.fn.numbers;
}

abbrev pub decreases-loop-link : goal.decreases-loop-link
decreases-loop-link l = l.number
