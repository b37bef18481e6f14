use Rattle.std.proofs.Common.{◌<◌, ◌-◌, length}
use Rattle.proof_tree.proofs.Common.{IsOpen, numbers_at}
use Rattle.proof_tree.proofs.Walks.{LeadsOn}
use Rattle.proof_tree.proofs.tree.ProofTree.most_proving_below.Given as goal

abbrev pub invariant-loop-self : goal.invariant-loop-self
invariant-loop-self l = record {
  inside : l.number < length l.self.links;
  open_node : IsOpen (numbers_at l.self.numbers l.number);
  leads : LeadsOn l.self l.fn.start l.number;
}

abbrev pub decreases-loop-self : goal.decreases-loop-self
decreases-loop-self l = length l.self.links - l.number
