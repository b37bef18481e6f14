use Rattle.proof_tree.proofs.OpenWays.{IsSoFar}
use Rattle.proof_tree.proofs.tree.ProofTree.is_alive.Given as goal

abbrev pub invariant-loop-self : goal.invariant-loop-self
invariant-loop-self l = IsSoFar l.self l.fn.start l.number

abbrev pub decreases-loop-self : goal.decreases-loop-self
decreases-loop-self l = l.number
