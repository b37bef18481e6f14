use Rattle.std.proofs.Common.{ℕ, ◌++◌, OnOk, subst}
use Rattle.proof_tree.proofs.Common.{OthersStay}
use Rattle.proof_tree.proofs.tree.ProofTree.expand.Goals as goal

pub returns-clause-others : goal.returns-clause-others
returns-clause-others c = subst (λ (i : ℕ). OnOk c.expand_at.result (OthersStay c.expand_at.new.self.links i
    (c.args.self.now.numbers ++ c.args.children.now) c.expand_at.new.self.numbers)) c.most_proving-leaf.ensures.leaf
    c.expand_at.ensures.others
