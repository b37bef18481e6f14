use Rattle.std.proofs.Common.{◌≡◌, ◌+◌, set, ap, ◌∙◌, arith}
use Rattle.proof_tree.specs.declared.Kind.{Kind}
use Rattle.proof_tree.proofs.Common.{finite, leaf_sum, numbers_at, sought}
use Rattle.proof_tree.proofs.Changed.{settled-nothing}
use Rattle.proof_tree.proofs.SumLaws.{leaf_sum-moved}
use Rattle.proof_tree.proofs.tree.ProofTree.settle_at.Goals as goal
use Rattle.proof_tree.proofs.tree.ProofTree.settle_at.Goals.{After-settled}

-- a settled leaf adds nothing to a sum over leaves, and its number before counts no longer
no_more : (c : After-settled) (kind : Kind)
    → leaf_sum kind c.args.self.now.links (set c.args.self.now.numbers c.args.leaf c.settled.result)
    + finite (sought kind (numbers_at c.args.self.now.numbers c.args.leaf)) ≡ leaf_sum kind c.args.self.now.links c.args.self.now.numbers
no_more c kind =
    let none = ap (λ n. finite (sought kind n)) c.settled.ensures.settled ∙ settled-nothing kind c.args.proved in
    let moved = leaf_sum-moved kind c.args.self.now.links c.args.self.now.numbers c.args.leaf c.settled.result
    c.len.ensures.tree.numbered.count c.requires.in_tree c.requires.childless in
    omega (arith, none, moved)

pub renumber-requires-clause-sums : goal.renumber-requires-clause-sums
renumber-requires-clause-sums c = λ kind. omega (
  arith,
  no_more (goal.at.renumber-requires-clause-sums c).After-settled kind,
  c.len.ensures.tree.numbered.sums kind,
)

pub returns-clause-leaves : goal.returns-clause-leaves
returns-clause-leaves c = λ kind. omega
    (arith, no_more (goal.at.returns-clause-leaves c).After-settled kind, c.renumber.ensures.leaves kind)
