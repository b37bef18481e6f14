-- What renumber_leaf leaves of the numbers is found once for each clause, and not by each of them.
use Rattle.std.proofs.Common.{rules, arith}
use Rattle.proof_tree.proofs.Changed.{written-back}
use Rattle.proof_tree.proofs.tree.ProofTree.renumber.Goals as goal

pub invariant_of-self : goal.invariant_of-self
invariant_of-self c =
    rw (written-back c.self.inside.numbers.len c.renumber_leaf.new.numbers c.self.inside.numbers.items (omega arith)) (search rules)

pub returns-clause-numbers : goal.returns-clause-numbers
returns-clause-numbers c =
    rw (written-back c.self.inside.numbers.len c.renumber_leaf.new.numbers c.self.inside.numbers.items (omega arith)) (search rules)

pub returns-clause-others : goal.returns-clause-others
returns-clause-others c =
    rw (written-back c.self.inside.numbers.len c.renumber_leaf.new.numbers c.self.inside.numbers.items (omega arith)) (search rules)

pub returns-clause-leaves : goal.returns-clause-leaves
returns-clause-leaves c =
    rw (written-back c.self.inside.numbers.len c.renumber_leaf.new.numbers c.self.inside.numbers.items (omega arith)) (search rules)

pub returns-clause-tree : goal.returns-clause-tree
returns-clause-tree c =
    rw (written-back c.self.inside.numbers.len c.renumber_leaf.new.numbers c.self.inside.numbers.items (omega arith)) (search rules)
