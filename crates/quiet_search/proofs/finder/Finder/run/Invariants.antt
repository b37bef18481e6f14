-- The tree stays small.
use Rattle.quiet_tree.specs.Trees.{IsSmall}
use Rattle.quiet_search.proofs.finder.Finder.run.Given as goal

abbrev pub invariant-loop : goal.invariant-loop
invariant-loop g l = IsSmall l.tree l.most
