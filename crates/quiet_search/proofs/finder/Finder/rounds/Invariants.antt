-- The tree of each round is small.
use Rattle.quiet_tree.specs.Trees.{IsSmall}
use Rattle.quiet_search.proofs.finder.Finder.rounds.Given as goal

abbrev pub invariant-loop : goal.invariant-loop
invariant-loop g l = IsSmall l.tree l.nodes
