-- How large the tree of the search may be.
use Rattle.std.specs.Prelude.{ℕ, ◌*◌, ◌≤◌, ◌&&◌, Bool, nat_le, length}
use Rattle.proof_tree.specs.Trees.{Tree, leaf_sum}
use Rattle.proof_tree.specs.declared.Kind.{Kind}
use Rattle.proof_tree.specs.declared.Numbers.{Numbers}
use Rattle.quiet_tree.specs.declared.TheConstants.{MAX_LISTED, MOST_NUMBER}

-- whether the numbers are those of an open node, and not large
abbrev pub is_small : Numbers → Bool
is_small n = nat_le 1 n.proof && nat_le n.proof MOST_NUMBER && nat_le 1 n.disproof && nat_le n.disproof MOST_NUMBER

-- The tree has at most so many nodes, and the numbers of its leaves add up to at most the greatest that a node begins with for each node,
-- so that no sum comes to infinity.
pub record IsSmall (t : Tree) (most : ℕ) : Type 0 where
  pub most_fits : most ≤ MAX_LISTED
  pub few : length t.links ≤ most
  pub sums : (kind : Kind) → leaf_sum kind t.links t.numbers ≤ MOST_NUMBER * length t.links
