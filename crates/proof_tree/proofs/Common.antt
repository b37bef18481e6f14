-- The words of the tree, all in one place for the files of laws.
pub use Rattle.proof_tree.specs.Combining.{AreNumbers, IsOpen, combined, finite, finite_sum, is_settled, least, no_numbers, other_kind}
pub use Rattle.proof_tree.specs.Combining.{plus, settled_numbers, sought, total}
pub use Rattle.proof_tree.specs.Trees.{IsAlive, IsChild, IsCombinedAt, IsLinked, IsNumbered, IsOnWayUp, IsTree, OthersStay, Tree, ancestor}
pub use Rattle.proof_tree.specs.Trees.{children_of, chosen, grown_links, leaf_link, leaf_sum, link_at, most_proving, numbers_at, walk_end}
