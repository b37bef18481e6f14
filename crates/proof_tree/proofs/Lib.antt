-- The laws of the tree. What is declared by `pub mod` the layers above may cite; the rest serves this crate alone.

-- the words of the tree, in one place
pub mod Common
-- what a node has of its children, sums over leaves, numbers brought up to date, the walk, and a leaf that is settled or expanded
mod Combined
mod LeafSums
pub mod Updated
mod Walks
pub mod Changed
-- how the sum over the leaves goes on when the tree grows
pub mod SumLaws
-- numbers that are settled, and the nodes above a node
pub mod Settled
-- the nodes up to the root from one that is alive
pub mod OpenWays
-- what is settled where a leaf gets other numbers
pub mod Renumbered
