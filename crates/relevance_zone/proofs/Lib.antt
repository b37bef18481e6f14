-- The laws of zones. What is declared by `pub mod` the layers above may cite; the rest serves this crate alone.

-- the words of the crate, in one place
mod Common
-- stones in windows: one more of either side; a run of five or more fills a window
mod Counts
-- further stones that a zone bears, a move later
mod Bearing
-- zones by the nodes that are named
pub mod ByNode
-- what has a zone is accepted
pub mod Harm
