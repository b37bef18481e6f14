-- The laws of open windows. What is declared by `pub mod` the layers above may cite; the rest serves this crate alone.

-- five numbers added bit by bit
mod Sums
-- rows of bits, and what they tell along an axis
mod RowBits
-- the rows of a board
mod BoardRows
-- sets that are made point by point, and the points of a set one after another
mod SetBits
pub mod SetOrder
-- the windows that begin at a point, and the points that lie in one
mod WindowBits
pub mod Points
-- a run with two empty points
pub mod OpenRuns
-- a stone that makes a five point lies in a window with three stones, and one that makes a three in one with two
pub mod NewFives
pub mod NewThrees
-- windows with fewer stones, or before a stone
pub mod Fewer
