-- The laws of boards. What is declared by `pub mod` the layers above may cite; the rest serves this crate alone.

-- the words of the crate, in one place
mod Common
-- points that are kept on the board; stones of either side
pub mod Looks
pub mod Stones
-- walks along an axis
pub mod Strides
-- reading order, and what is kept of the stones: their numbers, and the lines as bits
mod Orders
mod Counts
pub mod LineBits
-- a point of each line
mod LinePoints
-- the points along a line, by its bits
pub mod LineStones
mod LineRuns
pub mod Ones
pub mod BothBoards
