-- The laws of the drill. What is declared by `pub mod` the layers above may cite; the rest serves this crate alone.

-- the words of the crate, in one place
mod Common
-- a position, draw by draw
mod DrillMaking
-- a brain that is told a position
mod DrillTelling
-- a game, turn by turn, from the first move on
mod DrillTurns
mod DrillCourse
-- a number has one drill, whose tables are all accepted and whose games are all won
pub mod DrillCounts
