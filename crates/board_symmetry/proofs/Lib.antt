-- The laws of symmetries. What is declared by `pub mod` the layers above may cite; the rest serves this crate alone.

-- the words of the crate, in one place
mod Common
-- sums in another order; the cells of a board as a list
mod Sums
mod Listed
-- maps of a board that take lines to lines, turns, and the eight symmetries as such
mod Turns
mod Eight
mod Parts
-- a board and what a turn makes of it: runs and five points, fours, straight fours and threes, fouls and outcomes, won games
mod Alike
mod MirroredFours
mod TurnedShapes
mod TurnedOutcomes
mod TurnedPositions
mod TurnedWins
-- a table and what a turn makes of it
mod TurnedReplies
mod RisingReplies
mod OneReply
mod Marking
mod TurnedTables
-- images as they are made: of boards, of tables
mod BoardImages
mod Filling
pub mod TableImages
-- the laws of images
pub mod ImageGroup
pub mod ImageLaws
-- the image of a table as a file has it
pub mod FileImages
