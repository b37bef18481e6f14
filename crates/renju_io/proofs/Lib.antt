-- Lemmas on counts of calls, on bytes that are given and taken, and on the lines of an input.

-- the words of the crate, in one place
mod Common
pub mod AskedCalls
pub mod FileNames
pub mod GivenBytes
pub mod LineLaws
mod LinesSoFar
pub mod WholeLines
pub mod Pieces
pub mod TakenText
pub mod ToldSoFar
