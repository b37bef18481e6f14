-- The laws of positions. What is declared by `pub mod` the layers above may cite; the rest serves this crate alone.

-- the words of the crate, in one place
mod Common
-- a board is lawful exactly where nothing is said against it
pub mod Lawfulness
-- places of three points, and the short cuts of the judge
pub mod ThreePlaces
pub mod MayFoul
pub mod FoulShapes
pub mod FewerEmpties
