-- the draws and the positions that are made of them, a game, and what is counted
pub mod Draws
pub mod DrillGames
pub mod Counts
