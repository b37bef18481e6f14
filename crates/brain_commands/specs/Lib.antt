-- a file for each command, and one for the games that the brain plays
pub mod Brains
pub mod Games
pub mod Drills
