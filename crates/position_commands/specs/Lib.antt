-- a file for each command
pub mod Fouls
pub mod Fours
pub mod Threats
pub mod Defends
