-- the command
pub mod Solves
