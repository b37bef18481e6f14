-- a file for each command
pub mod Checks
pub mod Books
pub mod Images
pub mod Binds
pub mod Referees
