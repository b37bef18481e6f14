-- the command
pub mod Quiets
