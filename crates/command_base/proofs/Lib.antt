-- the words of the crate, in one place
mod Common
pub mod ToldLaws
pub mod PositionLaws
