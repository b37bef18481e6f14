-- the words of the crate, in one place
mod Common
pub mod Searches
pub mod FoulLaws
pub mod FoursLaws
pub mod ThreatsLaws
pub mod DefendLaws
