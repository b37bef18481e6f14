-- the words of the crate, in one place
mod Common
mod BoardTests
mod Sayings
pub mod QuietLaws
