-- the words of the crate, in one place
mod Common
pub mod BrainLaws
pub mod GameLaws
pub mod DrillLaws
