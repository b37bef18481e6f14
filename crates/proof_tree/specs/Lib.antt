pub mod Combining
pub mod Trees
