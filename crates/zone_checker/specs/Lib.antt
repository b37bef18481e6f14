pub mod Marks
pub mod Replies
pub mod Pairs
pub mod Walks
pub mod Roots
pub mod Verdicts
pub mod Laws
