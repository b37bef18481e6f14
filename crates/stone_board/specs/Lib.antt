pub mod Order
pub mod Steps
pub mod Walks
pub mod Lines
pub mod Kept
