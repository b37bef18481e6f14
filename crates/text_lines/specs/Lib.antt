pub mod Lines
pub mod Spellings
pub mod Reading
