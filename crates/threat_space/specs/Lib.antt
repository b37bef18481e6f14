pub mod Sequences
pub mod Looking
pub mod Lines
pub mod Barren
