pub mod Packing
pub mod Remembering
pub mod Hashing
pub mod Lateness
