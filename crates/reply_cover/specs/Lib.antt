-- covers, as they are worked out, and the laws of them
pub mod Covers
pub mod Laws
