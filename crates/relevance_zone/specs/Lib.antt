pub mod Windows
pub mod Zones
pub mod Laws
