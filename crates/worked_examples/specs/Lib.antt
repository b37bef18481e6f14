pub mod HeldSessions
pub mod Zones
