pub mod Walks
pub mod Meetings
pub mod HeldErrors
pub mod Checks
pub mod Verdicts
pub mod HeldRoots
