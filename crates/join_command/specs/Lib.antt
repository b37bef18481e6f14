-- which file answers a reply; the nodes of the files; what becomes of all replies; the files; the command
pub mod Answering
pub mod Asking
pub mod Adopting
pub mod Meeting
pub mod Making
pub mod Joins
