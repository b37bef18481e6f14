pub mod Defences
pub mod Answers
pub mod Laws
pub mod Lines
pub mod Finding
