pub mod Books
pub mod Sections
pub mod Faults
pub mod Holding
pub mod ReadBack
pub mod Binding
