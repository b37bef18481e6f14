-- the words of the crate, in one place
mod Common
pub mod TableFileLaws
pub mod BookFileLaws
pub mod HeldFileLaws
pub mod ManyFileLaws
pub mod FileRunLaws
