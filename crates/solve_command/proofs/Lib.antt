-- the words of the crate, in one place
mod Common
mod Solutions
pub mod SolveLaws
