-- the words of the crate, in one place
mod Common
pub mod CheckLaws
pub mod BookLaws
pub mod ImageLaws
pub mod RefereeLaws
pub mod BindLaws
