-- the files of a cover and what is kept of them; the command
pub mod PartFiles
pub mod Covers
