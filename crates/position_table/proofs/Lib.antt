-- What is declared by `pub mod` the layers above may cite.

-- the words of the crate, in one place
mod Common
-- packed boards are the same exactly where the boards are
pub mod Packing
-- what is found under a key was kept under it
pub mod Remembering
-- what is kept late is kept as in a table, or not at all
pub mod Lateness
