-- The laws of the finder of defences. What is declared by `pub mod` the layers above may cite; the rest serves this crate alone.

-- the words of the crate, in one place
mod Common
-- tests and facts
pub mod Telling
-- where no move holds, each loses, and the start that is made of the answers wins
pub mod Losing
-- what is known of one move, and of the moves so far
mod Settling
mod Gathering
