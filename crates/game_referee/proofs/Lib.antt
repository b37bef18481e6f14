-- The laws of games.

-- the words of the crate, in one place
mod Common
mod Playing
-- games that follow an accepted table: for the layers above
pub mod Following
