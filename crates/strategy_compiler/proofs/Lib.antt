-- The laws of the compiler. What is declared by `pub mod` the layers above may cite; the rest serves this crate alone.

-- the words of the compiler, in one place
pub mod Common
-- what nodes reach, and stand for once a node is put in; wins that a search wrote, how nodes grow, and what calls write
pub mod Standing
pub mod Growing
-- replies that lose
pub mod Replies
-- the set of nodes, and the node that answers given replies
mod Briefs
-- the walk, and the table that is made of what it completes
mod Walking
mod Places
mod Copying
mod Starting
-- nodes handed over; nodes unfolded, which a copy keeps and which tell the nodes of a compiler apart; tables that are adopted
mod Handing
pub mod Unfolding
pub mod Adopted
-- nodes that win
pub mod Forks
-- the table of a tree is one
pub mod Unique
