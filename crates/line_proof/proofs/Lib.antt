-- The laws of line proofs. They serve this crate alone.

-- the words of the crate, in one place
mod Common
-- double threats, and the nodes that have the answers to all replies
mod Doubling
-- the answers to the replies so far
mod Gathering
-- one move of a line
mod Steps
