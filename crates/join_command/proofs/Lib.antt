-- the words of the crate, in one place
mod Common
-- the roots of files that are adopted
mod Adopted
-- which file answers at a position, and what becomes of all replies
mod Asking
mod Replies
-- the table of a node; what is said of all answers
mod Making
mod Joined
-- files that are loaded one after another
mod Files
-- the command: its answers, and what its runs show
pub mod JoinRuns
