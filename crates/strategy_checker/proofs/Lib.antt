-- The laws of the checker. What is declared by `pub mod` the layers above may cite; the rest serves this crate alone.

-- the words of the crate, in one place
mod Common
-- what each root that is held says
pub mod Holding
-- the walk, and the verdict on it
mod Walking
mod Owing
mod Stages
mod Refusals
mod Sureness
-- the replies that are counted and not walked
mod Counted
mod Courses
