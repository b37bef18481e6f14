-- The laws of marks and of the walk.

-- the words of the crate, in one place
mod Common
-- marks in lists, and the windows of a point
mod Marking
-- the greatest zone of a node by those of its answers
mod Greatest
-- one step of the walk: a reply, all replies, a node
mod Steps
-- the pairs that the walk looks at
mod Counting
-- marks that are made
mod Filling
-- the walk at a node
mod Walking
-- replies one after another
mod Replying
-- the verdict on a root
mod Judging
