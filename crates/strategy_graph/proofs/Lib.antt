-- The laws of tables. What is declared by `pub mod` the layers above may cite; the rest serves this crate alone.

-- the words of tables, in one place
pub mod Common
-- what holds of the answer to a reply; replies that rise, as those at points in reading order do; the nodes that answers name, and
-- nodes at their places; `==` of nodes
pub mod Answering
pub mod Rising
pub mod Naming
pub mod Equal
-- nodes in one list, and their replies in another
mod PackedLists
-- the greatest of what a list of nodes gives; nodes that are the same but for related numbers
pub mod Greatest
pub mod Pairs
-- depth, acceptance and arrivals by the nodes that are named; tables that grow, or hold copies under other numbers
pub mod Fuel
pub mod Copies
pub mod Starts
pub mod Renumbering
pub mod Filling
-- what says the same as what says the same; roots of tables that grow, or hold copies
pub mod Saying
-- accepted nodes and roots win; a line to a fault refutes; one step of a check
pub mod Soundness
pub mod Refutation
pub mod Steps
-- games end well; one step of a game
pub mod Endings
-- one move on from an accepted node or start
pub mod Following
