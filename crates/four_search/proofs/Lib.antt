-- The laws of the four search. What a search finds is said by the clauses of `four_search`, and what is made of it by those of the
-- compiler. What is declared by `pub mod` the layers above may cite; the rest serves this crate alone.

-- the words of the crate, in one place
mod Common
-- replies of Black that are no fouls wherever White plays first
mod CalmPoints
-- the game of fours, position by position, and the search of it
mod Trying
mod Deepening
-- the plan of a win, and the nodes that stand for it
pub mod Planning
pub mod Written
-- what all depths tell of wins
mod SoughtLaws
-- the table of the fewest win
mod FourTables
-- one move of a win by fours, and the node that stands for its plan
-- depths that look at as many positions as the one before
mod Rounds
-- the gaps beside a stone, and from all stones; points in reading order, and one more in its place
mod GapRuns
mod Listing
mod Joining
-- and the stones that stand near such gaps
mod NearGaps
-- what a search remembers
mod Remembering
-- points that no move on their lines has changed
mod Beside
-- how few positions a search for two fours looks at, and that one is looked at where a five point stands
pub mod Costs
