-- The laws of the rules. All may be cited by the layers above.

-- the words of the rules, in one place
pub mod Common
-- tests over ranges of numbers, and over the four axes
pub mod Rows
pub mod Axes
-- stones that are put and lifted; points along a line; runs, and what one more stone changes; lines seen in one of two ways
pub mod Boards
pub mod Lines
pub mod Runs
pub mod Ways
-- a move that goes on, and one that is taken back; who moves after it
pub mod Positions
pub mod Undo
-- tests of the points of a board; its points as a list; five points
pub mod Points
pub mod Places
pub mod Fives
-- what an outcome says of the move that has it
pub mod Outcomes
-- points that win; what the stones of one line decide; the ends of the runs of a stone
pub mod Wins
pub mod OneLine
pub mod RunEnds
-- won games: stronger demands, more moves, tests and facts, and that one side alone wins
pub mod Games
-- tests of numbers; cells and their stones; lists of points, and points in reading order; three points
pub mod Tests
pub mod Cells
pub mod PointLists
pub mod ReadingOrder
pub mod Threes
pub mod Marks
