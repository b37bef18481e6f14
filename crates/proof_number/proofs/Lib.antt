-- The laws of the search for wins by threats.

-- the words of the search, in one place
pub mod Common
-- the words of the contracts, opened
mod Opening
-- the boards of the nodes of a tree; settled numbers are true; moves played and taken back
mod GameTruths
-- denials, and the disproved nodes of a tree as one
mod DenialLaws
mod Disproved
-- the win of a proved node is compiled; what is recorded and remembered on the way up, and of looks
mod Recording
mod Remembering
mod Compiling
mod LookLaws
-- sums over nodes; a leaf is settled, or given children
mod Sums
mod Sparing
mod Staying
mod Settling
mod Growing
mod Following
mod Expanding
mod ExpandedCounts
-- how many positions are won
pub mod WinLaws
-- how far a search has come, and where it runs out
mod RunningOut
-- the steps of a search, in the words of its contracts, and those that win
mod Steps
mod Attacking
mod Defending
mod StepLaws
mod Beginning
mod Ending
