-- The laws of fours. All may be cited by the layers above.

-- the words of fours and threes, in one place
pub mod Common
-- four moves, and what becomes of a four with one block
pub mod FourLaws
pub mod Fates
-- only the block of a four needs an answer of its own
pub mod BlockLaw
-- where a four is filled; gains, double points, and threes that become straight fours
pub mod FourEnds
pub mod GainLaws
-- stones away from a three leave it as it was, and a white stone frees no three that makes a foul
pub mod FarStones
-- lists of threats, and lists of such lists
pub mod ThreatLists
