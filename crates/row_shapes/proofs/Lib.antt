-- The laws of shapes. What is declared by `pub mod` the layers above may cite; the rest serves this crate alone.

-- the words of the crate, in one place
mod Common
-- fours counted by gaps; where three points are; what stands within reach of a four and of a three
pub mod Counting
pub mod ThreePoints
pub mod Reaches
-- five points in short, and what a stone leaves of them
pub mod FiveLaws
-- the five points that a stone makes; the law of reach
pub mod NewFives
pub mod ReachLaw
-- short lists
mod ShortLists
-- lines that look the same within reach, and what a stone makes on them
mod Alike
mod AlikeFours
-- codes digit by digit
pub mod CodeDigits
-- numbers as sums of their bits
mod ThreeBits
-- lines seen as two halves; the halves of a code
mod HalfLines
mod HalfBits
mod HalfFours
mod HalfShapes
mod HalfCodes
mod HalfTables
mod HalfPlaces
-- the places around a point
mod PlacesAround
-- windows of lines
mod RowBits
mod WindowLaws
mod WindowParts
mod PairBits
-- stones next to a point by the bits of its line
mod NearBits
