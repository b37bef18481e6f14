-- What the devices tell: their counts of faults and of calls, the bytes that they give and take, the files of a shelf, and the lines
-- of an input.
pub mod Faults
pub mod Asked
pub mod Told
pub mod Files
pub mod Memory
pub mod Real
pub mod Lines
pub mod LineReads
pub mod Reader
