-- The laws of texts that the layers above may cite.

-- the words of texts, in one place
pub mod Common
-- words and the separators between them; decimal numbers; items of a line, each after a space
pub mod Cuts
pub mod Decimals
pub mod Items
-- what a fault says; first lines of bytes, and the points in them
pub mod FaultLaws
pub mod LineLaws
-- texts of lists of lines, and texts at the front of bytes
pub mod TextLaws
-- where bytes leave lines of a kind; the first bad line of a text
pub mod Leaving
pub mod Badness
-- texts that grow, and their pieces
pub mod Kept
mod Pieces
