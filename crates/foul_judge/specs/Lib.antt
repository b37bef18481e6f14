pub mod Threes
pub mod BlackMoves
pub mod ShortCut
pub mod Lawful
