pub mod FourMoves
pub mod Blocks
pub mod OneBlock
pub mod Threats
pub mod ThreeMoves
pub mod FiveEnds
pub mod FreePoints
