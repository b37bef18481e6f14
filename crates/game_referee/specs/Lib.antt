pub mod Verdicts
pub mod Played
pub mod Replays
pub mod Followers
pub mod Lines
