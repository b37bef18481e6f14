pub mod Points
pub mod Images
pub mod RootGames
pub mod Files
pub mod Marks
pub mod Laws
