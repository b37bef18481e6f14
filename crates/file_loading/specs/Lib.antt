-- the texts of tables and books, what they give to be held, what comes of a file, and commands that take many
pub mod TableFiles
pub mod BookFiles
pub mod HeldFiles
pub mod ManyFiles
pub mod RunsByFiles
pub mod Loading
