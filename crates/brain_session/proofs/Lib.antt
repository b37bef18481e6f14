-- The laws of the brain. What is declared by `pub mod` the layers above may cite; the rest serves this crate alone.

-- the words of the crate, in one place
mod Common
-- the point next to the middle
mod PlainMoves
-- a board with the moves on it; whether two boards are one
pub mod PlayedMoves
-- what the brain follows, move by move
pub mod Guiding
-- the win that it finds itself
pub mod OwnWins
-- the node to which a held root leads
pub mod HeldNodes
-- plain moves are legal
pub mod LegalMoves
-- the choice where nothing is followed yet
pub mod Choosing
-- a game that is kept up, move by move
pub mod SessionGames
-- the place of a session's board, and the rows of the protocol in it
pub mod SessionBoards
-- each row that a command may have
mod RowCases
-- the board of a batch, and the side to move on it
pub mod BatchGames
-- steps of the brain by the rows of their commands
pub mod Takings
-- the room of a batch
mod BatchRoom
-- what a session says and where it stands, command by command; how a session over devices goes on and ends
pub mod SessionLaws
mod Serving
mod Turns
-- games in which something is followed, whatever it is: each later command
pub mod FollowedGames
-- held games go well, each legal reply in one is answered, and whoever answers by an accepted table wins
pub mod HeldGames
pub mod HeldReplies
pub mod HeldWins
-- games in which a held node is followed: one reply
pub mod HeldSteps
-- points as lines TURN
pub mod TurnLines
-- games by a win of the brain's own; the game by a held root that begins where a game comes to it
pub mod OwnGames
pub mod RootGames
-- what is true of the state whatever was told
pub mod LawfulStates
-- the stones of a batch that makes a board
pub mod BatchStones
-- the drawing of a session, line by line, and the held games that begin where it shows the position of a root
pub mod Drawings
pub mod LineGames
