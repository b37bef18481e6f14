-- The proofs of the theorems: acceptance by tests that compute, and each session.
mod TestedTables
-- a held game, by the game of its node
mod PlayedGames
mod OverlineSessions
mod StartSession
-- the win that the brain finds itself, and the session in which it follows it
mod OwnWins
mod OwnWinSession
-- and others, without a held root or with one that is not asked
mod OwnWinGames
-- a win that is accepted by a zone
mod ThreeZone
