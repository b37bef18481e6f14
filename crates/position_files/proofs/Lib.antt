-- The laws of texts of positions and tables. What is declared by `pub mod` the layers above may cite; the rest serves this crate
-- alone.

-- the words of texts, in one place
pub mod Common
mod Spellings
-- boards that gain stones, from the empty one on
pub mod Stones
-- the lines of a board spell one board
pub mod BoardLines
mod PositionBad
mod GameLaws
-- the lines of nodes and of starts: they spell one value, and have no line feed; where bytes leave them, and what holds them
pub mod AnswerLaws
pub mod SectionLaws
mod TableLaws
-- what begins can be completed, and what is on a board fits
pub mod Completions
mod BodyBad
mod TableTexts
mod TableBad
mod Growth
-- what bytes begin with
mod FrontLaws
-- a text is that of one value, and is not refused where the value is lawful
pub mod ReadBack
