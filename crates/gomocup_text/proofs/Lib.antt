-- Lemmas on the digits of a number and the command of a text.

-- the words of the crate, in one place
mod Common
mod Digits
mod TextCommands
pub mod AskedLines
