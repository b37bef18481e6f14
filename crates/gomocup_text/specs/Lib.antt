-- The words of the protocol: the command of each line, and the line of each answer.
pub mod Words
pub mod Numbers
pub mod Commands
pub mod Answers
