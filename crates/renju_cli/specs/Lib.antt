-- the words, the list of commands, and what the program does
pub mod Words
pub mod Commands
pub mod Reports
