-- The laws of books. What is declared by `pub mod` the layers above may cite; the rest serves this crate alone.

-- the words of the crate, in one place
mod Common
mod Lists
mod EntryLaws
mod EntryBad
mod BookLaws
mod BookBad
-- the text of a book begins as one, and that of a table does not
pub mod Beginnings
-- the root of an entry names nodes of the book; a book is read back as the same book
pub mod Soundness
mod Holds
mod Growth
-- what a binder holds of files
mod Bound
-- files that are bound into a book one after the other
pub mod Binding
