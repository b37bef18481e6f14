-- A book that is written is read back as the same book.
use Rattle.std.specs.Prelude.{◌≡◌, ℕ, List}
use Rattle.table_book.specs.declared.Book.{Book}
use Rattle.table_book.specs.declared.error.BookError.{BookError}
use Rattle.table_book.specs.declared.error.BookError.TheVariants.{Memory}
use Rattle.table_book.specs.Books.{IsTextOfBook, IsWellFormed}
use Rattle.table_book.specs.Faults.{IsBookFault}

-- the bytes can be read as this book alone: they are the text of no other, and nothing but want of memory is said of them
pub record OnlyBook (book : Book) (bytes : List ℕ) : Type 0 where
  pub no_other : (other : Book) → IsTextOfBook other bytes → other ≡ book
  pub no_fault : (error : BookError) → IsBookFault bytes error → error ≡ Memory

-- the text of a book that is well formed is read back as that book
abbrev pub BooksReadBack : Type 0
BooksReadBack = (book : Book) (bytes : List ℕ) → IsTextOfBook book bytes → IsWellFormed book → OnlyBook book bytes
