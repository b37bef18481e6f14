use Rattle.table_book.proofs.Soundness.{book-read-back}
use Rattle.table_book.proofs.laws.books_read_back.Goals as goal

pub returns : goal.returns
returns c = record { same = book-read-back }
