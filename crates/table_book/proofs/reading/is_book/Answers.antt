use Rattle.table_book.proofs.BookLaws.{begins_book}
use Rattle.table_book.proofs.reading.is_book.Goals as goal

pub returns : goal.returns
returns c = record { book = rw c.is_some.ensures (begins_book c.args.bytes.now c.after.result c.after.ensures.rest) }
