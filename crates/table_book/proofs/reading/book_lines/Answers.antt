use Rattle.std.proofs.Common.{refl}
use Rattle.table_book.proofs.BookBad.{all_text, book_rest_fault, no_first_line, no_nodes_line}
use Rattle.table_book.proofs.reading.book_lines.Goals as goal

pub returns-in_default-clause-refused : goal.returns-in_default-clause-refused
returns-in_default-clause-refused c = (0, refl, no_first_line c.args.bytes.now (λ rest e. c.in_default.ensures.rest rest tt e))

pub returns-in_default-number_line-clause-refused : goal.returns-in_default-number_line-clause-refused
returns-in_default-number_line-clause-refused c =
    (1, refl, no_nodes_line c.args.bytes.now c.in-Some.rest.now c.in-Some.ensures.rest.1 c.in_default-number_line.ensures.number)

pub returns-in-Ok-clause-text : goal.returns-in-Ok-clause-text
returns-in-Ok-clause-text c =
    all_text c.in-Some-number_line.count c.in-Ok.found.0 c.args.bytes.now c.in-Some.rest.now c.in-Some-number_line.rest.now
    c.in-Ok.found.1.now c.in-Ok.ensures.count c.in-Some.ensures.rest.1 c.in-Some-number_line.ensures.number.1 c.in-Ok.ensures.text

pub returns-in-Err-clause-refused : goal.returns-in-Err-clause-refused
returns-in-Err-clause-refused c = rw c.after-in-Err.ensures.error
    (book_rest_fault c.in-Some-number_line.count c.in-Some-number_line.ensures.number.0.few c.args.bytes.now c.in-Some.rest.now
    c.in-Some-number_line.rest.now c.in-Some.ensures.rest.1 c.in-Some-number_line.ensures.number.1 c.in-Err.error c.in-Err.ensures.refused)
