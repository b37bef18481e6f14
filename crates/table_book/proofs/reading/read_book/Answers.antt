use Rattle.std.proofs.Common.{subst, sym, ◌∙◌, arith}
use Rattle.std.proofs.lemmas.Result.{err_from_is_err_and}
use Rattle.text_lines.specs.Lines.{FirstBad}
use Rattle.text_lines.proofs.TextLaws.{no_bytes, some_bytes}
use Rattle.table_book.specs.Books.{IsBookText, IsTextOfBook}
use Rattle.table_book.proofs.BookLaws.{book-length, one_book, whole_book}
use Rattle.table_book.proofs.BookBad.{book_too_many, lines_fault}
use Rattle.table_book.proofs.Soundness.{unsound_fault}
use Rattle.table_book.proofs.reading.read_book.Goals as goal

pub returns-in-Err-clause-refused : goal.returns-in-Err-clause-refused
returns-in-Err-clause-refused c = rw c.from.ensures (lines_fault c.args.bytes.now c.in-Err.error c.in-Err.ensures.refused)

pub returns-then-not-is_empty-clause-refused : goal.returns-then-not-is_empty-clause-refused
returns-then-not-is_empty-clause-refused c =
    let lines = book-length c.in-Ok.found.0 in
    let nodes = c.len-nodes.ensures.count in
    let entries = c.len-entries.ensures.count in
    subst (FirstBad IsBookText c.args.bytes.now) (omega (arith, lines, nodes, entries))
    (book_too_many c.in-Ok.found.0 c.args.bytes.now c.in-Ok.found.1.now c.in-Ok.ensures.fits c.in-Ok.ensures.text
    (some_bytes c.in-Ok.found.1.now (sym c.is_empty.ensures ∙ c.if-not-is_empty.true)))

pub returns-in_err-check_entries-clause-refused : goal.returns-in_err-check_entries-clause-refused
returns-in_err-check_entries-clause-refused c =
    let p = err_from_is_err_and c.from_residual.result c.from_residual.ensures.1 in
    let text : IsTextOfBook c.in-Ok.found.0 c.args.bytes.now =
    whole_book c.in-Ok.found.0 c.args.bytes.now c.in-Ok.found.1.now c.in-Ok.ensures.fits c.in-Ok.ensures.text
    (no_bytes c.in-Ok.found.1.now (sym c.is_empty.ensures ∙ c.if-not-is_empty.false)) in
    rw (p.1, p.2) (unsound_fault c.in-Ok.found.0 c.args.bytes.now text c.in_err-check_entries.field-0.0
    (rw (sym c.as_slice.ensures.items) c.in_err-check_entries.ensures.unsound))

pub returns-clause-found : goal.returns-clause-found
returns-clause-found c = whole_book c.in-Ok.found.0 c.args.bytes.now c.in-Ok.found.1.now c.in-Ok.ensures.fits c.in-Ok.ensures.text
    (no_bytes c.in-Ok.found.1.now (sym c.is_empty.ensures ∙ c.if-not-is_empty.false))

pub returns-clause-only : goal.returns-clause-only
returns-clause-only c = λ other is. one_book c.in-Ok.found.0 other c.args.bytes.now
    (whole_book c.in-Ok.found.0 c.args.bytes.now c.in-Ok.found.1.now c.in-Ok.ensures.fits c.in-Ok.ensures.text
    (no_bytes c.in-Ok.found.1.now (sym c.is_empty.ensures ∙ c.if-not-is_empty.false))) is
