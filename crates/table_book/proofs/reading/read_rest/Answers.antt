use Rattle.std.proofs.lemmas.Result.{err_from_is_err_and}
use Rattle.table_book.proofs.BookBad.{rest_end_fault, rest_nodes_fault}
use Rattle.table_book.proofs.reading.read_rest.Goals as goal

pub returns-in_err-table-clause-refused : goal.returns-in_err-table-clause-refused
returns-in_err-table-clause-refused c =
    let p = err_from_is_err_and c.from_residual.result c.from_residual.ensures.1 in
    rw (p.1, p.2) (rest_nodes_fault c.args.count c.args.bytes.now c.in_err-table.field-0.0 c.in_err-table.ensures.refused)

pub returns-in-Err-clause-refused : goal.returns-in-Err-clause-refused
returns-in-Err-clause-refused c =
    let found = c.in_ok-table.ensures.found in
    rw c.after.ensures.error (rest_end_fault c.args.count c.in_ok-table.table found.nodes c.args.bytes.now c.in_ok-table.rest.now
    found.text c.in-Err.error c.in-Err.ensures.refused)
