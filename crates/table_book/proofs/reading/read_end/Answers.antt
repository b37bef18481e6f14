use Rattle.std.proofs.Common.{refl}
use Rattle.table_book.proofs.EntryBad.{end_fault, no_entries_line}
use Rattle.table_book.proofs.reading.read_end.Goals as goal

pub returns-in_default-clause-refused : goal.returns-in_default-clause-refused
returns-in_default-clause-refused c = (0, refl, no_entries_line c.args.below c.args.bytes.now c.in_default.ensures.number)

pub returns-in-Err-clause-refused : goal.returns-in-Err-clause-refused
returns-in-Err-clause-refused c =
    rw c.after.ensures.error (end_fault c.args.below c.in-Some.count c.in-Some.ensures.number.0 c.args.bytes.now c.in-Some.rest.now
    c.in-Some.ensures.number.1 c.in-Err.error c.in-Err.ensures.refused)
