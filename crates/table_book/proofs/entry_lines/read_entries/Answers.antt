use Rattle.std.proofs.Common.{◌<◌, ◌^◌, refl, arith}
use Rattle.table_book.proofs.EntryBad.{entries_fault}
use Rattle.table_book.proofs.entry_lines.read_entries.Goals as goal

pub returns-in-Err-clause-refused : goal.returns-in-Err-clause-refused
returns-in-Err-clause-refused c =
    let few_k : c.args.below < 2 ^ 64 = omega arith in
    rw c.after.ensures.error (entries_fault c.args.below c.args.count c.loop-number.number c.loop-number.entries c.args.bytes.now
    c.loop-number.rest.now _ few_k c.loop-number.invariant c.loop-number-test.true refl c.in-Err.error c.in-Err.ensures.refused)
