use Rattle.table_book.proofs.EntryBad.{AreRead}
use Rattle.table_book.proofs.entry_lines.read_entries.Given as goal

-- the entries so far have been read
abbrev pub invariant-loop-number : goal.invariant-loop-number
invariant-loop-number l = AreRead l.below l.entries l.number l.bytes l.rest
