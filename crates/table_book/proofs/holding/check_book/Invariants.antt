use Rattle.table_book.proofs.Holds.{AreSummed}
use Rattle.table_book.proofs.holding.check_book.Given as goal

-- the entries so far are accepted, and their arrivals are summed
abbrev pub invariant-loop-entry : goal.invariant-loop-entry
invariant-loop-entry l = AreSummed l.book.table l.book.entries l.work l.entry-index l.number l.sum
