use Rattle.std.proofs.Common.{◌≡◌, take}
use Rattle.std.specs.List.{AllByRecursion}
use Rattle.table_book.specs.Books.{IsSound}
use Rattle.table_book.proofs.reading.check_entries.Given as goal

-- the entries so far are counted, and are sound
abbrev pub invariant-loop-entry : goal.invariant-loop-entry
invariant-loop-entry l = (l.number ≡ l.entry-index) × AllByRecursion (IsSound l.table) (take l.entry-index l.entries)
