use Rattle.std.specs.Vec.Iter.{into_iter_items}
use Rattle.table_book.proofs.Holds.{AreHeld}
use Rattle.table_book.proofs.holding.hold_book.Given as goal

-- the entries that were passed are held, and the others are left
abbrev pub invariant-loop-entry : goal.invariant-loop-entry
invariant-loop-entry l = (goal.iterator-loop-entry).can_next l.entry-iterator × (goal.iterator-loop-entry).is_finite l.entry-iterator
    × AreHeld l.fn.book.table l.fn.book.entries l.fn.work l.held l.yielded (into_iter_items l.entry-iterator)
