use Rattle.std.proofs.Common.{◌≡◌, ap, sym, subst, ◌+◌, List, length, true}
use Rattle.table_book.proofs.Common.{root_below, Node, EntryFits, IsSound}
use Rattle.game_rules.proofs.Tests.{all_get}
use Rattle.table_book.proofs.Soundness.{root_fits-below}
use Rattle.table_book.proofs.Holds.{hold_fault_of, next_entry}
use Rattle.table_book.proofs.holding.hold_book.Goals as goal

-- the entry is one of the book, and so its root names nodes of the table, which is held
pub add_entry-requires-clause-below : goal.add_entry-requires-clause-below
add_entry-requires-clause-below c =
    let so_far = c.loop-entry.invariant.2 in
    let here = next_entry c.args.book.table c.args.book.entries c.args.work c.loop-entry.held c.loop-entry.yielded _ c.in-Some.entry _
    so_far c.in-Some.ensures.steps.0 in
    let fits = all_get (EntryFits (length c.args.book.table)) c.args.book.entries (length c.loop-entry.yielded) c.in-Some.entry here.at
    c.requires.well_formed.text.entries in
    subst (λ (t : List Node). root_below c.in-Some.entry.root (length t) ≡ true) (sym so_far.table)
    (root_fits-below (length c.args.book.table) c.in-Some.entry.root fits.root)

-- and it is sound
pub add_entry-requires-clause-lawful : goal.add_entry-requires-clause-lawful
add_entry-requires-clause-lawful c =
    let here = next_entry c.args.book.table c.args.book.entries c.args.work c.loop-entry.held c.loop-entry.yielded _ c.in-Some.entry _
    c.loop-entry.invariant.2 c.in-Some.ensures.steps.0 in
    (all_get (IsSound c.args.book.table) c.args.book.entries (length c.loop-entry.yielded) c.in-Some.entry here.at
    c.requires.well_formed.entries).lawful

pub returns-in-Err-clause-refused : goal.returns-in-Err-clause-refused
returns-in-Err-clause-refused c =
    rw c.at.ensures.error (hold_fault_of c.args.book.table c.args.book.entries c.args.work c.loop-entry.held c.loop-entry.yielded _
    c.in-Some.entry _ c.loop-entry.invariant.2 c.in-Some.ensures.steps.0 (c.len-number.result + 1)
    (ap (λ n. n + 1) c.len-number.ensures.count) c.in-Err.error c.in-Err.ensures.refused c.in-Err.ensures.leads c.in-Err.ensures.spent)
