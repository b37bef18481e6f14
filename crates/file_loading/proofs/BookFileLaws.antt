-- The text of a book has one book, and one whose entries are accepted is not refused.
use Rattle.std.proofs.Common.{◌≡◌, refl, ℕ, ◌-◌, List, arith}
use Rattle.game_rules.proofs.Tests.{all_get}
use Rattle.file_loading.proofs.Common.{Book, HoldError, Refused, Status, AreAccepted, IsBookAt, IsRefusedBook, IsRefusedEntry}
use Rattle.table_book.specs.declared.error.HoldError.TheVariants.{Spent as SpentEntry, Memory as NotHeld}
use Rattle.table_book.specs.Holding.{IsAccepted, IsHoldFault}
use Rattle.table_book.proofs.Soundness.{book-read-back}

-- bytes are the text of one book
pub one-book : (book other : Book) (bytes : List ℕ) → IsBookAt book bytes → IsBookAt other bytes → other ≡ book
one-book book other bytes at is = let only = book-read-back book bytes at.text at.well_formed in only.no_other other is.text

-- which is not refused
pub book-not_refused : (book : Book) (bytes : List ℕ) → IsBookAt book bytes → (status : Status) (text : List ℕ)
    → IsRefusedBook bytes status text → ⊥
book-not_refused book bytes at status text refused =
    let only = book-read-back book bytes at.text at.well_formed in refused.cause (only.no_fault refused.error refused.fault)

-- entries that are accepted are not refused
pub entries-not_refused : (work : ℕ) (book : Book) (status : Status) (text : List ℕ) → AreAccepted work book
    → IsRefusedEntry work book status text → ⊥
entries-not_refused work book status text accepted refused = by-error refused.error refused.cause refused.fault where
  by-error : (error : HoldError) → (error ≡ NotHeld → ⊥) → IsHoldFault book.table book.entries work error → ⊥
  by-error (Refused n line why) cause fault =
      let is = all_get (IsAccepted book.table work) book.entries (n - 1) fault.entry fault.earliest.entry accepted in
      fault.refused is.accepted
  by-error (SpentEntry n) cause fault =
      let is = all_get (IsAccepted book.table work) book.entries (n - 1) fault.entry fault.earliest.entry accepted in
      let few = is.arrivals in
      let more = fault.spent in
      omega (arith, few, more)
  by-error NotHeld cause fault = cause refl
