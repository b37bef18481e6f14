-- Entries that are asked one after another, and what is said of the first at which something is wrong.
use Rattle.std.proofs.Common.{rules, ◌≡◌, ℕ, ◌+◌, ◌-◌, refl, sym, ◌∙◌, arith, List, take, Some, None, slice_get, true, lt-ltb}
use Rattle.std.specs.List.{AllByRecursion}
use Rattle.foul_judge.proofs.Lawfulness.{none_from_lawful}
use Rattle.table_book.proofs.Common.{root_below, Root, Book, Entry, IsSound, IsTextOfBook, IsWellFormed, EntryRootFits, IsBookFault}
use Rattle.table_book.proofs.Common.{IsEarliest, IsUnsound, BooksReadBack}
use Rattle.table_book.specs.declared.error.BookError.{BookError}
use Rattle.table_book.specs.declared.error.BookError.TheVariants.{BadLine, Unlawful, WrongMoves, Memory}
use Rattle.game_rules.proofs.Tests.{all_get}
use Rattle.table_book.proofs.BookLaws.{one_book}

-- a root that fits names only nodes of the book
pub root_fits-below : (k : ℕ) (r : Root) → EntryRootFits k r → root_below r k ≡ true
root_fits-below k x1 fits = search (rules, lt-ltb)

-- the entry at a place is the first at which P fails, where P holds of those before it
pub earliest_at : (P : Entry → Type 0) (es : List Entry) (i n : ℕ) (e : Entry) → n ≡ i + 1 → slice_get es i ≡ Some e
    → AllByRecursion P (take i es) → IsEarliest P es n e
earliest_at P es i n e next at before = search rules

-- what is said of the entries of a book is said of its text
pub unsound_fault : (book : Book) (bytes : List ℕ) → IsTextOfBook book bytes → (error : BookError) → IsUnsound book.table book.entries error
    → IsBookFault bytes error
unsound_fault book bytes text x3 h = grind (arith, one_book)

-- ---- nothing is said against a book that is well formed

sound_there : (book : Book) (n : ℕ) (e : Entry) → IsWellFormed book → slice_get book.entries (n - 1) ≡ Some e → IsSound book.table e
sound_there book n e well at = all_get (IsSound book.table) book.entries (n - 1) e at well.entries

no_book_fault : (book : Book) (bytes : List ℕ) → IsTextOfBook book bytes → IsWellFormed book → (error : BookError) → IsBookFault bytes error
    → error ≡ Memory
no_book_fault book bytes text well (BadLine n) h = absurd (h.no_further bytes (book, text) refl)
no_book_fault book bytes text well (Unlawful n why) h =
    let at = h.1 book text in
    let sound = sound_there book n at.entry well at.earliest.entry in
    let no : None ≡ Some why = sym (none_from_lawful at.entry.kind at.entry.board sound.lawful) ∙ at.unlawful in
    cc
no_book_fault book bytes text well (WrongMoves n written counted) h =
    let at = h.1 book text in
    let sound = sound_there book n at.entry well at.earliest.entry in
    absurd (at.miscounted.differ (at.miscounted.says ∙ sound.moves ∙ sym at.miscounted.depth))
no_book_fault book bytes text well Memory h = refl

pub book-read-back : BooksReadBack
book-read-back book bytes text well = search (rules, one_book, no_book_fault)
