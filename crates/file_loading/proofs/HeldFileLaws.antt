-- What a FILE gives to be held: it is one thing, of which nothing is told; and which statuses are told of others.
use Rattle.std.proofs.Common.{◌≡◌, inl, inr, refl, sym, ap, subst, ◌∙◌, ◌⊎◌, ℕ, ◌<◌, ◌≤◌, List, [], ◌∷◌, length, map, arith, ◌≢◌, Option}
use Rattle.std.proofs.Common.{Some, None, IfSome, IsSomeAnd}
use Rattle.std.proofs.lemmas.Option.{same_Some}
use Rattle.strategy_checker.specs.HeldRoots.{HeldTable}
use Rattle.file_loading.proofs.Common.{TableFile, Files, MAX_INPUT_BYTES, Status, Done, ShelfFault, WriteFault, TooLong, RefusedText}
use Rattle.file_loading.proofs.Common.{RefusedTable, Spent, BRAIN_WORK, status_number, Change, Run, HasFailed, IsDelivered, HasNoFault}
use Rattle.file_loading.proofs.Common.{IsTableAt, IsRefusedTable, IsSpentWork, held_by, named_entry, of_book, of_table, HeldFile, NamedRoot}
use Rattle.file_loading.proofs.Common.{IsFit, IsHeldText, IsLoaded, BookFileSays, FileSays, TableFileSays, IsUnheld, IsLoadedAs}
use Rattle.file_loading.proofs.Common.{IsLoadedBookText, IsLoadedFrom, IsLoadedHeld, IsLoadedText, AreAccepted, IsBookAt, IsRefusedEntry}
use Rattle.file_loading.proofs.Common.{hold_refusal_status, Book, HoldError, Refused}
use Rattle.position_files.proofs.ReadBack.{table-read-back}
use Rattle.renju_io.specs.Files.{file_under}
use Rattle.command_base.specs.declared.status.Status.TheVariants.{ReadFault}
use Rattle.command_base.specs.Texts.{too_long_line}
use Rattle.file_loading.specs.declared.loading.Holdable.{Holdable}
use Rattle.file_loading.specs.declared.loading.Holdable.TheVariants.{Table, TableOrBook}
use Rattle.file_loading.specs.declared.loading.Loaded.{Loaded}
use Rattle.file_loading.specs.declared.loading.Loaded.TheVariants.{Holds, Tells}
use Rattle.command_base.proofs.ToldLaws.{longer-than, told-some}
use Rattle.file_loading.proofs.TableFileLaws.{one-table}
use Rattle.file_loading.proofs.BookFileLaws.{book-not_refused, entries-not_refused, one-book}
use Rattle.strategy_checker.specs.declared.held.HeldRoot.{HeldRoot}
use Rattle.table_book.specs.declared.Entry.{Entry}
use Rattle.table_book.specs.Holding.{held_entry}
use Rattle.table_book.specs.Books.{BeginsBook}
use Rattle.table_book.proofs.Beginnings.{book-begins, table-no-book}
use Rattle.table_book.specs.declared.error.HoldError.TheVariants.{Spent as SpentEntry, Memory as NotHeld}

-- ---- a FILE that is too long

-- a file under a name that is too long
long-under : (name : List ℕ) (files : Files) (found : Option (List ℕ)) → file_under name files ≡ found
    → IsSomeAnd found (λ bytes. MAX_INPUT_BYTES < length bytes) → (bytes : List ℕ) × (found ≡ Some bytes) × (MAX_INPUT_BYTES < length bytes)
long-under name files None is h = absurd h
long-under name files (Some bytes) is h = (bytes, refl, h)

-- bytes that the shelf has under the name and that are too many: those that it tells, and else some
long-file : (name : List ℕ) (files : Option Files)
    → IfSome files (λ told. IsSomeAnd (file_under name told) (λ bytes. MAX_INPUT_BYTES < length bytes))
    → (bytes : List ℕ) × IfSome files (λ told. file_under name told ≡ Some bytes) × (MAX_INPUT_BYTES < length bytes)
long-file name (Some told) h = long-under name told (file_under name told) refl h
long-file name None h = let x = longer-than MAX_INPUT_BYTES in (x.0, tt, x.1)

pub unheld-long : (Says : List ℕ → Status → List ℕ → Type 0) (shelf : Change (Option Files)) (name : List ℕ) (status : Status)
    (text : List ℕ) → IfSome shelf.before (λ told. IsSomeAnd (file_under name told) (λ bytes. MAX_INPUT_BYTES < length bytes))
    → HasNoFault shelf → status ≡ TooLong → text ≡ too_long_line → IsUnheld Says shelf name status text
unheld-long Says shelf name status text more sound ends line =
    let long = long-file name shelf.before more in
    inr (inl (record { bytes = long.0; loaded = record { found = long.1; sound = sound }; long = long.2; ends = ends; line = line }))

-- ---- what a FILE gives

-- the text of a table that is accepted is not refused
pub table-not_told : (work : ℕ) (file : TableFile) (bytes : List ℕ) → IsTableAt file bytes → IsFit work file → (status : Status)
    (text : List ℕ) → TableFileSays work bytes status text → ⊥
table-not_told work file bytes at fit status text (inl refused) =
    let only = table-read-back file bytes at.text at.lawful at.moves in refused.cause (only.no_fault refused.error refused.fault)
table-not_told work file bytes at fit status text (inr said) =
    by-verdict (subst (λ (f : TableFile). IsRefusedTable f status text ⊎ IsSpentWork work f status text)
    (one-table file said.0 bytes at said.1) said.2) where
      by-verdict : IsRefusedTable file status text ⊎ IsSpentWork work file status text → ⊥
      by-verdict (inl refused) = refused.refused fit.accepted
      by-verdict (inr spent) = let more = spent.more in let few = fit.within in omega (arith, more, few)

-- nor is that of a book of which each entry is accepted
pub book-not_told : (book : Book) (bytes : List ℕ) → IsBookAt book bytes → AreAccepted BRAIN_WORK book → (status : Status) (text : List ℕ)
    → BookFileSays bytes status text → ⊥
book-not_told book bytes at fit status text (inl refused) = book-not_refused book bytes at status text refused
book-not_told book bytes at fit status text (inr said) = entries-not_refused BRAIN_WORK book status text fit
    (subst (λ (b : Book). IsRefusedEntry BRAIN_WORK b status text) (one-book book said.0 bytes at said.1) said.2)

-- what bytes give is not told of
pub held-not_told : (file : HeldFile) (bytes : List ℕ)
    → IsHeldText file bytes → (status : Status) (text : List ℕ) → FileSays bytes status text → ⊥
held-not_told file bytes (inl table) status text (inl says) = table-no-book table.file bytes table.at.text says.0
held-not_told file bytes (inl table) status text (inr says) =
    table-not_told BRAIN_WORK table.file bytes table.at table.fit status text says.1
held-not_told file bytes (inr book) status text (inl says) = book-not_told book.book bytes book.at book.fit status text says.1
held-not_told file bytes (inr book) status text (inr says) = says.0 (book-begins book.book bytes book.at.text)

-- bytes give one thing
pub one-held : (file other : HeldFile) (bytes : List ℕ) → IsHeldText file bytes → IsHeldText other bytes → other ≡ file
one-held file other bytes (inl table) (inl second) =
    second.gives ∙ ap of_table (one-table table.file second.file bytes table.at second.at) ∙ sym table.gives
one-held file other bytes (inl table) (inr second) =
    absurd (table-no-book table.file bytes table.at.text (book-begins second.book bytes second.at.text))
one-held file other bytes (inr book) (inl second) =
    absurd (table-no-book second.file bytes second.at.text (book-begins book.book bytes book.at.text))
one-held file other bytes (inr book) (inr second) =
    second.gives ∙ ap of_book (one-book book.book second.book bytes book.at second.at) ∙ sym book.gives

-- the roots of entries, as they are held
named-roots : (es : List Entry) → map (λ (r : NamedRoot). r.root) (map named_entry es) ≡ map held_entry es
named-roots [] = refl
named-roots (e ∷ es) = ap (λ (l : List HeldRoot). held_entry e ∷ l) (named-roots es)

-- the table of a book, held with the roots of its entries
pub book-held : (book : Book) (held : HeldTable) → held.table ≡ book.table → held.roots ≡ map held_entry book.entries
    → held ≡ held_by (of_book book)
book-held book held table roots =
    let all : held.roots ≡ map (λ (r : NamedRoot). r.root) (map named_entry book.entries) = roots ∙ sym (named-roots book.entries) in
    λ i. record { table = table i; roots = all i }

-- what comes of bytes, by their first line
pub loaded-book : (bytes : List ℕ) (loaded : Loaded) → BeginsBook bytes → IsLoadedBookText bytes loaded → IsLoadedHeld bytes loaded
loaded-book bytes (Holds held) begins is = (of_book is.0, inr (record { book = is.0; at = is.1; fit = is.2; gives = refl }), is.3)
loaded-book bytes (Tells answer) begins is = inl (begins, is)

pub loaded-table : (bytes : List ℕ) (loaded : Loaded) → ¬ BeginsBook bytes → IsLoadedText bytes loaded → IsLoadedHeld bytes loaded
loaded-table bytes (Holds held) apart is = (of_table is.0, inl (record { file = is.0; at = is.1; fit = is.2; gives = refl }), is.3)
loaded-table bytes (Tells answer) apart is = inr (apart, is)

-- ---- a FILE that is loaded

-- what comes of bytes that the shelf gave comes of the file
pub loaded-from : (holdable : Holdable) (shelf : Change (Option Files)) (name bytes : List ℕ) → IsLoaded shelf name bytes
    → length bytes ≤ MAX_INPUT_BYTES → (loaded : Loaded) → IsLoadedAs holdable bytes loaded → IsLoadedFrom holdable shelf name loaded
loaded-from holdable shelf name bytes given fits (Holds held) is = record { bytes = bytes; loaded = given; fits = fits; gives = is }
loaded-from Table shelf name bytes given fits (Tells answer) is = inl (record { bytes = bytes; loaded = given; fits = fits; says = is })
loaded-from TableOrBook shelf name bytes given fits (Tells answer) is =
    inl (record { bytes = bytes; loaded = given; fits = fits; says = is })

-- where the status of what is told of a file is that of no fault, the shelf has counted none
pub unheld-sound : (Says : List ℕ → Status → List ℕ → Type 0) (shelf : Change (Option Files)) (name : List ℕ) (status : Status)
    (text : List ℕ) → IsUnheld Says shelf name status text → status ≢ ShelfFault → HasNoFault shelf
unheld-sound Says shelf name status text (inl refused) other = refused.loaded.sound
unheld-sound Says shelf name status text (inr (inl long)) other = long.loaded.sound
unheld-sound Says shelf name status text (inr (inr fault)) other = absurd (other fault.ends)

pub told-sound : (Says : List ℕ → Status → List ℕ → Type 0) (shelf : Change (Option Files)) (name : List ℕ) (status : Status)
    (text : List ℕ) (output : Change (Option (List ℕ))) (number : ℕ) → IsUnheld Says shelf name status text
    → IsDelivered status text output number → number ≢ status_number ShelfFault → number ≢ status_number WriteFault → HasNoFault shelf
told-sound Says shelf name status text output number why (inr part) other whole = absurd (whole part.0)
told-sound Says shelf name status text output number why (inl took) other whole =
    unheld-sound Says shelf name status text why (λ is. other (took.0 ∙ ap status_number is))

module _ (name : List ℕ) (run : Run) (files : Files) (told : run.shelf.before ≡ Some files) where
  pub found-under : (bytes : List ℕ) → IsLoaded run.shelf name bytes → file_under name files ≡ Some bytes
  found-under bytes loaded = told-some (λ all. file_under name all ≡ Some bytes) run.shelf.before files told loaded.found

  module _ (own : List ℕ) (found : file_under name files ≡ Some own) where
    -- the bytes that were loaded are those under the name
    pub same-bytes : (bytes : List ℕ) → IsLoaded run.shelf name bytes → bytes ≡ own
    same-bytes bytes loaded = same_Some bytes own (sym (found-under bytes loaded) ∙ found)

    -- where they are not too many, and nothing is said of them, it was the shelf that failed
    pub not-told : (Says : List ℕ → Status → List ℕ → Type 0) → length own ≤ MAX_INPUT_BYTES
        → ((status : Status) (text : List ℕ) → Says own status text → ⊥)
        → (status : Status) (text : List ℕ) → IsUnheld Says run.shelf name status text → HasFailed run.shelf
    not-told Says fits silent status text (inl refused) =
        absurd (silent status text (subst (λ (l : List ℕ). Says l status text) (same-bytes refused.bytes refused.loaded) refused.says))
    not-told Says fits silent status text (inr (inl long)) =
        let size = ap length (same-bytes long.bytes long.loaded) in
        let more = long.long in
        absurd (omega (arith, size, more, fits))
    not-told Says fits silent status text (inr (inr fault)) = fault.failed

-- ---- which statuses are told

-- a number that is neither that of the end of a session nor that of a failing input
abbrev pub IsOther : ℕ → Type 0
IsOther n = (n ≡ 0 → ⊥) × (n ≡ 7 → ⊥)

other-by : (status told : Status) → status ≡ told → IsOther (status_number told) → IsOther (status_number status)
other-by status told is other = subst (λ (s : Status). IsOther (status_number s)) (sym is) other

pub table_told-other : (work : ℕ) (bytes : List ℕ) (status : Status) (text : List ℕ) → TableFileSays work bytes status text
    → IsOther (status_number status)
table_told-other work bytes status text (inl refused) = other-by status RefusedText refused.ends (λ e. absurd (cc), λ e. absurd (cc))
table_told-other work bytes status text (inr said) = by-verdict said.0 said.2 where
  by-verdict : (file : TableFile) → IsRefusedTable file status text ⊎ IsSpentWork work file status text → IsOther (status_number status)
  by-verdict file (inl refused) = other-by status RefusedTable refused.ends (λ e. absurd (cc), λ e. absurd (cc))
  by-verdict file (inr spent) = other-by status Spent spent.ends (λ e. absurd (cc), λ e. absurd (cc))

book_told-other : (bytes : List ℕ) (status : Status) (text : List ℕ) → BookFileSays bytes status text → IsOther (status_number status)
book_told-other bytes status text (inl refused) = other-by status RefusedText refused.ends (λ e. absurd (cc), λ e. absurd (cc))
book_told-other bytes status text (inr said) = by-error said.2.error said.2.cause said.2.ends where
  by-error : (error : HoldError) → (error ≡ NotHeld → ⊥) → status ≡ hold_refusal_status error → IsOther (status_number status)
  by-error (Refused n line why) cause ends = other-by status RefusedTable ends (λ e. absurd (cc), λ e. absurd (cc))
  by-error (SpentEntry n) cause ends = other-by status Spent ends (λ e. absurd (cc), λ e. absurd (cc))
  by-error NotHeld cause ends = absurd (cause refl)

pub file-other : (bytes : List ℕ) (status : Status) (text : List ℕ) → FileSays bytes status text → IsOther (status_number status)
file-other bytes status text (inl says) = book_told-other bytes status text says.1
file-other bytes status text (inr says) = table_told-other BRAIN_WORK bytes status text says.1

pub unheld-other : (Told : List ℕ → Status → List ℕ → Type 0)
    → ((bytes : List ℕ) (status : Status) (text : List ℕ) → Told bytes status text → IsOther (status_number status))
    → (shelf : Change (Option Files)) (name : List ℕ) (status : Status) (text : List ℕ) → IsUnheld Told shelf name status text
    → IsOther (status_number status)
unheld-other Told other shelf name status text (inl refused) = other refused.bytes status text refused.says
unheld-other Told other shelf name status text (inr (inl long)) = other-by status TooLong long.ends (λ e. absurd (cc), λ e. absurd (cc))
unheld-other Told other shelf name status text (inr (inr fault)) =
    other-by status ShelfFault fault.ends (λ e. absurd (cc), λ e. absurd (cc))

-- what is delivered with such a status, or with that of a write fault, is neither
pub delivered-other : (status : Status) (text : List ℕ) (output : Change (Option (List ℕ))) (number : ℕ) → IsOther (status_number status)
    → IsDelivered status text output number → IsOther number
delivered-other status text output number other (inl whole) = subst IsOther (sym whole.0) other
delivered-other status text output number other (inr failed) = subst IsOther (sym failed.0) (λ e. absurd (cc), λ e. absurd (cc))

-- the number of a session's end, or of a failing input, is no other
pub not-other : (n : ℕ) → (n ≡ status_number Done) ⊎ (n ≡ status_number ReadFault) → IsOther n → ⊥
not-other n (inl done) other = other.0 done
not-other n (inr failed) other = other.1 failed
