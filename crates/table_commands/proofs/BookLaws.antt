-- The command `book`: its words, its answers, and what its status 0 shows.
use Rattle.std.proofs.Common.{◌≡◌, inl, inr, sym, subst, ◌⊎◌, ℕ, List, [], ◌∷◌, IfSome, rules}
use Rattle.std.specs.List.{AllByRecursion}
use Rattle.game_rules.proofs.Tests.{all_get}
use Rattle.table_commands.proofs.Common.{Node, Takes, Book, Status, Done, RefusedText, RefusedTable, status_number, Run, IsTold, AreWithin}
use Rattle.table_commands.proofs.Common.{BookSays, EntriesSay, IsWonBook, IsWonEntry, book_command}
use Rattle.strategy_graph.proofs.Starts.{accepted-root-wins}
use Rattle.table_book.specs.declared.Entry.{Entry}
use Rattle.table_book.specs.Books.{IsSound}
use Rattle.table_book.specs.Holding.{IsAccepted}
use Rattle.file_loading.specs.BookFiles.{IsBookAt, IsRefusedEntry}
use Rattle.command_base.proofs.ToldLaws.{done-told, other-status}
use Rattle.file_loading.proofs.BookFileLaws.{one-book, book-not_refused}

-- ---- one book

-- the status of entries whose arrivals are few enough
within-refused : (work : ℕ) (book : Book) (status : Status) (text : List ℕ) → AreWithin work book → IsRefusedEntry work book status text
    → status ≡ RefusedTable
within-refused work book status text few refused = search (rules, all_get)

-- what is said of a book for which the work is enough is an answer
pub book-answers : (work : ℕ) (bytes : List ℕ) → (book_command work).IsAnswerable bytes → (status : Status) (text : List ℕ)
    → BookSays work bytes status text → (book_command work).IsAnswer status
book-answers work bytes can status text (inl refused) = absurd (book-not_refused can.0 bytes can.1 status text refused)
book-answers work bytes can status text (inr said) = by-verdict said.2 where
  by-verdict : EntriesSay work said.0 status text → (status ≡ Done) ⊎ (status ≡ RefusedTable)
  by-verdict (inl accepted) = inl accepted.ends
  by-verdict (inr refused) = inr
      (within-refused work said.0 status text (subst (AreWithin work) (sym (one-book can.0 said.0 bytes can.1 said.1)) can.2) refused)

-- ---- status 0

-- an entry that is sound and accepted wins within its moves
won-entry : (t : List Node) (work : ℕ) (e : Entry) → IsSound t e → IsAccepted t work e → IsWonEntry t work e
won-entry t work e sound accepted = search (rules, accepted-root-wins)

won-entries : (t : List Node) (work : ℕ) (es : List Entry) → AllByRecursion (IsSound t) es → AllByRecursion (IsAccepted t work) es
    → AllByRecursion (IsWonEntry t work) es
won-entries t work [] sound accepted = tt
won-entries t work (e ∷ es) sound accepted = (won-entry t work e sound.0 accepted.0, won-entries t work es sound.1 accepted.1)

module _ (work : ℕ) (run : Run) (done : run.status ≡ 0) where
  by-entries : (bytes : List ℕ) (status : Status) (text : List ℕ) (book : Book) → IsBookAt book bytes → run.status ≡ status_number status
      → Takes run.output.before text run.output.after → EntriesSay work book status text → IsWonBook work bytes run.output
  by-entries bytes status text book at ends whole h = search (rules, won-entries, other-status)

  by-saying : (bytes : List ℕ) (status : Status) (text : List ℕ) → run.status ≡ status_number status
      → Takes run.output.before text run.output.after → BookSays work bytes status text → IsWonBook work bytes run.output
  by-saying bytes status text ends whole (inl refused) = absurd (let no = other-status run done status RefusedText ends refused.ends in cc)
  by-saying bytes status text ends whole (inr said) = by-entries bytes status text said.0 said.1 ends whole said.2

  -- what `book` did in a run that ends with 0
  pub book-shown : IsTold (BookSays work) run → IfSome run.input.before (λ bytes. IsWonBook work bytes run.output)
  book-shown = done-told (BookSays work) (λ bytes. IsWonBook work bytes run.output) run done by-saying
