-- The command `book`: its words, what it says of its input, and what its status 0 shows.
use Rattle.std.specs.Prelude.{◌≡◌, ◌⊎◌, ℕ, ◌≤◌, List, [], ◌∷◌, ◌++◌, codes, length, sum_by, Option, IfSome}
use Rattle.std.specs.List.{AllByRecursion}
use Rattle.std.specs.Fmt.{decimal}
use Rattle.game_rules.specs.Play.{IsPosition}
use Rattle.strategy_graph.specs.declared.Node.{Node}
use Rattle.strategy_graph.specs.Roots.{AcceptedRoot, RootWins, root_depth}
use Rattle.text_lines.specs.Lines.{ended}
use Rattle.table_book.specs.declared.Book.{Book}
use Rattle.table_book.specs.declared.Entry.{Entry}
use Rattle.table_book.specs.Books.{IsTextOfBook}
use Rattle.table_book.specs.Holding.{entry_arrivals}
use Rattle.renju_io.specs.Told.{Takes}
use Rattle.command_base.specs.declared.status.Status.{Status}
use Rattle.command_base.specs.declared.status.Status.TheVariants.{Done, RefusedTable}
use Rattle.command_base.specs.Runs.{Change, Run}
use Rattle.command_base.specs.Told.{ToldCommand}
use Rattle.file_loading.specs.declared.TheConstants.{MAX_WORK}
use Rattle.file_loading.specs.BookFiles.{IsRefusedBook, IsBookAt, AreAccepted, IsRefusedEntry}

-- a book of which each entry is accepted: their number, and all arrivals
abbrev pub accepted_book_line : ℕ → ℕ → List ℕ
accepted_book_line entries arrivals = ended
    (codes "accepted " ++ decimal entries ++ codes " entries, " ++ decimal arrivals ++ codes " arrivals")

-- the arrivals of all entries
abbrev pub book_arrivals : Book → ℕ
book_arrivals book = sum_by (entry_arrivals book.table) book.entries

-- each entry is accepted, which is told with their number and all arrivals
pub record IsAcceptedBook (work : ℕ) (book : Book) (status : Status) (text : List ℕ) : Type 0 where
  pub accepted : AreAccepted work book
  pub ends : status ≡ Done
  pub line : text ≡ accepted_book_line (length book.entries) (book_arrivals book)

-- what is said of a book with so many arrivals allowed for each entry
abbrev pub EntriesSay : ℕ → Book → Status → List ℕ → Type 0
EntriesSay work book status text = IsAcceptedBook work book status text ⊎ IsRefusedEntry work book status text

-- What `book` says of an input that it has read whole: why the text is refused, or else what is said of its entries.
abbrev pub BookSays : ℕ → List ℕ → Status → List ℕ → Type 0
BookSays work input status text = IsRefusedBook input status text ⊎ ((book : Book) × IsBookAt book input × EntriesSay work book status text)

-- the words `book WORK`, with WORK in decimal without leading zeros
abbrev pub book_words : ℕ → List (List ℕ)
book_words work = codes "book" ∷ decimal work ∷ []

-- the arrivals of each entry are no more than this
abbrev pub AreWithin : ℕ → Book → Type 0
AreWithin work book = AllByRecursion (λ e. entry_arrivals book.table e ≤ work) book.entries

-- `book WORK`. It answers for a book that is well formed, and has no entry with more arrivals than are allowed: it accepts it, or refuses
-- an entry.
abbrev pub book_command : ℕ → ToldCommand
book_command work = record {
  words = book_words work;
  in_range = (1 ≤ work) × (work ≤ MAX_WORK);
  Says = BookSays work;
  IsAnswerable = λ input. (book : Book) × IsBookAt book input × AreWithin work book;
  IsAnswer = λ status. (status ≡ Done) ⊎ (status ≡ RefusedTable);
}

-- The position of the entry is lawful under its rule. Its root is accepted there with at most so many arrivals, its number of moves is
-- the depth of the root, and it wins within that number whatever the replies.
pub record IsWonEntry (t : List Node) (work : ℕ) (e : Entry) : Type 0 where
  pub lawful : IsPosition e.kind e.board
  pub accepted : AcceptedRoot e.kind t e.root e.board
  pub within : entry_arrivals t e ≤ work
  pub depth : e.moves ≡ root_depth t e.root
  pub wins : RootWins e.kind e.root e.moves e.board

-- The bytes are the text of a book, and of each entry this holds. The output took the line with their number and all arrivals, whole.
pub record IsWonBook (work : ℕ) (bytes : List ℕ) (output : Change (Option (List ℕ))) : Type 0 where
  pub book : Book
  pub text : IsTextOfBook book bytes
  pub entries : AllByRecursion (IsWonEntry book.table work) book.entries
  pub line : Takes output.before (accepted_book_line (length book.entries) (book_arrivals book)) output.after

-- The headline of `book`: where it answers 0, and the input tells its bytes, each entry of the book is accepted and wins.
abbrev pub ShowsBook : Run → Type 0
ShowsBook run =
    (work : ℕ) → run.words ≡ book_words work → 1 ≤ work → work ≤ MAX_WORK → run.status ≡ 0
    → IfSome run.input.before (λ bytes. IsWonBook work bytes run.output)
