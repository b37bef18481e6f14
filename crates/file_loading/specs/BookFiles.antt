-- The text of a book: what its bytes are, when each entry is accepted, and what is told of one that is refused.
use Rattle.std.specs.Prelude.{◌≡◌, ◌≢◌, ℕ, List, [], ◌++◌, codes}
use Rattle.std.specs.List.{AllByRecursion}
use Rattle.std.specs.Fmt.{decimal}
use Rattle.position_files.specs.declared.error.FileError.TheVariants.{Unlawful as UnlawfulText, WrongMoves as WrongText}
use Rattle.table_book.specs.declared.Book.{Book}
use Rattle.table_book.specs.declared.error.BookError.{BookError}
use Rattle.table_book.specs.declared.error.BookError.TheVariants.{BadLine, Unlawful, WrongMoves, Memory as NoBook}
use Rattle.table_book.specs.declared.error.HoldError.{HoldError}
use Rattle.table_book.specs.declared.error.HoldError.TheVariants.{Refused, Spent as SpentEntry, Memory as NotHeld}
use Rattle.table_book.specs.Books.{IsTextOfBook, IsWellFormed}
use Rattle.table_book.specs.Faults.{IsBookFault}
use Rattle.table_book.specs.Holding.{IsAccepted, IsHoldFault}
use Rattle.command_base.specs.declared.status.Status.{Status}
use Rattle.command_base.specs.declared.status.Status.TheVariants.{RefusedText, RefusedTable, Spent, Memory}
use Rattle.command_base.specs.Texts.{spent_line}
use Rattle.command_base.specs.Refusals.{bad_line, refusal_line}
use Rattle.file_loading.specs.TableFiles.{refused_table_line, why_word}

-- what is said of an entry: its number, and what would be said of its text alone
abbrev pub entry_line : ℕ → List ℕ → List ℕ
entry_line number line = codes "entry " ++ decimal number ++ (codes " " ++ line)

-- what the text of a book that is refused is told
abbrev pub book_refusal_line : BookError → List ℕ
book_refusal_line (BadLine n) = bad_line n
book_refusal_line (Unlawful number why) = entry_line number (refusal_line (UnlawfulText why))
book_refusal_line (WrongMoves number written counted) = entry_line number (refusal_line (WrongText written counted))
book_refusal_line NoBook = []

-- the text is refused for a fault that it has, which is told; want of memory is no fault of a text
pub record IsRefusedBook (input : List ℕ) (status : Status) (text : List ℕ) : Type 0 where
  pub error : BookError
  pub cause : error ≢ NoBook
  pub fault : IsBookFault input error
  pub ends : status ≡ RefusedText
  pub line : text ≡ book_refusal_line error

-- the input is the text of a book that is well formed
pub record IsBookAt (book : Book) (input : List ℕ) : Type 0 where
  pub text : IsTextOfBook book input
  pub well_formed : IsWellFormed book

-- each entry is accepted with at most so many arrivals
abbrev pub AreAccepted : ℕ → Book → Type 0
AreAccepted work book = AllByRecursion (IsAccepted book.table work) book.entries

-- what an entry that is not accepted is told
abbrev pub hold_refusal_line : HoldError → List ℕ
hold_refusal_line (Refused number line why) = entry_line number (refused_table_line (why_word why) line)
hold_refusal_line (SpentEntry number) = entry_line number spent_line
hold_refusal_line NotHeld = []

-- the status of a book with such an entry
abbrev pub hold_refusal_status : HoldError → Status
hold_refusal_status (Refused number line why) = RefusedTable
hold_refusal_status (SpentEntry number) = Spent
hold_refusal_status NotHeld = Memory

-- an entry is not accepted with so many arrivals, and those before it are, which is told
pub record IsRefusedEntry (work : ℕ) (book : Book) (status : Status) (text : List ℕ) : Type 0 where
  pub error : HoldError
  pub cause : error ≢ NotHeld
  pub fault : IsHoldFault book.table book.entries work error
  pub ends : status ≡ hold_refusal_status error
  pub line : text ≡ hold_refusal_line error
