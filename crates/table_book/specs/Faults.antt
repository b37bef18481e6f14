-- What is said of the text of a book that is refused.
use Rattle.std.specs.Prelude.{◌≡◌, ℕ, ◌-◌, ◌≤◌, List, Some, take, slice_get}
use Rattle.std.specs.List.{AllByRecursion}
use Rattle.game_rules.specs.Play.{IsPosition}
use Rattle.foul_judge.specs.Lawful.{refusal}
use Rattle.foul_judge.specs.declared.position.PositionError.{PositionError}
use Rattle.strategy_graph.specs.Roots.{root_depth}
use Rattle.strategy_graph.specs.declared.Node.{Node}
use Rattle.text_lines.specs.Lines.{FirstBad}
use Rattle.position_files.specs.declared.error.HeadError.{HeadError}
use Rattle.position_files.specs.declared.error.HeadError.TheVariants.{BadLine as BadHead, Memory as NoRoom}
use Rattle.table_book.specs.declared.Book.{Book}
use Rattle.table_book.specs.declared.Entry.{Entry}
use Rattle.table_book.specs.declared.error.BookError.{BookError}
use Rattle.table_book.specs.declared.error.BookError.TheVariants.{BadLine, Unlawful, WrongMoves, Memory}
use Rattle.table_book.specs.Books.{IsBookText, IsSound, IsTextOfBook}

-- the error, said of a whole book whose front the section is
abbrev pub in_book : HeadError → BookError
in_book (BadHead n) = BadLine n
in_book NoRoom = Memory

-- entry number n, counted from 1, is this one, and P holds of each entry before it
pub record IsEarliest (P : Entry → Type 0) (es : List Entry) (n : ℕ) (e : Entry) : Type 0 where
  pub counted : 1 ≤ n
  pub entry : slice_get es (n - 1) ≡ Some e
  pub before : AllByRecursion P (take (n - 1) es)

-- these are the number of moves that the entry says and the depth of its root, which differ, and its position is lawful
pub record IsMiscountedEntry (t : List Node) (e : Entry) (written counted : ℕ) : Type 0 where
  pub lawful : IsPosition e.kind e.board
  pub says : written ≡ e.moves
  pub depth : counted ≡ root_depth t e.root
  pub differ : written ≡ counted → ⊥

-- what each error says of the entry of this number
abbrev pub IsEntryFault : List Node → Entry → ℕ → BookError → Type 0
IsEntryFault t e number (BadLine n) = ⊥
IsEntryFault t e number (Unlawful n why) = (n ≡ number) × (refusal e.kind e.board ≡ Some why)
IsEntryFault t e number (WrongMoves n written counted) = (n ≡ number) × IsMiscountedEntry t e written counted
IsEntryFault t e number Memory = Unit {0}

-- the entries before entry n are sound, and its position is not lawful, for this cause
pub record IsUnlawfulAt (t : List Node) (es : List Entry) (n : ℕ) (why : PositionError) : Type 0 where
  pub entry : Entry
  pub earliest : IsEarliest (IsSound t) es n entry
  pub unlawful : refusal entry.kind entry.board ≡ Some why

-- the entries before entry n are sound, its position is lawful, and these are its two numbers of moves, which differ
pub record IsMiscountedAt (t : List Node) (es : List Entry) (n written counted : ℕ) : Type 0 where
  pub entry : Entry
  pub earliest : IsEarliest (IsSound t) es n entry
  pub miscounted : IsMiscountedEntry t entry written counted

-- what each error says of entries that are asked in their order: which is the first that is not sound, and why
abbrev pub IsUnsound : List Node → List Entry → BookError → Type 0
IsUnsound t es (BadLine n) = ⊥
IsUnsound t es (Unlawful n why) = IsUnlawfulAt t es n why
IsUnsound t es (WrongMoves n written counted) = IsMiscountedAt t es n written counted
IsUnsound t es Memory = Unit {0}

-- What each error says of bytes that are to be the text of a book: that line n is the first bad one; or that they are such a text,
-- and which of its entries is the first that is not sound, and why; or that there is no memory.
abbrev pub IsBookFault : List ℕ → BookError → Type 0
IsBookFault bytes (BadLine n) = FirstBad IsBookText bytes n
IsBookFault bytes (Unlawful n why) = IsBookText bytes
    × ((book : Book) → IsTextOfBook book bytes → IsUnlawfulAt book.table book.entries n why)
IsBookFault bytes (WrongMoves n written counted) =
    IsBookText bytes × ((book : Book) → IsTextOfBook book bytes → IsMiscountedAt book.table book.entries n written counted)
IsBookFault bytes Memory = Unit {0}
