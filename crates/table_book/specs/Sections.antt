-- What a book holds line by line: an entry, entries one after another, what comes after the nodes, and all of it.
use Rattle.std.specs.Prelude.{◌≡◌, ℕ, List, ◌∷◌, ◌++◌, map, length}
use Rattle.std.specs.List.{AllByRecursion, flat_map}
use Rattle.game_rules.specs.declared.TheConstants.{MAX_SIDE}
use Rattle.strategy_graph.specs.declared.Node.{Node}
use Rattle.text_lines.specs.Reading.{IsBetween}
use Rattle.position_files.specs.Sections.{AreNodes}
use Rattle.position_files.specs.Tables.{node_line}
use Rattle.table_book.specs.declared.Book.{Book}
use Rattle.table_book.specs.declared.Entry.{Entry}
use Rattle.table_book.specs.declared.TheConstants.{MAX_ENTRIES}
use Rattle.table_book.specs.Books.{EntryFits, HasText, book_lines, entries_line, entry_lines}

-- the lines are those of an entry in a book of k nodes
abbrev pub IsEntryLines : ℕ → List (List ℕ) → Type 0
IsEntryLines k ls = (e : Entry) × EntryFits k e × (ls ≡ entry_lines e)

-- these are so many entries of a book of k nodes
pub record AreEntries (k count : ℕ) (es : List Entry) : Type 0 where
  pub fit : AllByRecursion (EntryFits k) es
  pub counted : length es ≡ count

-- the lines are those of so many entries
abbrev pub AreEntryLines : ℕ → ℕ → List (List ℕ) → Type 0
AreEntryLines k count ls = (es : List Entry) × AreEntries k count es × (ls ≡ flat_map entry_lines es)

-- the lines are those of a number of entries, and of the entries
abbrev pub IsEndLines : ℕ → List (List ℕ) → Type 0
IsEndLines k ls =
    (es : List Entry) × AllByRecursion (EntryFits k) es × IsBetween 1 MAX_ENTRIES (length es)
    × (ls ≡ entries_line (length es) ∷ flat_map entry_lines es)

-- the lines of a book from its nodes on
abbrev pub rest_lines : Book → List (List ℕ)
rest_lines book = map node_line book.table ++ entries_line (length book.entries) ∷ flat_map entry_lines book.entries

-- the lines are those of k nodes, which name points of the largest board, and of entries
abbrev pub IsRestLines : ℕ → List (List ℕ) → Type 0
IsRestLines k ls = (t : List Node) × (l : List (List ℕ)) × AreNodes MAX_SIDE MAX_SIDE k t × IsEndLines k l × (ls ≡ map node_line t ++ l)

-- the lines are those of a book
abbrev pub IsBookLines : List (List ℕ) → Type 0
IsBookLines ls = (book : Book) × HasText book × (ls ≡ book_lines book)
