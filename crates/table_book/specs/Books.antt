-- The text of a book, line by line, and which bytes are one; which books are well formed.
use Rattle.std.specs.Prelude.{◌≡◌, ℕ, ◌<◌, ◌≤◌, List, [], ◌∷◌, ◌++◌, map, length, codes}
use Rattle.std.specs.List.{AllByRecursion, flat_map}
use Rattle.std.specs.Fmt.{decimal}
use Rattle.game_rules.specs.Grid.{IsBoard}
use Rattle.game_rules.specs.Play.{IsPosition}
use Rattle.game_rules.specs.declared.TheConstants.{MAX_SIDE}
use Rattle.strategy_graph.specs.Tables.{IsTable}
use Rattle.strategy_graph.specs.Roots.{root_depth}
use Rattle.strategy_graph.specs.declared.Node.{Node}
use Rattle.strategy_graph.specs.declared.roots.Root.{Root}
use Rattle.strategy_graph.specs.declared.roots.Root.TheVariants.{Attack, Defend}
use Rattle.text_lines.specs.Lines.{line_feed, text_of}
use Rattle.text_lines.specs.Reading.{IsBetween}
use Rattle.position_files.specs.Answers.{NodeFits, StartFits}
use Rattle.position_files.specs.Positions.{board_lines}
use Rattle.position_files.specs.Tables.{node_line, start_line}
use Rattle.position_files.specs.declared.TheConstants.{MAX_MOVES}
use Rattle.table_book.specs.declared.Book.{Book}
use Rattle.table_book.specs.declared.Entry.{Entry}
use Rattle.table_book.specs.declared.TheConstants.{MAX_ENTRIES}

-- the first line of a book
abbrev pub first_line : List ℕ
first_line = codes "renju-book 1"

-- the first line of the bytes is that of a book
abbrev pub BeginsBook : List ℕ → Type 0
BeginsBook bytes = (rest : List ℕ) × (bytes ≡ first_line ++ line_feed ∷ rest)

-- the line of the number of nodes
abbrev pub nodes_line : ℕ → List ℕ
nodes_line k = codes "nodes " ++ decimal k

-- the line of the number of entries
abbrev pub entries_line : ℕ → List ℕ
entries_line n = codes "entries " ++ decimal n

-- the line of a number of moves
abbrev pub move_count_line : ℕ → List ℕ
move_count_line m = codes "moves " ++ decimal m

-- the line of a root: the number of a node, or a start
abbrev pub root_line : Root → List ℕ
root_line (Attack i) = codes "root " ++ decimal i
root_line (Defend a) = start_line a

-- the lines of an entry: its rule and its board, its number of moves, and its root
unfoldable pub entry_lines : Entry → List (List ℕ)
entry_lines e = board_lines e.kind e.board ++ move_count_line e.moves ∷ root_line e.root ∷ []

-- the lines of a book: its nodes after their number, and its entries after theirs
unfoldable pub book_lines : Book → List (List ℕ)
book_lines book =
    first_line ∷ nodes_line (length book.table) ∷ map node_line book.table
    ++ entries_line (length book.entries) ∷ flat_map entry_lines book.entries

-- the text of a book
unfoldable pub book_text : Book → List ℕ
book_text book = text_of (book_lines book)

-- a root in a book of k nodes: it names nodes of the book alone, and a start names points of the largest board alone
abbrev pub EntryRootFits : ℕ → Root → Type 0
EntryRootFits k (Attack i) = i < k
EntryRootFits k (Defend a) = StartFits MAX_SIDE MAX_SIDE k a

-- an entry in a book of k nodes
pub record EntryFits (k : ℕ) (e : Entry) : Type 0 where
  pub board : IsBoard e.board
  pub moves : e.moves ≤ MAX_MOVES
  pub root : EntryRootFits k e.root

-- The book has a text: its nodes are a table and name points of the largest board alone, its entries fit, and there are enough of
-- them and not too many.
pub record HasText (book : Book) : Type 0 where
  pub table : IsTable book.table
  pub nodes : AllByRecursion (NodeFits MAX_SIDE MAX_SIDE) book.table
  pub entries : AllByRecursion (EntryFits (length book.table)) book.entries
  pub some : IsBetween 1 MAX_ENTRIES (length book.entries)

-- the bytes are the text of the book
pub record IsTextOfBook (book : Book) (bytes : List ℕ) : Type 0 where
  pub has : HasText book
  pub spelled : bytes ≡ book_text book

-- the bytes are the text of some book
abbrev pub IsBookText : List ℕ → Type 0
IsBookText bytes = (book : Book) × IsTextOfBook book bytes

-- the position of the entry is lawful under its rule, and its number of moves is the depth of its root
pub record IsSound (t : List Node) (e : Entry) : Type 0 where
  pub lawful : IsPosition e.kind e.board
  pub moves : e.moves ≡ root_depth t e.root

-- the book is well formed: it has a text, and each of its entries is sound
pub record IsWellFormed (book : Book) : Type 0 where
  pub text : HasText book
  pub entries : AllByRecursion (IsSound book.table) book.entries
