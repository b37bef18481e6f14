-- How texts begin: a book with its first line, and a table with another.
use Rattle.std.proofs.Common.{◌≡◌, ℕ, List, drop, rules}
use Rattle.table_book.proofs.Common.{Grid, Node, Root, text_of, TableFile, Book, BeginsBook, IsTextOfBook, book_lines, book_text}
use Rattle.game_rules.specs.declared.RuleKind.{RuleKind}
use Rattle.position_files.specs.Tables.{IsTextOfTable, table_text}

-- the text of a book begins as one
pub book-begins : (book : Book) (bytes : List ℕ) → IsTextOfBook book bytes → BeginsBook bytes
unfolding book_text book_lines
book-begins book bytes text = (text_of (drop 1 (book_lines book)), text.spelled)

begins-apart : (kind : RuleKind) (b : Grid) (nodes : List Node) (root : Root) (moves : ℕ) (bytes : List ℕ)
    → bytes ≡ table_text kind b nodes root moves → BeginsBook bytes → ⊥
unfolding table_text
begins-apart kind b nodes x3 moves bytes e begins = search rules

-- that of a table does not
pub table-no-book : (file : TableFile) (bytes : List ℕ) → IsTextOfTable file bytes → BeginsBook bytes → ⊥
table-no-book file bytes text begins = begins-apart file.kind file.board file.table file.root file.moves bytes text.spelled begins
