-- The lines of books: they have no line feed, and spell one book.
use Rattle.std.proofs.Common.{◌≡◌, ℕ, ◌+◌, ◌*◌, refl, sym, ap, ◌∙◌, arith, List, [], ◌∷◌, ◌++◌, append_assoc, length, map, drop, get_or}
use Rattle.std.proofs.Common.{codes, Bor, rules, ◌↔◌, IsTrue, Option, Some, None, is_some, option_copied, flat_map}
use Rattle.std.specs.Fmt.{decimal}
use Rattle.std.proofs.lemmas.Fmt.{decimal_injective}
use Rattle.std.proofs.lemmas.List.{append_cancel_left, append-nil, length-append, length-map}
use Rattle.table_book.proofs.Common.{MAX_SIDE, line_feed, text_of, node_line, Book, BeginsBook, HasText, IsTextOfBook, book_lines}
use Rattle.table_book.proofs.Common.{book_text, entries_line, entry_lines, first_line, nodes_line}
use Rattle.text_lines.proofs.Common.{Reads}
use Rattle.text_lines.proofs.TextLaws.{AreFree, free_append, text_of-injective}
use Rattle.position_files.proofs.SectionLaws.{node_lines-free, nodes_injective, number-free}
use Rattle.table_book.proofs.Lists.{same_parts}
use Rattle.table_book.proofs.EntryLaws.{entries-free, entries-injective, entries-length, largest_side}

pub book-free : (book : Book) → HasText book → AreFree (book_lines book)
unfolding book_lines
book-free book has =
    let size = has.table.size in
    let few = has.some.few in (
      refl,
      (
        number-free (codes "nodes ") (length book.table) refl (omega (arith, size)),
        free_append (map node_line book.table) (entries_line (length book.entries) ∷ flat_map entry_lines book.entries)
            (node_lines-free MAX_SIDE MAX_SIDE largest_side largest_side book.table has.nodes) (
              number-free (codes "entries ") (length book.entries) refl (omega (arith, few)),
              entries-free (length book.table) book.entries (omega (arith, size)) has.entries,
            ),
      ),
    )

pub book-length : (book : Book) → length (book_lines book) ≡ 3 + length book.table + 6 * length book.entries
unfolding book_lines
book-length book = search (rules, length-map, entries-length, length-append)

-- where the lines of a book begin those of another, both have as many nodes and as many entries
pub record SameNumbers (book other : Book) : Type 0 where
  pub nodes : length other.table ≡ length book.table
  pub entries : length other.entries ≡ length book.entries

pub same_numbers : (book other : Book) (more : List (List ℕ)) → HasText book → HasText other → book_lines other ≡ book_lines book ++ more
    → SameNumbers book other
unfolding book_lines
same_numbers book other more has has_other e =
    let size = has.table.size in
    let size_other = has_other.table.size in
    let few = has.some.few in
    let few_other = has_other.some.few in
    let line : nodes_line (length other.table) ≡ nodes_line (length book.table) = ap (λ (l : List (List ℕ)). get_or l 1 []) e in
    let nodes : length other.table ≡ length book.table =
    decimal_injective (length other.table) (length book.table) (omega (arith, size_other)) (omega (arith, size))
    (append_cancel_left (codes "nodes ") (decimal (length other.table)) (decimal (length book.table)) line) in
    let ours : List (List ℕ) = entries_line (length book.entries) ∷ flat_map entry_lines book.entries in
    let theirs : List (List ℕ) = entries_line (length other.entries) ∷ flat_map entry_lines other.entries in
    let rest : map node_line other.table ++ theirs ≡ (map node_line book.table ++ ours) ++ more = ap (drop 2) e in
    let parts = same_parts (map node_line other.table) theirs (map node_line book.table) (ours ++ more)
    (length-map other.table node_line ∙ nodes ∙ sym (length-map book.table node_line))
    (rest ∙ append_assoc (map node_line book.table) ours more) in
    let number : entries_line (length other.entries) ≡ entries_line (length book.entries) =
    ap (λ (l : List (List ℕ)). get_or l 0 []) parts.1 in
    record {
      nodes = nodes;
      entries = decimal_injective (length other.entries) (length book.entries) (omega (arith, few_other)) (omega (arith, few))
          (append_cancel_left (codes "entries ") (decimal (length other.entries)) (decimal (length book.entries)) number);
    }

-- lines spell one book
book_lines-injective : (book other : Book) → HasText book → HasText other → book_lines book ≡ book_lines other → book ≡ other
unfolding book_lines
book_lines-injective book other has has_other e =
    let size = has.table.size in
    let size_other = has_other.table.size in
    let numbers = same_numbers book other [] has has_other (sym e ∙ sym (append-nil (book_lines book))) in
    let ours : List (List ℕ) = entries_line (length book.entries) ∷ flat_map entry_lines book.entries in
    let theirs : List (List ℕ) = entries_line (length other.entries) ∷ flat_map entry_lines other.entries in
    let rest : map node_line book.table ++ ours ≡ map node_line other.table ++ theirs = ap (drop 2) e in
    let parts = same_parts (map node_line book.table) ours (map node_line other.table) theirs
    (length-map book.table node_line ∙ sym numbers.nodes ∙ sym (length-map other.table node_line)) rest in
    let table = nodes_injective MAX_SIDE MAX_SIDE largest_side largest_side book.table other.table has.nodes has_other.nodes parts.0 in
    let lines : flat_map entry_lines book.entries ≡ flat_map entry_lines other.entries = ap (drop 1) parts.1 in
    let entries = entries-injective (length book.table) (length other.table) book.entries other.entries (omega (arith, size))
    (omega (arith, size_other)) has.entries has_other.entries lines in
    λ i. record { table = table i; entries = entries i }

-- bytes are the text of one book
pub one_book : (book other : Book) (bytes : List ℕ) → IsTextOfBook book bytes → IsTextOfBook other bytes → other ≡ book
unfolding book_text
one_book book other bytes text is = search (rules, book_lines-injective, text_of-injective, book-free)

-- bytes that are the lines of a book and nothing more are its text
pub whole_book : (book : Book) (bytes rest : List ℕ) → HasText book → bytes ≡ text_of (book_lines book) ++ rest → rest ≡ []
    → IsTextOfBook book bytes
unfolding book_text
whole_book book bytes rest has text end = search (rules, append-nil)

-- the first line is read where it is that of a book, and only there
pub begins_book : (bytes : List ℕ) (r : Option (Bor (List ℕ)))
    → Reads {X = List ℕ} (λ _. Unit {0}) (λ rest. first_line ++ line_feed ∷ rest) (option_copied r) bytes
    → IsTrue (is_some r) ↔ BeginsBook bytes
begins_book bytes None h = (λ yes. absurd (cc), λ begins. absurd (h begins.0 tt begins.1))
begins_book bytes (Some rest) h = (λ yes. (rest.now, h.1), λ begins. refl)
