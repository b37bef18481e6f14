-- Where bytes leave the lines of books, and the first bad line of their texts.
use Rattle.std.proofs.Common.{◌≡◌, ℕ, ◌+◌, ◌≤◌, refl, sym, ap, subst, ◌∙◌, arith, List, [], ◌∷◌, ◌++◌, length, map, take, drop}
use Rattle.std.proofs.Common.{take-append-drop, replicate, get_or, inl, inr, None, codes, rules, flat_map}
use Rattle.std.specs.List.{AllByRecursion}
use Rattle.std.specs.Fmt.{decimal}
use Rattle.std.proofs.lemmas.Bool.{cases_lt}
use Rattle.std.proofs.lemmas.Fmt.{decimal_injective}
use Rattle.std.proofs.lemmas.List.{append_cancel_left, append-nil, length-map, length-replicate, length-take-le}
use Rattle.table_book.proofs.Common.{MAX_SIDE, Node, MAX_NODES, line_feed, text_of, node_line, Book, Entry, MAX_ENTRIES, EntryFits, HasText}
use Rattle.table_book.proofs.Common.{IsBookText, book_lines, book_text, entries_line, entry_lines, first_line, nodes_line, IsBookFault}
use Rattle.table_book.proofs.Common.{in_book, IsBookLines, IsEndLines, IsRestLines, rest_lines}
use Rattle.strategy_graph.proofs.Common.{IsTable}
use Rattle.strategy_graph.proofs.Filling.{corner, filled_table}
use Rattle.text_lines.proofs.Common.{FirstBad, IsBetween, IsLineOf, LeavesAt, ReadsLine}
use Rattle.text_lines.proofs.TextLaws.{AreFree, free_take, same_lines, text_of-cons}
use Rattle.text_lines.proofs.Leaving.{HasParts, leaves_after, leaves_first}
use Rattle.text_lines.proofs.Badness.{first_bad, too_many}
use Rattle.position_files.proofs.Common.{after_lines, AreNodeLines, AreNodes, IsSectionFault}
use Rattle.position_files.specs.declared.error.HeadError.{HeadError}
use Rattle.position_files.specs.declared.error.HeadError.TheVariants.{BadLine, Memory}
use Rattle.position_files.proofs.Completions.{filled_fit}
use Rattle.position_files.proofs.SectionLaws.{fault_after, fault_in, node_lines-free, number-free}
use Rattle.table_book.proofs.EntryLaws.{largest_side}
use Rattle.table_book.proofs.EntryBad.{least_entry, least_entry-fits}
use Rattle.table_book.proofs.BookLaws.{book-free, book-length, same_numbers}

-- ---- nodes, and entries behind them

nodes_in_rest : (k : ℕ) → HasParts [] (AreNodeLines MAX_SIDE MAX_SIDE k) (IsRestLines k)
nodes_in_rest k = record {
  free = tt;
  whole = λ l is.
      let end : List (List ℕ) = entries_line 1 ∷ flat_map entry_lines (least_entry ∷ []) in (
        end,
        (
          is.0,
          end,
          is.1,
          (least_entry ∷ [], (least_entry-fits k, tt), record { enough = omega arith; few = omega arith }, refl),
          ap (λ (m : List (List ℕ)). m ++ end) is.2,
        ),
      );
  parts = λ ls is. record {
    first = [];
    part = map node_line is.0;
    more = is.1;
    lines = is.4;
    free = tt;
    count = refl;
    are = λ same. (is.0, is.2, refl);
  };
}

pub rest_nodes_fault : (k : ℕ) (bytes : List ℕ) (error : HeadError) → IsSectionFault (AreNodeLines MAX_SIDE MAX_SIDE k) bytes error
    → IsSectionFault (IsRestLines k) bytes error
rest_nodes_fault k bytes error h = fault_in (AreNodeLines MAX_SIDE MAX_SIDE k) (IsRestLines k) (nodes_in_rest k) bytes error h

module _ (k : ℕ) (t : List Node) (nodes : AreNodes MAX_SIDE MAX_SIDE k t) where
  end_in_rest : HasParts (map node_line t) (IsEndLines k) (IsRestLines k)
  end_in_rest = search (rules, node_lines-free, largest_side, append-nil, length-map)

  pub rest_end_fault : (bytes rest : List ℕ) → bytes ≡ text_of (map node_line t) ++ rest → (error : HeadError)
      → IsSectionFault (IsEndLines k) rest error → IsSectionFault (IsRestLines k) bytes (after_lines k error)
  rest_end_fault bytes rest e error h = fault_after (map node_line t) (IsEndLines k) (IsRestLines k) end_in_rest bytes rest k
      (sym (length-map t node_line ∙ nodes.counted)) e error h

pub rest_has : (k : ℕ) (t : List Node) (es : List Entry) → AreNodes MAX_SIDE MAX_SIDE k t → AllByRecursion (EntryFits k) es
    → IsBetween 1 MAX_ENTRIES (length es) → HasText (record { table = t; entries = es })
rest_has k t es nodes fits some = search rules

-- ---- a book

nil_table : IsTable []
nil_table = record { nodes = λ i n is. absurd cc; size = omega arith }

-- a book of so many nodes that win at once
filled_book : ℕ → Book
filled_book n = record { table = replicate n corner; entries = least_entry ∷ [] }

filled_has : (n : ℕ) → n ≤ MAX_NODES → HasText (filled_book n)
unfolding filled_book
filled_has n few = record {
  table = filled_table n [] nil_table (omega (arith, few));
  nodes = filled_fit MAX_SIDE MAX_SIDE n [] largest_side largest_side tt;
  entries = (least_entry-fits (length (replicate n corner)), tt);
  some = record { enough = omega arith; few = omega arith };
}

pub no_first_line : (bytes : List ℕ) → ((rest : List ℕ) → bytes ≡ first_line ++ line_feed ∷ rest → ⊥) → LeavesAt IsBookLines bytes 0
unfolding book_lines filled_book
no_first_line bytes none = record {
  lines = book_lines (filled_book 0);
  rest = bytes;
  are = (filled_book 0, filled_has 0 (omega arith), refl);
  enough = omega arith;
  so_far = refl;
  no_further = λ ls others is e. none others
      (e ∙ ap (λ (l : List (List ℕ)). text_of (take 1 l) ++ others) is.2 ∙ sym (text_of-cons first_line [] others));
}

number_in_book : HasParts (first_line ∷ []) (IsLineOf (IsBetween 0 MAX_NODES) nodes_line) IsBookLines
unfolding book_lines filled_book
number_in_book = record {
  free = (refl, tt);
  whole = λ l is.
      let n : ℕ = is.0 in
      let rest : List (List ℕ) = rest_lines (filled_book n) in
      let count = length-replicate n corner in (
        rest,
        (
          filled_book n,
          filled_has n is.1.few,
          ap (λ (m : List (List ℕ)). first_line ∷ m ++ rest) is.2 ∙ ap (λ c. first_line ∷ nodes_line c ∷ rest) (sym count),
        ),
      );
  parts = λ ls is.
      let size = is.1.table.size in
      record {
        first = first_line ∷ [];
        part = nodes_line (length is.0.table) ∷ [];
        more = rest_lines is.0;
        lines = is.2;
        free = (refl, tt);
        count = refl;
        are = λ same. (length is.0.table, record { enough = omega arith; few = omega (arith, size) }, refl);
      };
}

pub no_nodes_line : (bytes rest : List ℕ) → bytes ≡ first_line ++ line_feed ∷ rest → ReadsLine (IsBetween 0 MAX_NODES) nodes_line None rest
    → LeavesAt IsBookLines bytes 1
no_nodes_line bytes rest e none = leaves_after (first_line ∷ [])
    (IsLineOf (IsBetween 0 MAX_NODES) nodes_line) IsBookLines number_in_book bytes rest 0 (e ∙ text_of-cons first_line [] rest)
    (leaves_first (IsBetween 0 MAX_NODES) nodes_line rest 0 (record { enough = omega arith; few = omega arith }) none)

module _ (k : ℕ) (few : k ≤ MAX_NODES) where
  rest_in_book : HasParts (first_line ∷ nodes_line k ∷ []) (IsRestLines k) IsBookLines
  unfolding book_lines
  rest_in_book = record {
    free = (refl, (number-free (codes "nodes ") k refl (omega (arith, few)), tt));
    whole = λ l is.
        let book : Book = record { table = is.0; entries = is.3.0 } in (
          [],
          (
            book,
            rest_has k is.0 is.3.0 is.2 is.3.1 is.3.2,
            ap (λ (m : List (List ℕ)). first_line ∷ nodes_line k ∷ m)
                (append-nil l ∙ is.4 ∙ ap (λ (m : List (List ℕ)). map node_line is.0 ++ m) is.3.3)
                ∙ ap (λ c. first_line ∷ nodes_line c ∷ rest_lines book) (sym is.2.counted),
          ),
        );
    parts = λ ls is.
        let book : Book = is.0 in
        let size = is.1.table.size in
        record {
          first = first_line ∷ nodes_line (length book.table) ∷ [];
          part = rest_lines book;
          more = [];
          lines = is.2 ∙ ap (λ (m : List (List ℕ)). first_line ∷ nodes_line (length book.table) ∷ m) (sym (append-nil (rest_lines book)));
          free = (refl, (number-free (codes "nodes ") (length book.table) refl (omega (arith, size)), tt));
          count = refl;
          are = λ same.
              let line : nodes_line (length book.table) ≡ nodes_line k = ap (λ (m : List (List ℕ)). get_or m 1 []) same in
              let number : length book.table ≡ k = decimal_injective (length book.table) k (omega (arith, size)) (omega (arith, few))
              (append_cancel_left (codes "nodes ") (decimal (length book.table)) (decimal k) line) in (
                book.table,
                entries_line (length book.entries) ∷ flat_map entry_lines book.entries,
                record { table = is.1.table; fit = is.1.nodes; counted = number },
                (book.entries, subst (λ n. AllByRecursion (EntryFits n) book.entries) number is.1.entries, is.1.some, refl),
                refl,
              );
        };
  }

  pub book_rest_fault : (bytes r1 rest : List ℕ) → bytes ≡ first_line ++ line_feed ∷ r1 → r1 ≡ nodes_line k ++ line_feed ∷ rest
      → (error : HeadError) → IsSectionFault (IsRestLines k) rest error → IsSectionFault IsBookLines bytes (after_lines 2 error)
  book_rest_fault bytes r1 rest e1 e2 error h =
      fault_after (first_line ∷ nodes_line k ∷ []) (IsRestLines k) IsBookLines rest_in_book bytes rest 2 refl
      (e1 ∙ ap (λ (l : List ℕ). first_line ++ line_feed ∷ l) (e2 ∙ text_of-cons (nodes_line k) [] rest)
      ∙ text_of-cons first_line (nodes_line k ∷ []) rest) error h

pub all_text : (k : ℕ) (book : Book) (bytes r1 r2 rest : List ℕ) → length book.table ≡ k → bytes ≡ first_line ++ line_feed ∷ r1
    → r1 ≡ nodes_line k ++ line_feed ∷ r2 → r2 ≡ text_of (rest_lines book) ++ rest → bytes ≡ text_of (book_lines book) ++ rest
unfolding book_lines
all_text k book bytes r1 r2 rest count e1 e2 e3 = search (rules, text_of-cons)

-- ---- whole texts

lines_of : (t : List ℕ) → IsBookText t → (ls : List (List ℕ)) × IsBookLines ls × (t ≡ text_of ls)
unfolding book_text
lines_of t is = (book_lines is.0, (is.0, is.1.has, refl), is.1.spelled)

text_from : (ls : List (List ℕ)) → IsBookLines ls → IsBookText (text_of ls)
unfolding book_text
text_from ls is = (is.0, record { has = is.1; spelled = ap text_of is.2 })

lines-free : (ls : List (List ℕ)) → IsBookLines ls → AreFree ls
lines-free ls is = subst AreFree (sym is.2) (book-free is.0 is.1)

-- the error of the lines of a book, said of the text
pub lines_fault : (bytes : List ℕ) (error : HeadError) → IsSectionFault IsBookLines bytes error → IsBookFault bytes (in_book error)
lines_fault bytes (BadLine n) h = subst (FirstBad IsBookText bytes) (sym h.1)
    (first_bad IsBookText IsBookLines lines-free lines_of text_from bytes h.0 h.2)
lines_fault bytes Memory h = tt

-- a book that the bytes go on behind has a line too many
module _ (book : Book) (bytes rest : List ℕ) (has : HasText book) (text : bytes ≡ text_of (book_lines book) ++ rest) where
  most : (ls : List (List ℕ)) (others : List ℕ) → IsBookLines ls → bytes ≡ text_of (take (length (book_lines book)) ls) ++ others
      → length ls ≤ length (book_lines book)
  most ls others is e = elim (cases_lt (length (book_lines book)) (length ls)) [
    | inl longer ↦
        let n : ℕ = length (book_lines book) in
        let same = same_lines (book_lines book) (take n ls) rest others (book-free book has) (free_take n ls (lines-free ls is))
        (sym (length-take-le n ls (omega (arith, longer)))) (sym text ∙ e) in
        let whole : book_lines is.0 ≡ book_lines book ++ drop n ls =
        sym is.2 ∙ sym (take-append-drop n ls) ∙ ap (λ (l : List (List ℕ)). l ++ drop n ls) (sym same.0) in
        let numbers = same_numbers book is.0 (drop n ls) has is.1 whole in
        let nodes = numbers.nodes in
        let entries = numbers.entries in
        let ours = book-length book in
        let theirs = book-length is.0 in
        let lines = ap length is.2 in
        omega (arith, nodes, entries, ours, theirs, lines)
    | inr few ↦ omega (arith, few)
  ]

  pub book_too_many : (rest ≡ [] → ⊥) → FirstBad IsBookText bytes (length (book_lines book) + 1)
  book_too_many more = too_many IsBookText IsBookLines lines-free lines_of text_from bytes rest (book_lines book) (book, has, refl) text
      more most
