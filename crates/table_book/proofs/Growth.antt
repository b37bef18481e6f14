-- The text of a book, which grows by one section after another.
use Rattle.std.proofs.Common.{◌≡◌, ℕ, sym, ap, ◌∙◌, List, [], ◌∷◌, ◌++◌, append_assoc, map, length, flat_map}
use Rattle.std.proofs.lemmas.List.{flat_map_more}
use Rattle.std.proofs.lemmas.List.Concat.{flat_map-append}
use Rattle.table_book.proofs.Common.{ended, text_of, board_lines, node_line, Book, Entry, book_lines, book_text, entries_line, entry_lines}
use Rattle.table_book.proofs.Common.{first_line, move_count_line, nodes_line, root_line}

-- the lines of an entry
pub entry_grown : (e : Entry) (old t1 t2 t3 : List ℕ) → t1 ≡ old ++ text_of (board_lines e.kind e.board)
    → t2 ≡ t1 ++ ended (move_count_line e.moves) → t3 ≡ t2 ++ ended (root_line e.root) → t3 ≡ old ++ text_of (entry_lines e)
unfolding entry_lines board_lines
entry_grown e old t1 t2 t3 e1 e2 e3 =
    let two : t2 ≡ old ++ text_of (board_lines e.kind e.board ++ move_count_line e.moves ∷ []) =
    e2 ∙ ap (λ (l : List ℕ). l ++ ended (move_count_line e.moves)) e1
    ∙ flat_map_more ended old (board_lines e.kind e.board) (move_count_line e.moves) in
    e3 ∙ ap (λ (l : List ℕ). l ++ ended (root_line e.root)) two
    ∙ flat_map_more ended old (board_lines e.kind e.board ++ move_count_line e.moves ∷ []) (root_line e.root)

sections : (a b d : List ℕ) (m f : List ℕ) → (((ended a ++ ended b) ++ m) ++ ended d) ++ f ≡ ended a ++ (ended b ++ (m ++ (ended d ++ f)))
sections a b d m f = simp append_assoc

-- all of a book
pub book_grown : (book : Book) (none t0 t1 t2 t3 t4 : List ℕ) → none ≡ [] → t0 ≡ none ++ ended first_line
    → t1 ≡ t0 ++ ended (nodes_line (length book.table)) → t2 ≡ t1 ++ text_of (map node_line book.table)
    → t3 ≡ t2 ++ ended (entries_line (length book.entries)) → t4 ≡ t3 ++ text_of (flat_map entry_lines book.entries) → t4 ≡ book_text book
unfolding book_text book_lines
book_grown book none t0 t1 t2 t3 t4 e e0 e1 e2 e3 e4 =
    let s0 : t0 ≡ ended first_line = e0 ∙ ap (λ (l : List ℕ). l ++ ended first_line) e in
    let s1 = e1 ∙ ap (λ (l : List ℕ). l ++ ended (nodes_line (length book.table))) s0 in
    let s2 = e2 ∙ ap (λ (l : List ℕ). l ++ text_of (map node_line book.table)) s1 in
    let s3 = e3 ∙ ap (λ (l : List ℕ). l ++ ended (entries_line (length book.entries))) s2 in
    e4 ∙ ap (λ (l : List ℕ). l ++ text_of (flat_map entry_lines book.entries)) s3
    ∙ sections first_line (nodes_line (length book.table)) (entries_line (length book.entries)) (text_of (map node_line book.table))
    (text_of (flat_map entry_lines book.entries)) ∙ ap (λ (l : List ℕ). ended first_line ++ (ended (nodes_line (length book.table)) ++ l))
    (sym (flat_map-append ended (map node_line book.table) (entries_line (length book.entries) ∷ flat_map entry_lines book.entries)))
