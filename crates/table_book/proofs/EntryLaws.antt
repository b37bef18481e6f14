-- The lines of entries: they have no line feed, and spell one entry.
use Rattle.std.proofs.Common.{◌≡◌, ℕ, ◌*◌, ◌^◌, ◌<◌, true, refl, sym, ap, ◌∙◌, arith, List, [], ◌∷◌, ◌++◌, append_assoc, length, take}
use Rattle.std.proofs.Common.{get_or, codes, rules, flat_map}
use Rattle.std.specs.List.{AllByRecursion}
use Rattle.std.specs.Fmt.{decimal}
use Rattle.std.proofs.lemmas.Fmt.{decimal_injective}
use Rattle.std.proofs.lemmas.List.{append_cancel_left, length-append}
use Rattle.table_book.proofs.Common.{MAX_SIDE, Root, Attack, Defend, ended, line_feed, text_of, board_lines, Entry, EntryFits}
use Rattle.table_book.proofs.Common.{EntryRootFits, entry_lines, move_count_line, root_line}
use Rattle.text_lines.proofs.Common.{is_free}
use Rattle.text_lines.proofs.TextLaws.{AreFree, free_append, text_of-append, text_of-cons}
use Rattle.position_files.proofs.Common.{IsSide, answers_text}
use Rattle.position_files.proofs.AnswerLaws.{answers_text-injective, start_line-free}
use Rattle.position_files.proofs.BoardLines.{board-free, board_lines-injective}
use Rattle.position_files.proofs.SectionLaws.{number-free}
use Rattle.table_book.proofs.Lists.{same_parts}

pub largest_side : IsSide MAX_SIDE
largest_side = record { long = omega arith; fits = omega arith }

-- ---- no line has a line feed

pub root_line-free : (k : ℕ) (r : Root) → k < 2 ^ 64 → EntryRootFits k r → is_free line_feed (root_line r) ≡ true
root_line-free k (Attack i) few fits = number-free (codes "root ") i refl (let low : i < k = fits in omega (arith, low, few))
root_line-free k (Defend a) few fits = start_line-free MAX_SIDE MAX_SIDE largest_side largest_side k a fits

pub moves_line-free : (k : ℕ) (e : Entry) → EntryFits k e → is_free line_feed (move_count_line e.moves) ≡ true
moves_line-free k e fits = number-free (codes "moves ") e.moves refl (let most = fits.moves in omega (arith, most))

pub entry-free : (k : ℕ) (e : Entry) → k < 2 ^ 64 → EntryFits k e → AreFree (entry_lines e)
unfolding entry_lines
entry-free k e few fits = search (rules, free_append, board-free, moves_line-free, root_line-free)

pub entries-free : (k : ℕ) (es : List Entry) → k < 2 ^ 64 → AllByRecursion (EntryFits k) es → AreFree (flat_map entry_lines es)
entries-free k [] few all = tt
entries-free k (e ∷ es) few all = search (rules, free_append, entry-free, entries-free k es few all.1)

-- ---- how many lines there are

pub entry-length : (e : Entry) → length (entry_lines e) ≡ 6
unfolding entry_lines board_lines
entry-length e = refl

pub entries-length : (es : List Entry) → length (flat_map entry_lines es) ≡ 6 * length es
entries-length [] = refl
entries-length (e ∷ es) = search (rules, entry-length, length-append, entries-length es)

-- ---- lines spell one entry

pub root_line-injective : (k m : ℕ) (r s : Root) → k < 2 ^ 64 → m < 2 ^ 64 → EntryRootFits k r → EntryRootFits m s
    → root_line r ≡ root_line s → r ≡ s
root_line-injective k m (Attack i) (Attack j) few few_m fits fit e =
    let low_i : i < k = fits in
    let low_j : j < m = fit in
    ap Attack (decimal_injective i j (omega (arith, low_i, few)) (omega (arith, low_j, few_m))
    (append_cancel_left (codes "root ") (decimal i) (decimal j) e))
root_line-injective k m (Attack i) (Defend a) few few_m fits fit e = let letter : 114 ≡ 115 =
    ap (λ (l : List ℕ). get_or l 0 0) e in absurd (omega (arith, letter))
root_line-injective k m (Defend a) (Attack i) few few_m fits fit e = let letter : 115 ≡ 114 =
    ap (λ (l : List ℕ). get_or l 0 0) e in absurd (omega (arith, letter))
root_line-injective k m (Defend a) (Defend c) few few_m fits fit e =
    ap Defend (answers_text-injective MAX_SIDE MAX_SIDE largest_side largest_side a c fits.answers fit.answers
    (append_cancel_left (codes "start ") (answers_text a) (answers_text c) e))

pub entry_lines-injective : (k m : ℕ) (e f : Entry) → k < 2 ^ 64 → m < 2 ^ 64 → EntryFits k e → EntryFits m f
    → entry_lines e ≡ entry_lines f → e ≡ f
unfolding entry_lines board_lines
entry_lines-injective k m e f few few_m fits fit same =
    let boards = board_lines-injective e.kind f.kind e.board f.board fits.board fit.board (ap (take 4) same) in
    let kind = boards.0 in
    let board = boards.1 in
    let most = fits.moves in
    let most_other = fit.moves in
    let line : move_count_line e.moves ≡ move_count_line f.moves = ap (λ (l : List (List ℕ)). get_or l 4 []) same in
    let moves : e.moves ≡ f.moves = decimal_injective e.moves f.moves (omega (arith, most)) (omega (arith, most_other))
    (append_cancel_left (codes "moves ") (decimal e.moves) (decimal f.moves) line) in
    let last : root_line e.root ≡ root_line f.root = ap (λ (l : List (List ℕ)). get_or l 5 []) same in
    let root = root_line-injective k m e.root f.root few few_m fits.root fit.root last in
    λ i. record { kind = kind i; board = board i; root = root i; moves = moves i }

pub entries-injective : (k m : ℕ) (es fs : List Entry) → k < 2 ^ 64 → m < 2 ^ 64 → AllByRecursion (EntryFits k) es
    → AllByRecursion (EntryFits m) fs → flat_map entry_lines es ≡ flat_map entry_lines fs → es ≡ fs
entries-injective k m [] [] few few_m all other same = refl
entries-injective k m [] (f ∷ fs) few few_m all other same =
    let count : 0 ≡ 6 * length (f ∷ fs) = ap length same ∙ entries-length (f ∷ fs) in
    absurd (omega (arith, count))
entries-injective k m (e ∷ es) [] few few_m all other same =
    let count : 6 * length (e ∷ es) ≡ 0 = sym (entries-length (e ∷ es)) ∙ ap length same in
    absurd (omega (arith, count))
entries-injective k m (e ∷ es) (f ∷ fs) few few_m all other same =
    let parts = same_parts (entry_lines e) (flat_map entry_lines es) (entry_lines f) (flat_map entry_lines fs)
    (entry-length e ∙ sym (entry-length f)) same in
    ap (λ (x : Entry). x ∷ es) (entry_lines-injective k m e f few few_m all.0 other.0 parts.0)
    ∙ ap (λ (l : List Entry). f ∷ l) (entries-injective k m es fs few few_m all.1 other.1 parts.1)

-- ---- texts of entries that are put together

pub entry_text : (e : Entry) (bytes r1 r2 rest : List ℕ) → bytes ≡ text_of (board_lines e.kind e.board) ++ r1
    → r1 ≡ move_count_line e.moves ++ line_feed ∷ r2 → r2 ≡ ended (root_line e.root) ++ rest → bytes ≡ text_of (entry_lines e) ++ rest
unfolding entry_lines
entry_text e bytes r1 r2 rest e1 e2 e3 =
    let last : r2 ≡ text_of (root_line e.root ∷ []) ++ rest =
    e3 ∙ append_assoc (root_line e.root) (line_feed ∷ []) rest ∙ text_of-cons (root_line e.root) [] rest in
    let two : r1 ≡ text_of (move_count_line e.moves ∷ root_line e.root ∷ []) ++ rest = e2 ∙ ap
    (λ (l : List ℕ). move_count_line e.moves ++ line_feed ∷ l) last ∙ text_of-cons (move_count_line e.moves) (root_line e.root ∷ []) rest in
    e1 ∙ ap (λ (l : List ℕ). text_of (board_lines e.kind e.board) ++ l) two
    ∙ sym (text_of-append (board_lines e.kind e.board) (move_count_line e.moves ∷ root_line e.root ∷ []) rest)
