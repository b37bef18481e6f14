-- Where bytes leave the texts of tables.
use Rattle.std.proofs.Common.{◌≡◌, ℕ, suc, ◌+◌, true, refl, sym, ap, subst, ◌∙◌, arith, List, [], ◌∷◌, ◌++◌, length, take, inl, inr, None}
use Rattle.std.proofs.Common.{codes, rules}
use Rattle.std.proofs.lemmas.List.{append-nil, length-append, take_all}
use Rattle.std.proofs.Math.Seq.{take-append_seam}
use Rattle.position_files.proofs.Common.{Freestyle, MIN_SIDE, refusal, Answers, IsTable, Root, line_feed, text_of, FirstBad, LeavesAt}
use Rattle.position_files.proofs.Common.{ReadsLine, is_free, TableFile, MAX_MOVES, Body, FileError, Unlawful, WrongMoves, HeadError}
use Rattle.position_files.proofs.Common.{IsTextOfTable, IsTableText, start_line, StartFits, BodyFits, body_lines, IsBodyLines}
use Rattle.position_files.proofs.Common.{IsFinishFault, IsSectionFault, IsStartLines, IsTableFault, IsMiscounted, after_lines, in_file}
use Rattle.game_rules.proofs.Marks.{empty_board}
use Rattle.text_lines.proofs.LineLaws.{same_line}
use Rattle.text_lines.proofs.TextLaws.{text_of-cons, text_of-push, same_lines}
use Rattle.text_lines.proofs.Leaving.{HasParts, Splits, leaves_after, left_first}
use Rattle.text_lines.proofs.Badness.{first_bad, too_many}
use Rattle.position_files.specs.declared.error.FileError.TheVariants.{BadLine, Memory}
use Rattle.position_files.specs.declared.error.HeadError.TheVariants.{BadLine as BadHead, Memory as NoRoom}
use Rattle.position_files.proofs.Stones.{IsBoard-empty}
use Rattle.position_files.proofs.TableLaws.{file_of}
use Rattle.position_files.proofs.BoardLines.{least_side}
use Rattle.position_files.proofs.SectionLaws.{fault_in, only_start, only_fits}
use Rattle.position_files.proofs.BodyBad.{corner_table, one_between, least_body, least_fits}
use Rattle.position_files.proofs.TableTexts.{IsTableLines, IsDefendLines, table-free, body-free, body-length, lines_of, text_from}
use Rattle.position_files.proofs.TableTexts.{body_tell, one_table}

-- ---- the first line

first_of_none : (bytes : List ℕ) → ((rest : List ℕ) → bytes ≡ codes "renju-table 1" ++ line_feed ∷ rest → ⊥)
    → ((rest : List ℕ) → bytes ≡ codes "renju-table 2" ++ line_feed ∷ rest → ⊥)
    → (ls : List (List ℕ)) (others : List ℕ) → IsTableLines ls → bytes ≡ text_of (take 1 ls) ++ others → ⊥
first_of_none bytes not_one not_two ls others (inl h) e =
    not_one others (e ∙ ap (λ (l : List (List ℕ)). text_of (take 1 l) ++ others) h.2 ∙ sym (text_of-cons (codes "renju-table 1") [] others))
first_of_none bytes not_one not_two ls others (inr h) e =
    not_two others (e ∙ ap (λ (l : List (List ℕ)). text_of (take 1 l) ++ others) h.2 ∙ sym (text_of-cons (codes "renju-table 2") [] others))

pub no_version : (bytes : List ℕ) → ((rest : List ℕ) → bytes ≡ codes "renju-table 1" ++ line_feed ∷ rest → ⊥)
    → ((rest : List ℕ) → bytes ≡ codes "renju-table 2" ++ line_feed ∷ rest → ⊥) → FirstBad IsTableText bytes 1
no_version bytes not_one not_two =
    let body : Body = least_body Freestyle (empty_board MIN_SIDE MIN_SIDE) 1 in
    let fits : BodyFits 1 body = least_fits Freestyle (empty_board MIN_SIDE MIN_SIDE) 1 1
    (IsBoard-empty MIN_SIDE MIN_SIDE least_side least_side) (omega arith) (one_between 1 MAX_MOVES (omega arith) (omega arith)) in
    first_bad IsTableText IsTableLines table-free lines_of text_from bytes 0 (record {
      lines = codes "renju-table 1" ∷ body_lines body;
      rest = bytes;
      are = inl (body_lines body, (body, fits, corner_table, refl), refl);
      enough = omega arith;
      so_far = refl;
      no_further = first_of_none bytes not_one not_two;
    })

-- ---- the error of a body that is read whole

pub finish_fault : (body : Body) (root : Root) (bytes : List ℕ) → IsTextOfTable (file_of body root) bytes → (error : FileError)
    → IsFinishFault body root error → IsTableFault bytes error
finish_fault body root bytes text (BadLine n) h = absurd h
finish_fault body root bytes text (Unlawful why) h = (
  (file_of body root, text),
  λ file is. ap (λ (f : TableFile). refusal f.kind f.board) (one_table (file_of body root) file bytes text is) ∙ h,
)
finish_fault body root bytes text (WrongMoves written counted) h = (
  (file_of body root, text),
  λ file is. subst (λ (f : TableFile). IsMiscounted f written counted)
      (sym (one_table (file_of body root) file bytes text is)) (record { lawful = h.0; says = h.1; depth = h.2; differ = h.3 }),
)
finish_fault body root bytes text Memory h = tt

-- ---- lines after the first one

-- lines of a kind: a first line, and, where it is this one, lines of another kind after it
abbrev Fronts : List ℕ → (List (List ℕ) → Type 0) → List (List ℕ) → Type 0
Fronts header IsLines ls = (first : List ℕ) × (l : List (List ℕ)) × (ls ≡ first ∷ l) × (is_free line_feed first ≡ true)
    × (first ≡ header → IsLines l)

split_of : (header : List ℕ) (IsLines : List (List ℕ) → Type 0) (ls : List (List ℕ)) → Fronts header IsLines ls
    → Splits (header ∷ []) IsLines ls
split_of header IsLines ls p = record {
  first = p.0 ∷ [];
  part = p.1;
  more = [];
  lines = p.2 ∙ ap (λ (l : List (List ℕ)). p.0 ∷ l) (sym (append-nil p.1));
  free = (p.3, tt);
  count = refl;
  are = λ same. p.4 (let f = same in cc);
}

attack_fronts : (ls : List (List ℕ)) → IsTableLines ls → Fronts (codes "renju-table 1") (IsBodyLines 1) ls
attack_fronts ls h = search rules

defend_fronts : (ls : List (List ℕ)) → IsTableLines ls → Fronts (codes "renju-table 2") IsDefendLines ls
defend_fronts ls h = search rules

-- a body stands in a table after its first line, and so does a body with a start
attack_part : HasParts (codes "renju-table 1" ∷ []) (IsBodyLines 1) IsTableLines
attack_part = search (rules, append-nil, split_of, attack_fronts)

defend_part : HasParts (codes "renju-table 2" ∷ []) IsDefendLines IsTableLines
defend_part = record {
  free = (refl, tt);
  whole = λ l is. ([], inr (l, is, ap (λ (k : List (List ℕ)). codes "renju-table 2" ∷ k) (append-nil l)));
  parts = λ ls is. split_of (codes "renju-table 2") IsDefendLines ls (defend_fronts ls is);
}

-- a fault of what stands after the first line
first_fault : (header : List ℕ) (IsLines : List (List ℕ) → Type 0) → HasParts (header ∷ []) IsLines IsTableLines → (bytes rest : List ℕ)
    → bytes ≡ header ++ line_feed ∷ rest → (error : HeadError) → IsSectionFault IsLines rest error
    → IsTableFault bytes (in_file (after_lines 1 error))
first_fault header IsLines has bytes rest e (BadHead n) h =
    let leaves = leaves_after (header ∷ []) IsLines IsTableLines has bytes rest h.0 (e ∙ text_of-cons header [] rest) h.2 in
    subst (FirstBad IsTableText bytes) (let is = h.1 in omega (arith, is))
    (first_bad IsTableText IsTableLines table-free lines_of text_from bytes (1 + h.0) leaves)
first_fault header IsLines has bytes rest e NoRoom h = tt

-- where bytes begin with this first line, and with first lines of a table: the lines after it
pub record AfterFirst (IsLines : List (List ℕ) → Type 0) (rest others : List ℕ) (k : ℕ) (lt : List (List ℕ)) : Type 0 where
  pub lines : List (List ℕ)
  pub are : IsLines lines
  pub count : length lt ≡ suc (length lines)
  pub text : rest ≡ text_of (take k lines) ++ others

after_first : (header : List ℕ) (IsLines : List (List ℕ) → Type 0) (bytes rest others : List ℕ) (k : ℕ) (lt : List (List ℕ))
    → is_free line_feed header ≡ true → bytes ≡ header ++ line_feed ∷ rest → Fronts header IsLines lt
    → bytes ≡ text_of (take (suc k) lt) ++ others → AfterFirst IsLines rest others k lt
after_first header IsLines bytes rest others k lt free e p f =
    let whole : bytes ≡ text_of (p.0 ∷ take k p.1) ++ others = f ∙ ap (λ (l : List (List ℕ)). text_of (take (suc k) l) ++ others) p.2 in
    let same = same_line header rest p.0 (text_of (take k p.1) ++ others) free p.3
    (sym e ∙ whole ∙ sym (text_of-cons p.0 (take k p.1) others)) in
    record { lines = p.1; are = p.4 (sym same.0); count = ap length p.2; text = same.1 }

module _ (bytes rest : List ℕ) (e : bytes ≡ codes "renju-table 1" ++ line_feed ∷ rest) where
  pub attack_body_fault : (error : HeadError) → IsSectionFault (IsBodyLines 1) rest error
      → IsTableFault bytes (in_file (after_lines 1 error))
  attack_body_fault error h = first_fault (codes "renju-table 1") (IsBodyLines 1) attack_part bytes rest e error h

  pub attack_too_many : (body : Body) (tail : List ℕ) → BodyFits 1 body → IsTable body.table → rest ≡ text_of (body_lines body) ++ tail
      → (tail ≡ [] → ⊥) → FirstBad IsTableText bytes (8 + length body.table)
  attack_too_many body tail fits table text more =
      let all : List (List ℕ) = codes "renju-table 1" ∷ body_lines body in
      let count = body-length body in
      let six_more : length (body_lines body) ≡ suc (suc (suc (suc (suc (suc (length body.table)))))) = omega (arith, count) in
      let found = too_many IsTableText IsTableLines table-free lines_of text_from bytes tail all
      (inl (body_lines body, (body, fits, table, refl), refl)) (e ∙ ap (λ (l : List ℕ). codes "renju-table 1" ++ line_feed ∷ l) text
      ∙ text_of-cons (codes "renju-table 1") (body_lines body) tail) more (λ lt others is f.
      let after = after_first (codes "renju-table 1") (IsBodyLines 1) bytes rest others (length (body_lines body)) lt refl e
      (attack_fronts lt is) f in
      let other : Body = after.are.0 in
      let begun : rest ≡ text_of (take (suc (suc (suc (suc (suc (suc (length body.table))))))) (body_lines other ++ [])) ++ others =
      after.text ∙ ap (λ n. text_of (take n after.lines) ++ others) six_more
      ∙ ap (λ (l : List (List ℕ)). text_of (take (suc (suc (suc (suc (suc (suc (length body.table))))))) l) ++ others)
      (after.are.3 ∙ sym (append-nil (body_lines other))) in
      let tell = body_tell 1 1 (length body.table) body other [] tail others rest fits after.are.1 text begun in
      omega (arith, count, tell.counts, body-length other, ap length after.are.3, after.count)) in
      subst (FirstBad IsTableText bytes) (omega (arith, count)) found

-- ---- tables whose root is a start

-- a body stands in the lines of a table with a start
body_part : HasParts [] (IsBodyLines 0) IsDefendLines
body_part = record {
  free = tt;
  whole = λ l is.
      let body : Body = is.0 in (
        start_line only_start ∷ [],
        (
          body,
          only_start,
          is.1,
          is.2,
          only_fits body.board.width body.board.height (length body.table),
          ap (λ (k : List (List ℕ)). k ++ start_line only_start ∷ []) is.3,
        ),
      );
  parts = λ ls is. record {
    first = [];
    part = body_lines is.0;
    more = start_line is.1 ∷ [];
    lines = is.5;
    free = tt;
    count = refl;
    are = λ same. (is.0, is.2, is.3, refl);
  };
}

module _ (bytes rest : List ℕ) (e : bytes ≡ codes "renju-table 2" ++ line_feed ∷ rest) where
  pub defend_body_fault : (error : HeadError) → IsSectionFault (IsBodyLines 0) rest error
      → IsTableFault bytes (in_file (after_lines 1 error))
  defend_body_fault error h = search (rules, first_fault, defend_part, fault_in, body_part)

  module _ (body : Body) (tail : List ℕ) (fits : BodyFits 0 body) (table : IsTable body.table)
      (text : rest ≡ text_of (body_lines body) ++ tail) where
    count : length (body_lines body) ≡ 6 + length body.table
    count = body-length body

    -- other lines with a start that the bytes begin with have as many nodes, and the same line after them
    same_start_line : (ls : List (List ℕ)) (others : List ℕ) (is : IsDefendLines ls)
        → rest ≡ text_of (take (length (body_lines body) + 1) ls) ++ others → (length ls ≡ length (body_lines body) + 1)
        × StartFits body.board.width body.board.height (length body.table) is.1 × (tail ≡ start_line is.1 ++ line_feed ∷ others)
    same_start_line ls others is f =
        let other : Body = is.0 in
        let here : length (body_lines body) ≡ 6 + length body.table = count in
        let six_more : length (body_lines body) + 1 ≡ suc (suc (suc (suc (suc (suc (suc (length body.table))))))) = omega (arith, here) in
        let whole : rest ≡ text_of (take (length (body_lines body) + 1) (body_lines other ++ start_line is.1 ∷ [])) ++ others =
        f ∙ ap (λ (l : List (List ℕ)). text_of (take (length (body_lines body) + 1) l) ++ others) is.5 in
        let tell = body_tell 0 0 (suc (length body.table)) body other (start_line is.1 ∷ []) tail others rest fits is.2 text
        (whole ∙ ap (λ n. text_of (take n (body_lines other ++ start_line is.1 ∷ [])) ++ others) six_more) in
        let counts = tell.counts in
        let width = tell.width in
        let height = tell.height in
        let others_count = body-length other in
        let added = length-append (body_lines other) (start_line is.1 ∷ []) in
        let lines = ap length is.5 in
        let all : rest ≡ text_of (body_lines other) ++ (start_line is.1 ++ line_feed ∷ others) = whole ∙ ap
        (λ (l : List (List ℕ)). text_of l ++ others) (take_all (length (body_lines body) + 1) (body_lines other ++ start_line is.1 ∷ [])
        (omega (arith, here, counts, others_count, added))) ∙ sym (text_of-push (body_lines other) (start_line is.1) others) in
        let same = same_lines (body_lines body) (body_lines other) tail (start_line is.1 ++ line_feed ∷ others)
        (body-free 0 body fits table) (body-free 0 other is.2 is.3) (omega (arith, here, counts, others_count)) (sym text ∙ all) in
        let start : StartFits body.board.width body.board.height (length body.table) is.1 =
        subst (λ n. StartFits n body.board.height (length body.table) is.1)
        (sym width) (subst (λ n. StartFits other.board.width n (length body.table) is.1) (sym height)
        (subst (λ n. StartFits other.board.width other.board.height n is.1) (sym counts) is.4)) in
        (omega (arith, here, counts, others_count, added, lines), start, same.1)

    no_start_line : ReadsLine (StartFits body.board.width body.board.height (length body.table)) start_line None tail
        → LeavesAt IsDefendLines rest (length (body_lines body))
    no_start_line none = record {
      lines = body_lines body ++ start_line only_start ∷ [];
      rest = tail;
      are = (body, only_start, fits, table, only_fits body.board.width body.board.height (length body.table), refl);
      enough = let added = length-append (body_lines body) (start_line only_start ∷ []) in omega (arith, added);
      so_far = text ∙ ap (λ (l : List (List ℕ)). text_of l ++ tail) (sym (take-append_seam (body_lines body) (start_line only_start ∷ [])));
      no_further = λ ls others is f. let same = same_start_line ls others is f in none is.1 others same.1 same.2;
    }

    pub start_fault : (width height len : ℕ) → width ≡ body.board.width → height ≡ body.board.height → len ≡ length body.table
        → (error : HeadError) → IsSectionFault (IsStartLines width height len) tail error
        → IsTableFault bytes (in_file (after_lines (7 + len) error))
    start_fault width height len w h l (BadHead n) fault =
        let left = left_first (StartFits width height len) start_line tail fault.0 fault.2 in
        let none : ReadsLine (StartFits body.board.width body.board.height (length body.table)) start_line None tail =
        λ a others fit f. left.1 a others
        (subst (λ n. StartFits n height len a) (sym w) (subst (λ n. StartFits body.board.width n len a) (sym h)
        (subst (λ n. StartFits body.board.width body.board.height n a) (sym l) fit))) f in
        let leaves = leaves_after (codes "renju-table 2" ∷ []) IsDefendLines IsTableLines defend_part bytes rest
        (length (body_lines body)) (e ∙ text_of-cons (codes "renju-table 2") [] rest) (no_start_line none) in
        subst (FirstBad IsTableText bytes) (let is = fault.1 in let first = left.0 in let c = count in omega (arith, is, first, c, l))
        (first_bad IsTableText IsTableLines table-free lines_of text_from bytes (1 + length (body_lines body)) leaves)
    start_fault width height len w h l NoRoom fault = tt

    pub defend_too_many : (a : Answers) (len : ℕ) (more : List ℕ) → len ≡ length body.table
        → StartFits body.board.width body.board.height (length body.table) a → tail ≡ start_line a ++ line_feed ∷ more → (more ≡ [] → ⊥)
        → FirstBad IsTableText bytes (8 + len + 1)
    defend_too_many a len more l start line some =
        let lines : List (List ℕ) = body_lines body ++ start_line a ∷ [] in
        let added = length-append (body_lines body) (start_line a ∷ []) in
        let c = count in
        let whole : rest ≡ text_of lines ++ more = text ∙ ap (λ (t : List ℕ). text_of (body_lines body) ++ t) line
        ∙ text_of-push (body_lines body) (start_line a) more in
        let found = too_many IsTableText IsTableLines table-free lines_of text_from bytes more (codes "renju-table 2" ∷ lines)
        (inr (lines, (body, a, fits, table, start, refl), refl))
        (e ∙ ap (λ (t : List ℕ). codes "renju-table 2" ++ line_feed ∷ t) whole ∙ text_of-cons (codes "renju-table 2") lines more) some
        (λ lt others is f.
        let after = after_first (codes "renju-table 2") IsDefendLines bytes rest others (length lines) lt refl e (defend_fronts lt is) f in
        let same = same_start_line after.lines others after.are (after.text ∙ ap (λ n. text_of (take n after.lines) ++ others) added) in
        omega (arith, after.count, same.0, added)) in
        subst (FirstBad IsTableText bytes) (omega (arith, added, c, l)) found
