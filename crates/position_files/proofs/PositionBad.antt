-- Where bytes leave the texts of positions, and that a text is that of one position.
use Rattle.std.proofs.Common.{rules, ◌≡◌, ℕ, ◌+◌, refl, sym, ap, subst, ◌∙◌, arith, List, [], ◌∷◌, ◌++◌, length, take, codes, Some}
use Rattle.std.proofs.lemmas.List.{append-nil}
use Rattle.position_files.proofs.Common.{Grid, IsBoard, RuleKind, Freestyle, MIN_SIDE, refusal, PositionFile, HeadError, line_feed, text_of}
use Rattle.position_files.proofs.Common.{FirstBad, PositionError, board_lines, position_text, IsTextOfPosition, IsPositionText}
use Rattle.position_files.proofs.Common.{IsBoardLines, IsSectionFault, IsPositionFault, after_lines, in_file}
use Rattle.game_rules.proofs.Marks.{empty_board}
use Rattle.position_files.specs.declared.error.HeadError.TheVariants.{BadLine as BadHead, Memory as NoRoom}
use Rattle.position_files.proofs.Stones.{IsBoard-empty}
use Rattle.text_lines.proofs.TextLaws.{text_of-cons, AreFree, text_of-injective, whole_text}
use Rattle.text_lines.proofs.Leaving.{HasParts, leaves_after}
use Rattle.text_lines.proofs.Badness.{first_bad, too_many}
use Rattle.position_files.proofs.BoardLines.{board-free, board-length, board_lines-injective, least_side}

-- ---- the lines of a position

IsPositionLines : List (List ℕ) → Type 0
IsPositionLines ls = (kind : RuleKind) × (b : Grid) × IsBoard b × (ls ≡ codes "renju-position 1" ∷ board_lines kind b)

lines-free : (ls : List (List ℕ)) → IsPositionLines ls → AreFree ls
unfolding IsPositionLines
lines-free ls is = subst AreFree (sym is.3) (refl, board-free is.0 is.1 is.2)

lines_of : (t : List ℕ) → IsPositionText t → (ls : List (List ℕ)) × IsPositionLines ls × (t ≡ text_of ls)
unfolding IsPositionLines position_text
lines_of t is = (codes "renju-position 1" ∷ board_lines is.0.kind is.0.board, (is.0.kind, is.0.board, is.1.board, refl), is.1.spelled)

text_from : (ls : List (List ℕ)) → IsPositionLines ls → IsPositionText (text_of ls)
unfolding IsPositionLines position_text
text_from ls is = (record { kind = is.0; board = is.1 }, record { board = is.2; spelled = ap text_of is.3 })

-- a head stands in them after the first line
head_part : HasParts (codes "renju-position 1" ∷ []) IsBoardLines IsPositionLines
unfolding IsPositionLines
head_part = record {
  free = (refl, tt);
  whole = λ l is. ([], (is.0, is.1, is.2, ap (λ (k : List (List ℕ)). codes "renju-position 1" ∷ k) (append-nil l ∙ is.3)));
  parts = λ ls is. record {
    first = codes "renju-position 1" ∷ [];
    part = board_lines is.0 is.1;
    more = [];
    lines = is.3 ∙ ap (λ (k : List (List ℕ)). codes "renju-position 1" ∷ k) (sym (append-nil (board_lines is.0 is.1)));
    free = (refl, tt);
    count = refl;
    are = λ same. (is.0, is.1, is.2, refl);
  };
}

-- ---- a text is that of one position

pub one_position : (file other : PositionFile) (bytes : List ℕ) → IsTextOfPosition file bytes → IsTextOfPosition other bytes → other ≡ file
unfolding position_text
one_position file other bytes a b = search (rules, text_of-injective, board-free, board_lines-injective)

-- ---- whole texts

pub position_found : (kind : RuleKind) (b found : Grid) (bytes rest tail : List ℕ) → IsBoard b
    → bytes ≡ codes "renju-position 1" ++ line_feed ∷ rest → rest ≡ text_of (board_lines kind b) ++ tail → tail ≡ [] → found ≡ b
    → IsTextOfPosition (record { kind = kind; board = found }) bytes
unfolding position_text
position_found kind b found bytes rest tail ok e1 e2 e3 same = search (rules, whole_text)

-- ---- the faults

module _ (bytes : List ℕ) where
  pub no_first_line : ((rest : List ℕ) → bytes ≡ codes "renju-position 1" ++ line_feed ∷ rest → ⊥) → FirstBad IsPositionText bytes 1
  unfolding IsPositionLines
  no_first_line none = first_bad IsPositionText IsPositionLines lines-free lines_of text_from bytes 0 (record {
    lines = codes "renju-position 1" ∷ board_lines Freestyle (empty_board MIN_SIDE MIN_SIDE);
    rest = bytes;
    are = (Freestyle, empty_board MIN_SIDE MIN_SIDE, IsBoard-empty MIN_SIDE MIN_SIDE least_side least_side, refl);
    enough = omega arith;
    so_far = refl;
    no_further = λ ls others is e.
        let whole : bytes ≡ text_of (codes "renju-position 1" ∷ []) ++ others =
        subst (λ (l : List (List ℕ)). bytes ≡ text_of (take 1 l) ++ others) is.3 e in
        none others (whole ∙ sym (text_of-cons (codes "renju-position 1") [] others));
  })

  module _ (rest : List ℕ) (e : bytes ≡ codes "renju-position 1" ++ line_feed ∷ rest) where
    pub board_fault : (error : HeadError) → IsSectionFault IsBoardLines rest error → IsPositionFault bytes (in_file (after_lines 1 error))
    board_fault (BadHead n) h =
        let leaves = leaves_after (codes "renju-position 1" ∷ []) IsBoardLines IsPositionLines head_part bytes rest h.0
        (e ∙ text_of-cons (codes "renju-position 1") [] rest) h.2 in
        subst (FirstBad IsPositionText bytes) (let is = h.1 in omega (arith, is))
        (first_bad IsPositionText IsPositionLines lines-free lines_of text_from bytes (1 + h.0) leaves)
    board_fault NoRoom h = tt

    module _ (kind : RuleKind) (b : Grid) (tail : List ℕ) (ok : IsBoard b) (lines : rest ≡ text_of (board_lines kind b) ++ tail) where
      pub more_lines_than_five : (tail ≡ [] → ⊥) → FirstBad IsPositionText bytes 6
      unfolding IsPositionLines
      more_lines_than_five more =
          let all : List (List ℕ) = codes "renju-position 1" ∷ board_lines kind b in
          let count = board-length kind b in
          let found = too_many IsPositionText IsPositionLines lines-free lines_of text_from bytes tail all (kind, b, ok, refl)
          (e ∙ ap (λ (l : List ℕ). codes "renju-position 1" ++ line_feed ∷ l) lines
          ∙ text_of-cons (codes "renju-position 1") (board_lines kind b) tail) more
          (λ lt others is f. let other = board-length is.0 is.1 in let len = ap length is.3 in omega (arith, count, other, len)) in
          subst (FirstBad IsPositionText bytes) (omega (arith, count)) found

-- the board of a position that is not lawful
pub unlawful_fault : (file : PositionFile) (bytes : List ℕ) (why : PositionError) → IsTextOfPosition file bytes
    → refusal file.kind file.board ≡ Some why → IsPositionText bytes
    × ((other : PositionFile) → IsTextOfPosition other bytes → refusal other.kind other.board ≡ Some why)
unlawful_fault file bytes why text first =
    ((file, text), λ other is. ap (λ (f : PositionFile). refusal f.kind f.board) (one_position file other bytes text is) ∙ first)
