-- Whole texts of tables.
use Rattle.std.proofs.Common.{rules, ◌≡◌, ℕ, ◌-◌, true, refl, sym, ap, subst, ◌∙◌, List, [], ◌∷◌, ◌++◌, length, codes}
use Rattle.position_files.proofs.Common.{Answers, IsTable, names_below, Root, Attack, Defend, TableFile, Body, line_feed, text_of}
use Rattle.position_files.proofs.Common.{IsTextOfTable, start_line, table_text, BodyFits, IsFinished, body_lines, StartFits}
use Rattle.text_lines.proofs.TextLaws.{whole_text, text_of-push}
use Rattle.position_files.proofs.SectionLaws.{replies_on}

-- the file of a body and a root
abbrev pub file_of : Body → Root → TableFile
file_of body root = record { kind = body.kind; board = body.board; table = body.table; root = root; moves = body.moves }

finished_text : (body : Body) (root : Root) (file : TableFile) (bytes : List ℕ) → IsFinished body root file
    → IsTextOfTable (file_of body root) bytes → IsTextOfTable file bytes
finished_text body root file bytes done text = subst (λ (f : TableFile). IsTextOfTable f bytes) (sym done.file_is) text

-- a body that ends the bytes is the text of a table whose root is its last node
pub attack_text_of : (body : Body) (len : ℕ) (bytes rest : List ℕ) → BodyFits 1 body → IsTable body.table → len ≡ length body.table
    → bytes ≡ text_of (body_lines body) ++ rest → rest ≡ []
    → IsTextOfTable (file_of body (Attack (len - 1))) (codes "renju-table 1" ++ line_feed ∷ bytes)
unfolding table_text
attack_text_of body len bytes rest fits table count text end = search (rules, whole_text)

pub attack_text : (body : Body) (len : ℕ) (file : TableFile) (bytes rest : List ℕ) → BodyFits 1 body → IsTable body.table
    → len ≡ length body.table → bytes ≡ text_of (body_lines body) ++ rest → rest ≡ [] → IsFinished body (Attack (len - 1)) file
    → IsTextOfTable file (codes "renju-table 1" ++ line_feed ∷ bytes)
attack_text body len file bytes rest fits table count text end done = search (rules, finished_text, attack_text_of)

-- a body and a start that end the bytes are the text of a table whose root is the start
pub defend_text_of : (body : Body) (a : Answers) (len : ℕ) (bytes rest tail : List ℕ) → BodyFits 0 body → IsTable body.table
    → len ≡ length body.table → StartFits body.board.width body.board.height len a → bytes ≡ text_of (body_lines body) ++ rest
    → rest ≡ start_line a ++ line_feed ∷ tail → tail ≡ []
    → IsTextOfTable (file_of body (Defend a)) (codes "renju-table 2" ++ line_feed ∷ bytes)
unfolding table_text
defend_text_of body a len bytes rest tail fits table count start text line end =
    let lines : bytes ≡ text_of (body_lines body ++ start_line a ∷ []) ++ tail =
    text ∙ ap (λ (l : List ℕ). text_of (body_lines body) ++ l) line ∙ text_of-push (body_lines body) (start_line a) tail in
    record {
      board = fits.board;
      table = table;
      on_board = fits.on_board;
      root = (
        start.start,
        subst (λ n. names_below a n ≡ true) count start.below,
        replies_on body.board a.replies start.answers.replies,
        fits.moves.few,
      );
      spelled = whole_text (codes "renju-table 2") (body_lines body ++ start_line a ∷ []) (codes "renju-table 2" ++ line_feed ∷ bytes) bytes
          tail refl lines end;
    }

pub defend_text : (body : Body) (a : Answers) (len : ℕ) (file : TableFile) (bytes rest tail : List ℕ) → BodyFits 0 body → IsTable body.table
    → len ≡ length body.table → StartFits body.board.width body.board.height len a → bytes ≡ text_of (body_lines body) ++ rest
    → rest ≡ start_line a ++ line_feed ∷ tail → tail ≡ [] → IsFinished body (Defend a) file
    → IsTextOfTable file (codes "renju-table 2" ++ line_feed ∷ bytes)
defend_text body a len file bytes rest tail fits table count start text line end done = search (rules, finished_text, defend_text_of)
