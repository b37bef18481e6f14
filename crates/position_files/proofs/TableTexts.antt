-- The lines of whole tables, and that a text is that of one table.
use Rattle.std.proofs.Common.{◌≡◌, ℕ, suc, ◌+◌, ◌-◌, true, refl, sym, ap, subst, ◌∙◌, arith, List, [], ◌∷◌, ◌++◌, length, take, drop, map}
use Rattle.std.proofs.Common.{get_or, inl, inr, ◌⊎◌, codes, rules}
use Rattle.std.specs.List.{AllByRecursion}
use Rattle.std.specs.Fmt.{decimal}
use Rattle.std.proofs.lemmas.Fmt.{decimal_injective}
use Rattle.std.proofs.lemmas.List.{append_cancel_left, length-append, length-map}
use Rattle.position_files.proofs.Common.{Grid, IsBoard, RuleKind, Answers, IsTable, TableOnBoard, Node, Root, Attack, Defend, TableFile}
use Rattle.position_files.proofs.Common.{Body, line_feed, text_of, is_free, board_lines, RootFits, IsTextOfTable, IsTableText, answers_text}
use Rattle.position_files.proofs.Common.{node_line, nodes_lines, start_line, table_text, NodeFits, StartFits, BodyFits, body_lines}
use Rattle.position_files.proofs.Common.{IsBodyLines}
use Rattle.text_lines.proofs.LineLaws.{same_line}
use Rattle.position_files.proofs.BoardLines.{width_side, height_side, board-free, board_lines-injective}
use Rattle.position_files.proofs.AnswerLaws.{answers_text-injective, start_line-free}
use Rattle.text_lines.proofs.TextLaws.{text_of-push, AreFree, same_lines, text_of-injective, text_of-append, free_append}
use Rattle.position_files.proofs.SectionLaws.{number-free, replies_on, node_lines-free, nodes_injective}
use Rattle.position_files.proofs.TableLaws.{file_of}
use Rattle.position_files.proofs.Completions.{answers_fit, nodes_fit}
use Rattle.position_files.proofs.BodyBad.{six, six_tell, SixTell}

-- ---- a table is given by lines

-- the lines are those of a body, and of a start that names its nodes and its points
abbrev pub IsDefendLines : List (List ℕ) → Type 0
IsDefendLines ls = (body : Body) × (a : Answers) × BodyFits 0 body × IsTable body.table
    × StartFits body.board.width body.board.height (length body.table) a × (ls ≡ body_lines body ++ start_line a ∷ [])

-- the lines of a table whose root is a node, or of one whose root is a start
abbrev pub IsTableLines : List (List ℕ) → Type 0
IsTableLines ls = ((l : List (List ℕ)) × IsBodyLines 1 l × (ls ≡ codes "renju-table 1" ∷ l)) ⊎
    ((l : List (List ℕ)) × IsDefendLines l × (ls ≡ codes "renju-table 2" ∷ l))

pub body-free : (least : ℕ) (body : Body) → BodyFits least body → IsTable body.table → AreFree (body_lines body)
unfolding nodes_lines
body-free least body fits table =
    let wide = width_side body.board fits.board in
    let high = height_side body.board fits.board in
    free_append (board_lines body.kind body.board) (nodes_lines body.table body.moves) (board-free body.kind body.board fits.board) (
      number-free (codes "moves ") body.moves refl (let few = fits.moves.few in omega (arith, few)),
      (
        number-free (codes "nodes ") (length body.table) refl (let few = fits.nodes.few in omega (arith, few)),
        node_lines-free body.board.width body.board.height wide high body.table (nodes_fit body.board body.table fits.on_board table),
      ),
    )

pub body-length : (body : Body) → length (body_lines body) ≡ 6 + length body.table
unfolding board_lines nodes_lines
body-length body = let count = length-map body.table node_line in omega (arith, count)

free_start : (b : Grid) (len : ℕ) (a : Answers) → IsBoard b → StartFits b.width b.height len a → is_free line_feed (start_line a) ≡ true
free_start b len a ok fits = start_line-free b.width b.height (width_side b ok) (height_side b ok) len a fits

start-free : (l : List (List ℕ)) → IsDefendLines l → AreFree l
start-free l is =
    let body : Body = is.0 in
    subst AreFree (sym is.5) (free_append (body_lines body) (start_line is.1 ∷ []) (body-free 0 body is.2 is.3)
    (free_start body.board (length body.table) is.1 is.2.board is.4, tt))

pub table-free : (ls : List (List ℕ)) → IsTableLines ls → AreFree ls
table-free ls (inl h) = subst AreFree (sym h.2) (refl, subst AreFree (sym h.1.3) (body-free 1 h.1.0 h.1.1 h.1.2))
table-free ls (inr h) = subst AreFree (sym h.2) (refl, start-free h.0 h.1)

-- the root, as a text has it, is that of a body that fits
abbrev body_of : RuleKind → Grid → List Node → ℕ → Body
body_of kind b nodes moves = record { kind = kind; board = b; table = nodes; moves = moves }

attack_fits : (kind : RuleKind) (b : Grid) (nodes : List Node) (r moves : ℕ) → IsBoard b → IsTable nodes → TableOnBoard b nodes
    → RootFits b nodes (Attack r) moves → BodyFits 1 (body_of kind b nodes moves)
attack_fits kind b nodes r moves ok table on_it root = search rules

defend_fits : (kind : RuleKind) (b : Grid) (nodes : List Node) (a : Answers) (moves : ℕ) → IsBoard b → IsTable nodes → TableOnBoard b nodes
    → RootFits b nodes (Defend a) moves → BodyFits 0 (body_of kind b nodes moves) × StartFits b.width b.height (length nodes) a
defend_fits kind b nodes a moves ok table on_it root = (
  record {
    board = ok;
    on_board = on_it;
    nodes = record { enough = omega arith; few = let size = table.size in omega (arith, size) };
    moves = record { enough = omega arith; few = let most = root.3 in omega (arith, most) };
  },
  record {
    answers = answers_fit b a (length nodes) root.2 root.1 (let size = table.size in omega (arith, size))
        (λ wins. let no = root.0.not_winning in absurd cc);
    start = root.0;
    below = root.1;
  },
)

lines_by : (kind : RuleKind) (b : Grid) (nodes : List Node) (root : Root) (moves : ℕ) (t : List ℕ) → IsBoard b → IsTable nodes
    → TableOnBoard b nodes → RootFits b nodes root moves → t ≡ table_text kind b nodes root moves
    → (ls : List (List ℕ)) × IsTableLines ls × (t ≡ text_of ls)
unfolding table_text
lines_by kind b nodes (Attack r) moves t ok table on_it root e =
    let body : Body = body_of kind b nodes moves in (
      codes "renju-table 1" ∷ body_lines body,
      inl (body_lines body, (body, attack_fits kind b nodes r moves ok table on_it root, table, refl), refl),
      e,
    )
lines_by kind b nodes (Defend a) moves t ok table on_it root e =
    let body : Body = body_of kind b nodes moves in
    let fits = defend_fits kind b nodes a moves ok table on_it root in (
      codes "renju-table 2" ∷ body_lines body ++ start_line a ∷ [],
      inr (body_lines body ++ start_line a ∷ [], (body, a, fits.0, table, fits.1, refl), refl),
      e,
    )

pub lines_of : (t : List ℕ) → IsTableText t → (ls : List (List ℕ)) × IsTableLines ls × (t ≡ text_of ls)
lines_of t is = lines_by is.0.kind is.0.board is.0.table is.0.root is.0.moves t is.1.board is.1.table is.1.on_board is.1.root is.1.spelled

pub text_from : (ls : List (List ℕ)) → IsTableLines ls → IsTableText (text_of ls)
unfolding table_text
text_from ls (inl h) =
    let body : Body = h.1.0 in
    let fits = h.1.1 in
    let some = fits.nodes.enough in (
      file_of body (Attack (length body.table - 1)),
      record {
        board = fits.board;
        table = h.1.2;
        on_board = fits.on_board;
        root = (omega (arith, some), fits.moves.enough, fits.moves.few);
        spelled = ap text_of (h.2 ∙ ap (λ (l : List (List ℕ)). codes "renju-table 1" ∷ l) h.1.3);
      },
    )
text_from ls (inr h) =
    let body : Body = h.1.0 in
    let fits = h.1.2 in
    let start = h.1.4 in (
      file_of body (Defend h.1.1),
      record {
        board = fits.board;
        table = h.1.3;
        on_board = fits.on_board;
        root = (start.start, start.below, replies_on body.board h.1.1.replies start.answers.replies, fits.moves.few);
        spelled = ap text_of (h.2 ∙ ap (λ (l : List (List ℕ)). codes "renju-table 2" ∷ l) h.1.5);
      },
    )

-- ---- lines tell how many nodes there are

-- the bytes begin with a body, and with six lines and more of another one
pub body_tell : (least less m : ℕ) (body other : Body) (more : List (List ℕ)) (tail others bytes : List ℕ) → BodyFits least body
    → BodyFits less other → bytes ≡ text_of (body_lines body) ++ tail
    → bytes ≡ text_of (take (suc (suc (suc (suc (suc (suc m)))))) (body_lines other ++ more)) ++ others
    → SixTell body.board other.board (length body.table) (length other.table) (text_of (map node_line body.table) ++ tail)
    (text_of (take m (map node_line other.table ++ more)) ++ others)
unfolding board_lines nodes_lines
body_tell least less m body other more tail others bytes fits fit e f =
    six_tell body.kind other.kind body.board other.board body.moves other.moves (length body.table) (length other.table)
    (text_of (map node_line body.table) ++ tail) (text_of (take m (map node_line other.table ++ more)) ++ others) bytes
    fits.board fit.board (let few = fits.moves.few in omega (arith, few)) (let few = fit.moves.few in omega (arith, few))
    (let few = fits.nodes.few in omega (arith, few)) (let few = fit.nodes.few in omega (arith, few))
    (e ∙ text_of-append (six body.kind body.board body.moves (length body.table)) (map node_line body.table) tail)
    (f ∙ text_of-append (six other.kind other.board other.moves (length other.table)) (take m (map node_line other.table ++ more)) others)

-- ---- a text is that of one table

-- lines spell one body
pub body_injective : (least less : ℕ) (body other : Body) → BodyFits least body → BodyFits less other → IsTable body.table
    → IsTable other.table → body_lines body ≡ body_lines other → body ≡ other
unfolding board_lines nodes_lines
body_injective least less body other fits fit table tab e =
    let boards = board_lines-injective body.kind other.kind body.board other.board fits.board fit.board (ap (take 4) e) in
    let kind = boards.0 in
    let board = boards.1 in
    let few = fits.moves.few in
    let few_other = fit.moves.few in
    let line : codes "moves " ++ decimal body.moves ≡ codes "moves " ++ decimal other.moves = ap (λ (l : List (List ℕ)). get_or l 4 []) e in
    let moves : body.moves ≡ other.moves = decimal_injective body.moves other.moves (omega (arith, few)) (omega (arith, few_other))
    (append_cancel_left (codes "moves ") (decimal body.moves) (decimal other.moves) line) in
    let fits_other : AllByRecursion (NodeFits body.board.width body.board.height) other.table =
    subst (λ (b : Grid). AllByRecursion (NodeFits b.width b.height) other.table) (sym board)
    (nodes_fit other.board other.table fit.on_board tab) in
    let nodes = nodes_injective body.board.width body.board.height (width_side body.board fits.board) (height_side body.board fits.board)
    body.table other.table (nodes_fit body.board body.table fits.on_board table) fits_other (ap (drop 6) e) in
    λ i. record { kind = kind i; board = board i; table = nodes i; moves = moves i }

-- ---- two roots

same_start : (body other : Body) (a c : Answers) → BodyFits 0 body → BodyFits 0 other → IsTable body.table → IsTable other.table
    → StartFits body.board.width body.board.height (length body.table) a
    → StartFits other.board.width other.board.height (length other.table) c
    → body_lines body ++ start_line a ∷ [] ≡ body_lines other ++ start_line c ∷ [] → (body ≡ other) × (a ≡ c)
same_start body other a c fits fit table tab start begin e =
    let free_body = body-free 0 body fits table in
    let free_other = body-free 0 other fit tab in
    let count_body = body-length body in
    let count_other = body-length other in
    let sizes_body = length-append (body_lines body) (start_line a ∷ []) in
    let sizes_other = length-append (body_lines other) (start_line c ∷ []) in
    let lengths = ap length e in
    let texts : text_of (body_lines body) ++ (start_line a ++ line_feed ∷ []) ≡ text_of (body_lines other)
    ++ (start_line c ++ line_feed ∷ []) = text_of-push (body_lines body) (start_line a) []
    ∙ ap (λ (l : List (List ℕ)). text_of l ++ []) e ∙ sym (text_of-push (body_lines other) (start_line c) []) in
    let same = same_lines (body_lines body) (body_lines other) (start_line a ++ line_feed ∷ [])
    (start_line c ++ line_feed ∷ []) free_body free_other (omega (arith, sizes_body, sizes_other, lengths)) texts in
    let one : body ≡ other = body_injective 0 0 body other fits fit table tab same.0 in
    let line = same_line (start_line a) [] (start_line c) []
    (free_start body.board (length body.table) a fits.board start) (free_start other.board (length other.table) c fit.board begin) same.1 in
    let fit_c : StartFits body.board.width body.board.height (length body.table) c =
    subst (λ (b : Body). StartFits b.board.width b.board.height (length b.table) c) (sym one) begin in (
      one,
      answers_text-injective body.board.width body.board.height (width_side body.board fits.board) (height_side body.board fits.board) a
          c start.answers fit_c.answers (append_cancel_left (codes "start ") (answers_text a) (answers_text c) line.0),
    )

one_table_by : (body other : Body) (root second : Root)
    → IsTextOfTable (file_of body root) (table_text body.kind body.board body.table root body.moves)
    → IsTextOfTable (file_of other second) (table_text body.kind body.board body.table root body.moves) → (body ≡ other) × (root ≡ second)
unfolding table_text
one_table_by body other (Attack r) (Attack q) f g =
    let fits = attack_fits body.kind body.board body.table r body.moves f.board f.table f.on_board f.root in
    let fit = attack_fits other.kind other.board other.table q other.moves g.board g.table g.on_board g.root in
    let lines = text_of-injective (codes "renju-table 1" ∷ body_lines body) (codes "renju-table 1" ∷ body_lines other)
    (refl, body-free 1 body fits f.table) (refl, body-free 1 other fit g.table) g.spelled in
    let same : body ≡ other = body_injective 1 1 body other fits fit f.table g.table (ap (drop 1) lines) in
    let count = ap (λ (b : Body). length b.table) same in
    let last = f.root.0 in
    let end = g.root.0 in
    (same, ap Attack (omega (arith, count, last, end)))
one_table_by body other (Attack r) (Defend c) f g = let digit : 49 ≡ 50 =
    ap (λ (l : List ℕ). get_or l 12 0) g.spelled in absurd (omega (arith, digit))
one_table_by body other (Defend a) (Attack q) f g = let digit : 50 ≡ 49 =
    ap (λ (l : List ℕ). get_or l 12 0) g.spelled in absurd (omega (arith, digit))
one_table_by body other (Defend a) (Defend c) f g =
    let fits = defend_fits body.kind body.board body.table a body.moves f.board f.table f.on_board f.root in
    let fit = defend_fits other.kind other.board other.table c other.moves g.board g.table g.on_board g.root in
    let lines = text_of-injective (codes "renju-table 2" ∷ body_lines body ++ start_line a ∷ [])
    (codes "renju-table 2" ∷ body_lines other ++ start_line c ∷ []) (
      refl,
      free_append (body_lines body) (start_line a ∷ []) (body-free 0 body fits.0 f.table)
          (free_start body.board (length body.table) a fits.0.board fits.1, tt),
    ) (
      refl,
      free_append (body_lines other) (start_line c ∷ []) (body-free 0 other fit.0 g.table)
          (free_start other.board (length other.table) c fit.0.board fit.1, tt),
    ) g.spelled in
    let same = same_start body other a c fits.0 fit.0 f.table g.table fits.1 fit.1 (ap (drop 1) lines) in
    (same.0, ap Defend same.1)

pub one_table : (file other : TableFile) (bytes : List ℕ) → IsTextOfTable file bytes → IsTextOfTable other bytes → other ≡ file
one_table file other bytes f g =
    let body : Body = body_of file.kind file.board file.table file.moves in
    let second : Body = body_of other.kind other.board other.table other.moves in
    let here : IsTextOfTable file (table_text file.kind file.board file.table file.root file.moves) =
    subst (IsTextOfTable file) f.spelled f in
    let there : IsTextOfTable other (table_text file.kind file.board file.table file.root file.moves) =
    subst (IsTextOfTable other) f.spelled g in
    let same = one_table_by body second file.root other.root here there in
    let bodies = same.0 in
    let roots = same.1 in
    sym (λ i. file_of (bodies i) (roots i))
