-- Where bytes leave the texts of games, and that a text is that of one game.
use Rattle.std.proofs.Common.{rules, ◌≡◌, ℕ, ◌+◌, true, refl, sym, ap, subst, ◌∙◌, arith, List, [], ◌∷◌, ◌++◌, length, take, None, Some}
use Rattle.std.proofs.Common.{Err, codes}
use Rattle.std.specs.List.{AllByRecursion}
use Rattle.std.proofs.lemmas.List.{append_cancel_left}
use Rattle.position_files.proofs.Common.{Grid, IsBoard, Point, RuleKind, Freestyle, MIN_SIDE, refusal, PositionError, GameFile, HeadError}
use Rattle.position_files.proofs.Common.{Fault, Bad, line_feed, text_of, FirstBad, LeavesAt, point_text, points_text, Gives, GivesLine}
use Rattle.position_files.proofs.Common.{ReadsLine, IsWithin, is_free, board_lines, IsSide, IsBoardLines, IsSectionFault, after_lines}
use Rattle.position_files.proofs.Common.{at_line, AreOn, IsGameText, IsTextOfGame, game_text, moves_line, IsGameFault, in_game}
use Rattle.position_files.specs.declared.error.HeadError.TheVariants.{BadLine as BadHead, Memory as NoRoom}
use Rattle.text_lines.specs.declared.fault.Fault.TheVariants.{Memory}
use Rattle.text_lines.proofs.Cuts.{is_free-append}
use Rattle.text_lines.proofs.Items.{items_text-injective}
use Rattle.text_lines.proofs.LineLaws.{bad_line, point_items, points-free}
use Rattle.text_lines.proofs.TextLaws.{text_of-cons, text_of-push, AreFree, free_append, same_lines, text_of-injective, whole_text}
use Rattle.text_lines.proofs.Leaving.{HasParts, leaves_after}
use Rattle.text_lines.proofs.Badness.{first_bad, too_many}
use Rattle.position_files.proofs.Spellings.{side_fits}
use Rattle.game_rules.proofs.Marks.{empty_board}
use Rattle.position_files.proofs.Stones.{IsBoard-empty}
use Rattle.position_files.proofs.BoardLines.{width_side, height_side, board-free, board-length, board_lines-injective, least_side}

-- ---- the line of the moves

module _ (width height : ℕ) (wide : IsSide width) (high : IsSide height) where
  moves-free : (ms : List Point) → AllByRecursion (IsWithin width height) ms → is_free line_feed (moves_line ms) ≡ true
  moves-free ms all = search (rules, is_free-append, points-free, side_fits)

  moves-injective : (ms ns : List Point) → AllByRecursion (IsWithin width height) ms → AllByRecursion (IsWithin width height) ns
      → moves_line ms ≡ moves_line ns → ms ≡ ns
  moves-injective ms ns fits_ms fits_ns e =
      items_text-injective (IsWithin width height) point_text (point_items width height (side_fits width wide) (side_fits height high)) ms
      ns fits_ms fits_ns (append_cancel_left (codes "moves") (points_text ms) (points_text ns) e)

  -- a first line that is not that of moves
  pub no_moves : (bytes text rest : List ℕ) → is_free line_feed text ≡ true → bytes ≡ text ++ line_feed ∷ rest → (fault : Fault)
      → Gives (AllByRecursion (IsWithin width height)) moves_line (Err fault) text → GivesLine (AllByRecursion (IsWithin width height))
      moves_line (Err fault) bytes
  no_moves bytes text rest free parts Bad none = bad_line (AllByRecursion (IsWithin width height)) moves_line moves-free bytes text rest
      free parts none
  no_moves bytes text rest free parts Memory none = tt

-- ---- the lines of a game

abbrev game_lines : RuleKind → Grid → List Point → List (List ℕ)
game_lines kind b ms = codes "renju-game 1" ∷ board_lines kind b ++ moves_line ms ∷ []

IsGameLines : List (List ℕ) → Type 0
IsGameLines ls = (kind : RuleKind) × (b : Grid) × (ms : List Point) × IsBoard b × AreOn b ms × (ls ≡ game_lines kind b ms)

front-free : (kind : RuleKind) (b : Grid) → IsBoard b → AreFree (codes "renju-game 1" ∷ board_lines kind b)
front-free kind b ok = (refl, board-free kind b ok)

game-free : (kind : RuleKind) (b : Grid) (ms : List Point) → IsBoard b → AreOn b ms → AreFree (game_lines kind b ms)
game-free kind b ms ok on = free_append (codes "renju-game 1" ∷ board_lines kind b) (moves_line ms ∷ []) (front-free kind b ok)
    (moves-free b.width b.height (width_side b ok) (height_side b ok) ms on, tt)

lines-free : (ls : List (List ℕ)) → IsGameLines ls → AreFree ls
unfolding IsGameLines
lines-free ls is = subst AreFree (sym is.5) (game-free is.0 is.1 is.2 is.3 is.4)

lines_of : (t : List ℕ) → IsGameText t → (ls : List (List ℕ)) × IsGameLines ls × (t ≡ text_of ls)
unfolding IsGameLines game_text
lines_of t is =
    (game_lines is.0.kind is.0.board is.0.moves, (is.0.kind, is.0.board, is.0.moves, is.1.board, is.1.on_board, refl), is.1.spelled)

text_from : (ls : List (List ℕ)) → IsGameLines ls → IsGameText (text_of ls)
unfolding IsGameLines game_text
text_from ls is = (record { kind = is.0; board = is.1; moves = is.2 }, record { board = is.3; on_board = is.4; spelled = ap text_of is.5 })

-- a head stands in them after the first line
head_part : HasParts (codes "renju-game 1" ∷ []) IsBoardLines IsGameLines
unfolding IsGameLines
head_part = record {
  free = (refl, tt);
  whole = λ l is.
      (moves_line [] ∷ [], (is.0, is.1, [], is.2, tt, ap (λ (k : List (List ℕ)). codes "renju-game 1" ∷ k ++ moves_line [] ∷ []) is.3));
  parts = λ ls is. record {
    first = codes "renju-game 1" ∷ [];
    part = board_lines is.0 is.1;
    more = moves_line is.2 ∷ [];
    lines = is.5;
    free = (refl, tt);
    count = refl;
    are = λ same. (is.0, is.1, is.3, refl);
  };
}

-- ---- a text is that of one game

same_front : (kind other : RuleKind) (b c : Grid) (l m : List ℕ) → codes "renju-game 1" ∷ board_lines kind b ++ l ∷ [] ≡ codes
    "renju-game 1" ∷ board_lines other c ++ m ∷ [] → (board_lines kind b ≡ board_lines other c) × (l ≡ m)
unfolding board_lines
same_front kind other b c l m e = (cc, cc)

moves_same : (b c : Grid) (ms ns : List Point) → IsBoard c → b ≡ c → AreOn b ms → AreOn c ns → moves_line ms ≡ moves_line ns → ms ≡ ns
moves_same b c ms ns ok same on_b on_c e = search (rules, moves-injective, width_side, height_side)

pub one_game : (file other : GameFile) (bytes : List ℕ) → IsTextOfGame file bytes → IsTextOfGame other bytes → other ≡ file
unfolding game_text
one_game file other bytes a b = search (rules, text_of-injective, game-free, same_front, board_lines-injective, moves_same)

-- ---- whole texts

pub game_found : (kind : RuleKind) (b found : Grid) (ms : List Point) (bytes rest tail more : List ℕ) → IsBoard b → AreOn b ms
    → bytes ≡ codes "renju-game 1" ++ line_feed ∷ rest → rest ≡ text_of (board_lines kind b) ++ tail
    → tail ≡ moves_line ms ++ line_feed ∷ more → more ≡ [] → found ≡ b → IsTextOfGame (record { kind = kind; board = found; moves = ms })
    bytes
unfolding game_text
game_found kind b found ms bytes rest tail more ok on e1 e2 e3 e4 same =
    let lines : rest ≡ text_of (board_lines kind b ++ moves_line ms ∷ []) ++ more =
    e2 ∙ ap (λ (t : List ℕ). text_of (board_lines kind b) ++ t) e3 ∙ text_of-push (board_lines kind b) (moves_line ms) more in
    let made : IsTextOfGame (record { kind = kind; board = b; moves = ms }) bytes = record {
      board = ok;
      on_board = on;
      spelled = whole_text (codes "renju-game 1") (board_lines kind b ++ moves_line ms ∷ []) bytes rest more e1 lines e4;
    } in
    subst (λ (g : Grid). IsTextOfGame (record { kind = kind; board = g; moves = ms }) bytes) (sym same) made

-- ---- the faults

module _ (bytes : List ℕ) where
  pub no_first_line : ((rest : List ℕ) → bytes ≡ codes "renju-game 1" ++ line_feed ∷ rest → ⊥) → FirstBad IsGameText bytes 1
  unfolding IsGameLines
  no_first_line none = first_bad IsGameText IsGameLines lines-free lines_of text_from bytes 0 (record {
    lines = game_lines Freestyle (empty_board MIN_SIDE MIN_SIDE) [];
    rest = bytes;
    are = (Freestyle, empty_board MIN_SIDE MIN_SIDE, [], IsBoard-empty MIN_SIDE MIN_SIDE least_side least_side, tt, refl);
    enough = omega arith;
    so_far = refl;
    no_further = λ ls others is e.
        let whole : bytes ≡ text_of (codes "renju-game 1" ∷ []) ++ others = subst
        (λ (l : List (List ℕ)). bytes ≡ text_of (take 1 l) ++ others) is.5 e in
        none others (whole ∙ sym (text_of-cons (codes "renju-game 1") [] others));
  })

  module _ (rest : List ℕ) (e : bytes ≡ codes "renju-game 1" ++ line_feed ∷ rest) where
    pub board_fault : (error : HeadError) → IsSectionFault IsBoardLines rest error → IsGameFault bytes (in_game (after_lines 1 error))
    board_fault (BadHead n) h =
        let leaves = leaves_after (codes "renju-game 1" ∷ []) IsBoardLines IsGameLines head_part bytes rest h.0
        (e ∙ text_of-cons (codes "renju-game 1") [] rest) h.2 in
        subst (FirstBad IsGameText bytes) (let is = h.1 in omega (arith, is))
        (first_bad IsGameText IsGameLines lines-free lines_of text_from bytes (1 + h.0) leaves)
    board_fault NoRoom h = tt

    module _ (kind : RuleKind) (b : Grid) (tail : List ℕ) (ok : IsBoard b) (lines : rest ≡ text_of (board_lines kind b) ++ tail) where
      five_lines : bytes ≡ text_of (codes "renju-game 1" ∷ board_lines kind b) ++ tail
      five_lines = search (rules, text_of-cons)

      -- other lines of a game that the bytes begin with have the same board, and the same line after it
      same_moves_line : (other : RuleKind) (c : Grid) (l others : List ℕ) → IsBoard c
          → bytes ≡ text_of ((codes "renju-game 1" ∷ board_lines other c) ++ l ∷ []) ++ others → (c ≡ b) × (tail ≡ l ++ line_feed ∷ others)
      same_moves_line other c l others ok_c f =
          let count : length (codes "renju-game 1" ∷ board_lines kind b) ≡ length (codes "renju-game 1" ∷ board_lines other c) =
          let here = board-length kind b in let there = board-length other c in omega (arith, here, there) in
          let same = same_lines (codes "renju-game 1" ∷ board_lines kind b) (codes "renju-game 1" ∷ board_lines other c) tail
          (l ++ line_feed ∷ others) (front-free kind b ok) (front-free other c ok_c) count
          (sym five_lines ∙ f ∙ sym (text_of-push (codes "renju-game 1" ∷ board_lines other c) l others)) in
          let boards : board_lines kind b ≡ board_lines other c = let g = same.0 in cc in
          (sym (board_lines-injective kind other b c ok ok_c boards).1, same.1)

      no_moves_line : ReadsLine (AllByRecursion (IsWithin b.width b.height)) moves_line None tail → LeavesAt IsGameLines bytes 5
      unfolding IsGameLines board_lines
      no_moves_line none = record {
        lines = game_lines kind b [];
        rest = tail;
        are = (kind, b, [], ok, tt, refl);
        enough = omega arith;
        so_far = five_lines;
        no_further = λ ls others is f.
            let whole : bytes ≡ text_of (game_lines is.0 is.1 is.2) ++ others = subst
            (λ (l : List (List ℕ)). bytes ≡ text_of (take 6 l) ++ others) is.5 f in
            let same = same_moves_line is.0 is.1 (moves_line is.2) others is.3 whole in
            none is.2 others (subst (λ (g : Grid). AreOn g is.2) same.0 is.4) same.1;
      }

      pub moves_fault : (width height : ℕ) → width ≡ b.width → height ≡ b.height → (fault : Fault)
          → GivesLine (AllByRecursion (IsWithin width height)) moves_line (Err fault) tail → IsGameFault bytes (in_game (at_line fault 6))
      moves_fault width height w h Bad none =
          let here : ReadsLine (AllByRecursion (IsWithin b.width b.height)) moves_line None tail =
          subst (λ n. ReadsLine (AllByRecursion (IsWithin b.width n)) moves_line None tail) h
          (subst (λ n. ReadsLine (AllByRecursion (IsWithin n height)) moves_line None tail) w none) in
          first_bad IsGameText IsGameLines lines-free lines_of text_from bytes 5 (no_moves_line here)
      moves_fault width height w h Memory none = tt

      module _ (ms : List Point) (more : List ℕ) (on : AreOn b ms) (last : tail ≡ moves_line ms ++ line_feed ∷ more) where
        pub more_lines_than_six : (more ≡ [] → ⊥) → FirstBad IsGameText bytes 7
        unfolding IsGameLines board_lines
        more_lines_than_six some =
            let all : List (List ℕ) = game_lines kind b ms in
            too_many IsGameText IsGameLines lines-free lines_of text_from bytes more all (kind, b, ms, ok, on, refl)
            (five_lines ∙ ap (λ (l : List ℕ). text_of (codes "renju-game 1" ∷ board_lines kind b) ++ l) last
            ∙ text_of-push (codes "renju-game 1" ∷ board_lines kind b) (moves_line ms) more) some
            (λ lt others is f. let count = ap length is.5 in omega (arith, count))

-- the board of a game that is no lawful position
pub unlawful_fault : (file : GameFile) (bytes : List ℕ) (why : PositionError) → IsTextOfGame file bytes
    → refusal file.kind file.board ≡ Some why → IsGameText bytes × ((other : GameFile) → IsTextOfGame other bytes
    → refusal other.kind other.board ≡ Some why)
unlawful_fault file bytes why text first =
    ((file, text), λ other is. ap (λ (f : GameFile). refusal f.kind f.board) (one_game file other bytes text is) ∙ first)

-- moves within the width and the height of the board are on it
pub sized : (b : Grid) (width height : ℕ) (ms : List Point) → width ≡ b.width → height ≡ b.height
    → AllByRecursion (IsWithin width height) ms → AreOn b ms
sized b width height ms w h all = search rules
