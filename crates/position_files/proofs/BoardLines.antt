-- The lines of a board. Where bytes leave the lines of a board, and that lines spell one board.
use Rattle.std.proofs.Common.{◌≡◌, ℕ, true, sym, ap, subst, ◌∙◌, List, [], ◌∷◌, ◌++◌, codes, ◌+◌, false, refl, arith, length, take, get_or}
use Rattle.std.proofs.Common.{None, rules}
use Rattle.std.specs.List.{AllByRecursion}
use Rattle.std.proofs.lemmas.List.{append_cancel_left, ext_get_or}
use Rattle.position_files.proofs.Common.{RuleKind, Side, Black, Point, Empty, MIN_SIDE, Freestyle, Grid, IsBoard, is_stone_of, Fault, Bad}
use Rattle.position_files.proofs.Common.{line_feed, text_of, point_text, points_text, IsWithin, is_free, LeavesAt, ReadsLine, stones}
use Rattle.position_files.proofs.Common.{rule_line, size_line, black_line, white_line, board_lines, AreSides, IsSide, SameBut, at_line}
use Rattle.position_files.proofs.Common.{rule_word, size_text, IsBoardLines, IsSectionFault}
use Rattle.game_rules.specs.declared.Side.TheVariants.{White}
use Rattle.game_rules.proofs.Marks.{empty_board, point_at, marked, same_tests, marked-map, marked-none}
use Rattle.game_rules.proofs.Cells.{without_white, blacks_of, IsBoard-blacks, black_kept, white_gone, cell-by_stones}
use Rattle.text_lines.proofs.Cuts.{is_free-append}
use Rattle.text_lines.proofs.Items.{items_text-injective}
use Rattle.text_lines.proofs.LineLaws.{point_items, points-free, same_line}
use Rattle.text_lines.proofs.TextLaws.{text_of-cons, text_of-push, AreFree, same_lines}
use Rattle.position_files.proofs.Spellings.{side_fits, size_text-injective, rule_word-free, size-free}
use Rattle.position_files.proofs.Stones.{stones-within, stones-empty, stones-marked, IsBoard-empty}

pub width_side : (b : Grid) → IsBoard b → IsSide b.width
width_side b ok = record { long = ok.wide; fits = ok.width_fits }

pub height_side : (b : Grid) → IsBoard b → IsSide b.height
height_side b ok = record { long = ok.high; fits = ok.height_fits }

-- where the first line lists the stones of a board, it is this line
pub stones_first : (b : Grid) (s : Side) (word l rest others bytes : List ℕ) → IsBoard b → is_free line_feed word ≡ true
    → is_free line_feed l ≡ true → bytes ≡ l ++ line_feed ∷ rest → bytes ≡ (word ++ points_text (stones b s)) ++ line_feed ∷ others
    → l ≡ word ++ points_text (stones b s)
stones_first b s word l rest others bytes ok free_word free_l parts e =
    let points = points-free b.width b.height (side_fits b.width (width_side b ok)) (side_fits b.height (height_side b ok)) (stones b s)
    (stones-within b s) in
    (same_line l rest (word ++ points_text (stones b s)) others free_l
    (is_free-append line_feed word (points_text (stones b s)) free_word points) (sym parts ∙ e)).0

-- the stones of a board of this size are points within it
pub stones_fit : (first b : Grid) (s : Side) → SameBut s first b → AllByRecursion (IsWithin first.width first.height) (stones b s)
stones_fit first b s same = search (rules, stones-within)

-- points that are listed after a word are the stones that are spelled there
pub listed_stones : (first b : Grid) (s : Side) (word l : List ℕ) (ps : List Point) → IsBoard first → SameBut s first b
    → AllByRecursion (IsWithin first.width first.height) ps → l ≡ word ++ points_text ps → l ≡ word ++ points_text (stones b s)
    → stones b s ≡ ps
listed_stones first b s word l ps ok same fits read spelled =
    let text : points_text (stones b s) ≡ points_text ps =
    append_cancel_left word (points_text (stones b s)) (points_text ps) (sym spelled ∙ read) in
    items_text-injective (IsWithin first.width first.height) point_text
    (point_items first.width first.height (side_fits first.width (width_side first ok)) (side_fits first.height (height_side first ok)))
    (stones b s) ps (stones_fit first b s same) fits text

-- the four lines of a board
pub board_text : (kind : RuleKind) (b : Grid) (bytes r1 r2 r3 rest : List ℕ) → bytes ≡ rule_line kind ++ line_feed ∷ r1
    → r1 ≡ size_line b.width b.height ++ line_feed ∷ r2 → r2 ≡ black_line b ++ line_feed ∷ r3 → r3 ≡ white_line b ++ line_feed ∷ rest
    → bytes ≡ text_of (board_lines kind b) ++ rest
unfolding board_lines
board_text kind b bytes r1 r2 r3 rest e1 e2 e3 e4 =
    let l3 : r3 ≡ text_of (white_line b ∷ []) ++ rest = e4 ∙ text_of-cons (white_line b) [] rest in
    let l2 : r2 ≡ text_of (black_line b ∷ white_line b ∷ []) ++ rest =
    e3 ∙ ap (λ (l : List ℕ). black_line b ++ line_feed ∷ l) l3 ∙ text_of-cons (black_line b) (white_line b ∷ []) rest in
    let l1 : r1 ≡ text_of (size_line b.width b.height ∷ black_line b ∷ white_line b ∷ []) ++ rest =
    e2 ∙ ap (λ (l : List ℕ). size_line b.width b.height ++ line_feed ∷ l) l2
    ∙ text_of-cons (size_line b.width b.height) (black_line b ∷ white_line b ∷ []) rest in
    e1 ∙ ap (λ (l : List ℕ). rule_line kind ++ line_feed ∷ l) l1
    ∙ text_of-cons (rule_line kind) (size_line b.width b.height ∷ black_line b ∷ white_line b ∷ []) rest

pub board_found : (kind : RuleKind) (width height : ℕ) (b0 b1 b2 : Grid) (bytes r1 r2 r3 rest : List ℕ) → b0 ≡ empty_board width height
    → bytes ≡ rule_line kind ++ line_feed ∷ r1 → r1 ≡ size_line width height ++ line_feed ∷ r2
    → SameBut Black b0 b1 → r2 ≡ (codes "black" ++ points_text (stones b1 Black)) ++ line_feed ∷ r3 → SameBut White b1 b2
    → r3 ≡ (codes "white" ++ points_text (stones b2 White)) ++ line_feed ∷ rest → bytes ≡ text_of (board_lines kind b2) ++ rest
board_found kind width height b0 b1 b2 bytes r1 r2 r3 rest empty e1 e2 black e3 white e4 =
    let w : b2.width ≡ width = white.width ∙ black.width ∙ ap (λ (b : Grid). b.width) empty in
    let h : b2.height ≡ height = white.height ∙ black.height ∙ ap (λ (b : Grid). b.height) empty in
    let size : r1 ≡ size_line b2.width b2.height ++ line_feed ∷ r2 =
    e2 ∙ ap (λ n. size_line n height ++ line_feed ∷ r2) (sym w) ∙ ap (λ n. size_line b2.width n ++ line_feed ∷ r2) (sym h) in
    let blacks : r2 ≡ black_line b2 ++ line_feed ∷ r3 =
    e3 ∙ ap (λ (ps : List Point). (codes "black" ++ points_text ps) ++ line_feed ∷ r3) (sym white.others) in
    board_text kind b2 bytes r1 r2 r3 rest e1 size blacks e4

-- no stones stand on an empty board, nor White's after Black's are put on one
pub none_at_first : (width height : ℕ) (b : Grid) (s : Side) → AreSides (width, height) → b ≡ empty_board width height → stones b s ≡ []
none_at_first width height b s sides e = ap (λ (g : Grid). stones g s) e ∙ stones-empty width height s sides.width sides.height

pub none_then : (width height : ℕ) (b0 b1 : Grid) → AreSides (width, height) → b0 ≡ empty_board width height → SameBut Black b0 b1
    → stones b1 White ≡ []
none_then width height b0 b1 sides e same = same.others ∙ none_at_first width height b0 White sides e

-- ---- no line feed stands in these lines

pub sides_of : (b : Grid) → IsBoard b → AreSides (b.width, b.height)
sides_of b ok = record { width = width_side b ok; height = height_side b ok }

rule-free : (kind : RuleKind) → is_free line_feed (rule_line kind) ≡ true
rule-free kind = is_free-append line_feed (codes "rule ") (rule_word kind) refl (rule_word-free kind tt)

size_line-free : (width height : ℕ) → AreSides (width, height) → is_free line_feed (size_line width height) ≡ true
size_line-free width height sides = is_free-append line_feed (codes "size ") (size_text width height) refl (size-free (width, height) sides)

stones-free : (word : List ℕ) (b : Grid) (s : Side) → IsBoard b → is_free line_feed word ≡ true
    → is_free line_feed (word ++ points_text (stones b s)) ≡ true
stones-free word b s ok free = search (rules, is_free-append, points-free, side_fits, width_side, height_side, stones-within)

pub board-free : (kind : RuleKind) (b : Grid) → IsBoard b → AreFree (board_lines kind b)
unfolding board_lines
board-free kind b ok = search (rules, rule-free, size_line-free, sides_of, stones-free)

pub board-length : (kind : RuleKind) (b : Grid) → length (board_lines kind b) ≡ 4
unfolding board_lines
board-length kind b = refl

-- ---- a board without White's stones

blacks_black : (b : Grid) → IsBoard b → stones (blacks_of b) Black ≡ stones b Black
blacks_black b ok = search (rules, stones-marked, blacks_of, IsBoard-blacks, marked-map, point_at, without_white, black_kept)

blacks_white : (b : Grid) → IsBoard b → stones (blacks_of b) White ≡ []
blacks_white b ok = stones-marked (blacks_of b) White (IsBoard-blacks b ok) ∙ marked-map
    (point_at b.width) (is_stone_of White) (λ _. false) without_white white_gone 0 b.cells ∙ marked-none (point_at b.width) 0 b.cells

-- ---- one board has these stones

pub same_board : (a b : Grid) → IsBoard a → IsBoard b → a.width ≡ b.width → a.height ≡ b.height → stones a Black ≡ stones b Black
    → stones a White ≡ stones b White → a ≡ b
same_board a b ok_a ok_b w h black white =
    let count : length a.cells ≡ length b.cells = ok_a.filled ∙ rw (w, h) (sym ok_b.filled) in
    let tests = λ (s : Side) (e : stones a s ≡ stones b s). same_tests a.width (is_stone_of s) 0 a.cells b.cells count
    (sym (stones-marked a s ok_a) ∙ e ∙ stones-marked b s ok_b ∙ ap (λ n. marked (point_at n) (is_stone_of s) 0 b.cells) (sym w)) in
    let cells : a.cells ≡ b.cells = ext_get_or Empty a.cells b.cells count
    (λ i within. cell-by_stones (get_or a.cells i Empty) (get_or b.cells i Empty) (tests Black black i) (tests White white i)) in
    λ i. record { width = w i; height = h i; cells = cells i }

-- ---- lines say the same of boards

pub same_sizes : (w h v k : ℕ) → AreSides (w, h) → AreSides (v, k) → size_line w h ≡ size_line v k → (w ≡ v) × (h ≡ k)
same_sizes w h v k fa fb e = size_text-injective (w, h) (v, k) fa fb (append_cancel_left (codes "size ") (size_text w h) (size_text v k) e)

pub same_stones : (word : List ℕ) (a b : Grid) (s : Side) → IsBoard a → a.width ≡ b.width → a.height ≡ b.height
    → word ++ points_text (stones a s) ≡ word ++ points_text (stones b s) → stones a s ≡ stones b s
same_stones word a b s ok w h e =
    let fits : AllByRecursion (IsWithin a.width a.height) (stones b s) = subst (λ n. AllByRecursion (IsWithin n a.height) (stones b s))
    (sym w) (subst (λ n. AllByRecursion (IsWithin b.width n) (stones b s)) (sym h) (stones-within b s)) in
    items_text-injective (IsWithin a.width a.height) point_text
    (point_items a.width a.height (side_fits a.width (width_side a ok)) (side_fits a.height (height_side a ok)))
    (stones a s) (stones b s) (stones-within a s) fits (append_cancel_left word (points_text (stones a s)) (points_text (stones b s)) e)

rule_known : (kind other : RuleKind) → rule_line kind ≡ rule_line other → kind ≡ other
rule_known kind other e = search rules

-- lines spell one rule and one board
pub board_lines-injective : (kind other : RuleKind) (a b : Grid) → IsBoard a → IsBoard b → board_lines kind a ≡ board_lines other b
    → (kind ≡ other) × (a ≡ b)
unfolding board_lines
board_lines-injective kind other a b ok_a ok_b e =
    let rule : rule_line kind ≡ rule_line other = cc in
    let size : size_line a.width a.height ≡ size_line b.width b.height = cc in
    let black : black_line a ≡ black_line b = cc in
    let white : white_line a ≡ white_line b = cc in
    let sides = same_sizes a.width a.height b.width b.height (sides_of a ok_a) (sides_of b ok_b) size in (
      rule_known kind other rule,
      same_board a b ok_a ok_b sides.0 sides.1 (same_stones (codes "black") a b Black ok_a sides.0 sides.1 black)
          (same_stones (codes "white") a b White ok_a sides.0 sides.1 white),
    )

-- ---- where bytes leave the lines of a board

pub fault_at : (IsLines : List (List ℕ) → Type 0) (bytes : List ℕ) (i : ℕ) (fault : Fault) → (fault ≡ Bad → LeavesAt IsLines bytes i)
    → IsSectionFault IsLines bytes (at_line fault (i + 1))
fault_at IsLines bytes i fault h = search rules

pub least_side : IsSide MIN_SIDE
least_side = record { long = omega arith; fits = omega arith }

module _ (bytes : List ℕ) where
  pub no_rule_line : ReadsLine (λ (_ : RuleKind). Unit {0}) rule_line None bytes → LeavesAt IsBoardLines bytes 0
  unfolding board_lines
  no_rule_line none = record {
    lines = board_lines Freestyle (empty_board MIN_SIDE MIN_SIDE);
    rest = bytes;
    are = (Freestyle, empty_board MIN_SIDE MIN_SIDE, IsBoard-empty MIN_SIDE MIN_SIDE least_side least_side, refl);
    enough = omega arith;
    so_far = refl;
    no_further = λ ls others is e.
        let whole : bytes ≡ text_of (rule_line is.0 ∷ []) ++ others =
        subst (λ (l : List (List ℕ)). bytes ≡ text_of (take 1 l) ++ others) is.3 e in
        none is.0 others tt (whole ∙ sym (text_of-cons (rule_line is.0) [] others));
  }

  module _ (kind : RuleKind) (r1 : List ℕ) (e1 : bytes ≡ rule_line kind ++ line_feed ∷ r1) where
    first_line : bytes ≡ text_of (rule_line kind ∷ []) ++ r1
    first_line = e1 ∙ text_of-cons (rule_line kind) [] r1

    pub no_size_line : ReadsLine AreSides (λ sides. size_line sides.0 sides.1) None r1 → LeavesAt IsBoardLines bytes 1
    unfolding board_lines
    no_size_line none = record {
      lines = board_lines kind (empty_board MIN_SIDE MIN_SIDE);
      rest = r1;
      are = (kind, empty_board MIN_SIDE MIN_SIDE, IsBoard-empty MIN_SIDE MIN_SIDE least_side least_side, refl);
      enough = omega arith;
      so_far = first_line;
      no_further = λ ls others is e.
          let b : Grid = is.1 in
          let size : List ℕ = size_line b.width b.height in
          let whole : bytes ≡ text_of ((rule_line is.0 ∷ []) ++ size ∷ []) ++ others =
          subst (λ (l : List (List ℕ)). bytes ≡ text_of (take 2 l) ++ others) is.3 e in
          let same = same_lines (rule_line kind ∷ []) (rule_line is.0 ∷ []) r1 (size ++ line_feed ∷ others) (rule-free kind, tt)
          (rule-free is.0, tt) refl (sym first_line ∙ whole ∙ sym (text_of-push (rule_line is.0 ∷ []) size others)) in
          none (b.width, b.height) others (sides_of b is.2) same.1;
    }

    module _ (width height : ℕ) (b0 : Grid) (r2 : List ℕ) (sides : AreSides (width, height)) (empty : b0 ≡ empty_board width height)
        (e2 : r1 ≡ size_line width height ++ line_feed ∷ r2) where
      two_lines : bytes ≡ text_of (rule_line kind ∷ size_line width height ∷ []) ++ r2
      two_lines = first_line ∙ ap (λ (l : List ℕ). text_of (rule_line kind ∷ []) ++ l) e2
          ∙ text_of-push (rule_line kind ∷ []) (size_line width height) r2

      pub no_black_line : ((b : Grid) (rest : List ℕ) → IsBoard b → SameBut Black b0 b
          → r2 ≡ (codes "black" ++ points_text (stones b Black)) ++ line_feed ∷ rest → ⊥) → LeavesAt IsBoardLines bytes 2
      unfolding board_lines
      no_black_line none = record {
        lines = board_lines kind (empty_board width height);
        rest = r2;
        are = (kind, empty_board width height, IsBoard-empty width height sides.width sides.height, refl);
        enough = omega arith;
        so_far = two_lines;
        no_further = λ ls others is e.
            let b : Grid = is.1 in
            let front : List (List ℕ) = rule_line is.0 ∷ size_line b.width b.height ∷ [] in
            let whole : bytes ≡ text_of (front ++ black_line b ∷ []) ++ others =
            subst (λ (l : List (List ℕ)). bytes ≡ text_of (take 3 l) ++ others) is.3 e in
            let same = same_lines (rule_line kind ∷ size_line width height ∷ []) front r2
            (black_line b ++ line_feed ∷ others) (rule-free kind, (size_line-free width height sides, tt))
            (rule-free is.0, (size_line-free b.width b.height (sides_of b is.2), tt)) refl
            (sym two_lines ∙ whole ∙ sym (text_of-push front (black_line b) others)) in
            let size : size_line width height ≡ size_line b.width b.height = let f = same.0 in cc in
            let now = same_sizes width height b.width b.height sides (sides_of b is.2) size in
            none (blacks_of b) others (IsBoard-blacks b is.2) (record {
              width = sym now.0 ∙ sym (ap (λ (g : Grid). g.width) empty);
              height = sym now.1 ∙ sym (ap (λ (g : Grid). g.height) empty);
              others = blacks_white b is.2 ∙ sym (none_at_first width height b0 White sides empty);
            }) (same.1 ∙ ap (λ (ps : List Point). (codes "black" ++ points_text ps) ++ line_feed ∷ others) (sym (blacks_black b is.2)));
      }

      pub no_white_line : (b1 : Grid) (r3 : List ℕ) → IsBoard b1 → SameBut Black b0 b1
          → r2 ≡ (codes "black" ++ points_text (stones b1 Black)) ++ line_feed ∷ r3
          → ((b : Grid) (rest : List ℕ) → IsBoard b → SameBut White b1 b
          → r3 ≡ (codes "white" ++ points_text (stones b White)) ++ line_feed ∷ rest → ⊥) → LeavesAt IsBoardLines bytes 3
      unfolding board_lines
      no_white_line b1 r3 ok put e3 none =
          let w : b1.width ≡ width = put.width ∙ ap (λ (g : Grid). g.width) empty in
          let h : b1.height ≡ height = put.height ∙ ap (λ (g : Grid). g.height) empty in
          let known : List (List ℕ) = rule_line kind ∷ size_line b1.width b1.height ∷ black_line b1 ∷ [] in
          let lines : bytes ≡ text_of known ++ r3 = two_lines ∙ ap (λ n. text_of (rule_line kind ∷ size_line n height ∷ []) ++ r2) (sym w)
          ∙ ap (λ n. text_of (rule_line kind ∷ size_line b1.width n ∷ []) ++ r2) (sym h)
          ∙ ap (λ (l : List ℕ). text_of (rule_line kind ∷ size_line b1.width b1.height ∷ []) ++ l) e3
          ∙ text_of-push (rule_line kind ∷ size_line b1.width b1.height ∷ []) (black_line b1) r3 in
          record {
            lines = board_lines kind b1;
            rest = r3;
            are = (kind, b1, ok, refl);
            enough = omega arith;
            so_far = lines;
            no_further = λ ls others is e.
                let b : Grid = is.1 in
                let front : List (List ℕ) = rule_line is.0 ∷ size_line b.width b.height ∷ black_line b ∷ [] in
                let whole : bytes ≡ text_of (front ++ white_line b ∷ []) ++ others =
                subst (λ (l : List (List ℕ)). bytes ≡ text_of (take 4 l) ++ others) is.3 e in
                let same = same_lines known front r3 (white_line b ++ line_feed ∷ others)
                (rule-free kind, (size_line-free b1.width b1.height (sides_of b1 ok), (stones-free (codes "black") b1 Black ok refl, tt)))
                (rule-free is.0, (size_line-free b.width b.height (sides_of b is.2), (stones-free (codes "black") b Black is.2 refl, tt)))
                refl (sym lines ∙ whole ∙ sym (text_of-push front (white_line b) others)) in
                let size : size_line b1.width b1.height ≡ size_line b.width b.height = let f = same.0 in cc in
                let black : black_line b1 ≡ black_line b = let f = same.0 in cc in
                let now = same_sizes b1.width b1.height b.width b.height (sides_of b1 ok) (sides_of b is.2) size in
                none b others is.2 (record {
                  width = sym now.0;
                  height = sym now.1;
                  others = sym (same_stones (codes "black") b1 b Black ok now.0 now.1 black);
                }) same.1;
          }
