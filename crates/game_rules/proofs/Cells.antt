-- Cells and the stones in them, one by one and counted.
use Rattle.std.proofs.Common.{ℕ, Bool, cond, ◌≡◌, ◌+◌, List, ◌∷◌, length, arith, [], refl, ◌*◌, ◌∙◌, ap, true, not, false, ◌&&◌, map, ◌⊎◌}
use Rattle.std.proofs.Common.{zero, suc, ◌<◌, get_or, replicate, rules, count_by, if◌then◌else◌, slice_index_or}
use Rattle.std.specs.List.{list_any}
use Rattle.std.specs.Bool.{Decides}
use Rattle.std.specs.Cmp.Lexicographic.{pointwise}
use Rattle.std.proofs.lemmas.List.Sums.{sum_by-cons}
use Rattle.std.proofs.lemmas.Slice.Eq.{slice_eq-Decides}
use Rattle.std.proofs.lemmas.List.{length-map}
use Rattle.std.proofs.lemmas.Bool.{or_cases}
use Rattle.game_rules.proofs.Common.{is_empty_cell, is_stone_of, Grid, IsBoard, stones_of, empties_of, stone_of, is_on, cell_at, is_empty}
use Rattle.game_rules.proofs.Common.{other, is_same_point, Cell, Side, Point, Black, White, Empty}
use Rattle.game_rules.specs.declared.Cell.TheVariants.{Black as BlackStone, White as WhiteStone}
use Rattle.game_rules.specs.contracts.CellPartialEq.TheImpl.{eq-value}
use Rattle.game_rules.proofs.Boards.{and_right, is_empty-cell}
use Rattle.game_rules.proofs.Points.{is_same_point-same}

abbrev count_if : (Cell → Bool) → Cell → ℕ
count_if test c = cond (test c) 1 0

add_one_cell : (c : Cell) (cells : List Cell) → count_if (is_stone_of Black) c + count_if (is_stone_of White) c + count_if is_empty_cell c
    ≡ 1 → count_by (is_stone_of Black) cells + count_by (is_stone_of White) cells + count_by is_empty_cell cells ≡ length cells
    → count_by (is_stone_of Black) (c ∷ cells) + count_by (is_stone_of White) (c ∷ cells) + count_by is_empty_cell (c ∷ cells) ≡ length
    (c ∷ cells)
add_one_cell c cells one rest = search (rules, sum_by-cons)

-- each cell holds a black stone, a white stone or none
counts_add : (cells : List Cell) → count_by (is_stone_of Black) cells + count_by (is_stone_of White) cells + count_by is_empty_cell cells
    ≡ length cells
counts_add [] = refl
counts_add (Empty ∷ cells) = add_one_cell Empty cells refl (counts_add cells)
counts_add (BlackStone ∷ cells) = add_one_cell BlackStone cells refl (counts_add cells)
counts_add (WhiteStone ∷ cells) = add_one_cell WhiteStone cells refl (counts_add cells)

pub counts_of_board : (b : Grid) → IsBoard b → stones_of b Black + stones_of b White + empties_of b ≡ b.width * b.height
counts_of_board b ok = counts_add b.cells ∙ ok.filled

-- the derived `==` of cells says whether they are one
cell_eq-Decides : (a b : Cell) → Decides (eq-value.it a b) (a ≡ b)
cell_eq-Decides a b = search rules

-- boards of one width and height are one exactly where their cells are
pub same_cells-Decides : (b c : Grid) (r : Bool) → b.width ≡ c.width → b.height ≡ c.height → r ≡ pointwise eq-value.it b.cells c.cells
    → Decides r (b ≡ c)
same_cells-Decides b c r w h e = search (rules, slice_eq-Decides, cell_eq-Decides)

stone-not_empty : (s : Side) (c : Cell) → is_stone_of s c ≡ true → not (is_empty_cell c) ≡ true
stone-not_empty s c h = search rules

pub stone_by : (s : Side) (on : Bool) (c : Cell) → (on && is_stone_of s c) ≡ true → (on && not (is_empty_cell c)) ≡ true
stone_by s on c h = search (rules, stone-not_empty)

pub without_white : Cell → Cell
without_white Empty = Empty
without_white BlackStone = BlackStone
without_white WhiteStone = Empty

abbrev pub blacks_of : Grid → Grid
blacks_of b = record { width = b.width; height = b.height; cells = map without_white b.cells }

pub IsBoard-blacks : (b : Grid) → IsBoard b → IsBoard (blacks_of b)
IsBoard-blacks b ok = search (rules, length-map, without_white)

pub black_kept : (c : Cell) → is_stone_of Black (without_white c) ≡ is_stone_of Black c
unfolding without_white
black_kept c = search rules

pub white_gone : (c : Cell) → is_stone_of White (without_white c) ≡ false
unfolding without_white
white_gone c = search rules

pub cell-by_stones : (c d : Cell) → is_stone_of Black c ≡ is_stone_of Black d → is_stone_of White c ≡ is_stone_of White d → c ≡ d
cell-by_stones c d b w = search rules

pub empty_stone : (s : Side) → is_stone_of s Empty ≡ false
empty_stone s = search rules

pub taken_by : (s : Side) (c : Cell) → is_empty_cell c ≡ false → (is_stone_of s c ≡ true) ⊎ (is_stone_of (other s) c ≡ true)
taken_by s c h = search rules

pub not_both_stones : (s : Side) (c : Cell) → is_stone_of s c ≡ true → is_stone_of (other s) c ≡ true → ⊥
not_both_stones s c own others = search rules

pub side_there : (c : Cell) → not (is_empty_cell c) ≡ true → (t : Side) × (is_stone_of t c ≡ true)
side_there c h = search rules

pub own_stone : (brain : Side) (own : Bool) → is_stone_of brain (stone_of (if own then brain else other brain)) ≡ own
own_stone brain own = search rules

pub other_stone : (brain : Side) (own : Bool) → is_stone_of (other brain) (stone_of (if own then brain else other brain)) ≡ not own
other_stone brain own = search rules

pub some_place : (f : Cell → Bool) (cells : List Cell) (d : Cell) → 0 < count_by f cells
    → (k : ℕ) × (k < length cells) × (f (slice_index_or cells k d) ≡ true)
some_place f [] d h = absurd (omega arith)
some_place f (c ∷ cs) d h = by_test (f c) refl (sum_by-cons (λ x. cond (f x) 1 0) c cs) (some_place f cs d) where
  by_test : (r : Bool) → f c ≡ r → count_by f (c ∷ cs) ≡ cond r 1 0 + count_by f cs
      → (0 < count_by f cs → (k : ℕ) × (k < length cs) × (f (slice_index_or cs k d) ≡ true))
      → (k : ℕ) × (k < suc (length cs)) × (f (slice_index_or (c ∷ cs) k d) ≡ true)
  by_test true e sum rest = (zero, omega arith, e)
  by_test false e sum rest = let later = rest (omega (arith, sum, h)) in let low = later.1 in (suc later.0, omega (arith, low), later.2)

pub empty_cell : (n k : ℕ) → get_or (replicate n Empty) k Empty ≡ Empty
empty_cell zero k = refl
empty_cell (suc n) zero = refl
empty_cell (suc n) (suc k) = empty_cell n k

-- cells among which no stones are counted are empty
pub bare-cells : (cells : List Cell) → count_by (is_stone_of Black) cells ≡ 0 → count_by (is_stone_of White) cells ≡ 0
    → cells ≡ replicate (length cells) Empty
bare-cells [] black white = refl
bare-cells (Empty ∷ cells) black white =
    let others : count_by (is_stone_of Black) cells ≡ 0 = let e =
    sum_by-cons (λ (c : Cell). cond (is_stone_of Black c) 1 0) Empty cells in omega arith in
    let whites : count_by (is_stone_of White) cells ≡ 0 = let e =
    sum_by-cons (λ (c : Cell). cond (is_stone_of White c) 1 0) Empty cells in omega arith in
    ap (λ (cs : List Cell). Empty ∷ cs) (bare-cells cells others whites)
bare-cells (BlackStone ∷ cells) black white = let e =
    sum_by-cons (λ (c : Cell). cond (is_stone_of Black c) 1 0) BlackStone cells in absurd (omega arith)
bare-cells (WhiteStone ∷ cells) black white = let e =
    sum_by-cons (λ (c : Cell). cond (is_stone_of White c) 1 0) WhiteStone cells in absurd (omega arith)

-- a stone on a point that is not empty is of the side that it is said to be
pub stone-there : (side : Side) (c : Cell) → is_empty_cell c ≡ false → stone_of (cond (is_stone_of side c) side (other side)) ≡ c
stone-there side c e = search rules

pub same-length : (b c : Grid) → IsBoard b → IsBoard c → c.width ≡ b.width → c.height ≡ b.height → length c.cells ≡ length b.cells
same-length b c board other wide high = search rules

-- the points of the board c that differ from those of b are empty, and among these
unfoldable pub Makes : Grid → Grid → List Point → Type 0
Makes b c ps = (q : Point) → is_on b q ≡ true → (cell_at c q ≡ cell_at b q) ⊎
    ((cell_at c q ≡ Empty) × (list_any (λ p. is_same_point p q) ps ≡ true))

-- a board of the size of b
pub record IsLike (b c : Grid) : Type 0 where
  pub board : IsBoard c
  pub wide : c.width ≡ b.width
  pub high : c.height ≡ b.height

pub on-like : (b c : Grid) (p : Point) → IsLike b c → is_on b p ≡ true → is_on c p ≡ true
on-like b c p like on = search rules

-- the first point, p, is empty: nothing is put there
pub makes-empty : (b c : Grid) (p : Point) (ps : List Point) → is_empty b p ≡ true → Makes b c (p ∷ ps) → Makes b c ps
unfolding Makes
makes-empty b c p ps empty makes q on = search (rules, or_cases, is_empty-cell, and_right, is_same_point-same)

-- each of the points is on the board
unfoldable pub On : Grid → List Point → Type 0
On b ps = (q : Point) → list_any (λ p. is_same_point p q) ps ≡ true → is_on b q ≡ true
