-- The stones of a board, as they come in the list of its cells.
use Rattle.std.proofs.Common.{rules, ◌≡◌, ℕ, zero, suc, ◌+◌, ◌-◌, ◌*◌, ◌/◌, ◌%◌, ◌≤◌, ◌<◌, Bool, true, false, cond, not, ◌&&◌, refl, sym}
use Rattle.std.proofs.Common.{ap, ◌∙◌, arith, List, [], ◌∷◌, ◌++◌, length, take, drop, set, get_or, filter, nat_lt, replicate, inl, inr}
use Rattle.std.specs.List.{flat_map, range_with_len, AllByRecursion}
use Rattle.std.proofs.lemmas.Bool.{and_parts, not-true, lt-ltb, both_ways}
use Rattle.std.proofs.lemmas.List.{drop-drop, length-drop, length-take-le, drop-set-lt, get_or-drop, length-replicate}
use Rattle.std.proofs.lemmas.List.Elements.{filter-append}
use Rattle.std.proofs.lemmas.Nat.{div-mul-add, mod-mul-add, row_fits}
use Rattle.std.proofs.Math.Seq.{drop-cons, take-add, take-length}
use Rattle.position_files.proofs.Common.{Grid, IsBoard, is_on, holds, is_stone_of, place_of, points_of, Side, Empty, Point, stones, SameBut}
use Rattle.position_files.proofs.Common.{IsSide, IsWithin}
use Rattle.game_rules.proofs.Common.{stone_of, cell_at, row_from, put, is_empty, is_empty_cell, other}
use Rattle.game_rules.specs.declared.Cell.{Cell}
use Rattle.game_rules.proofs.Boards.{stone_of_side, stone_of-other, place_fits, on_x, on_y, is_empty-cell, is_empty-on}
use Rattle.game_rules.proofs.Positions.{IsBoard-put}
use Rattle.game_rules.proofs.Cells.{empty_stone, taken_by, not_both_stones}
use Rattle.game_rules.proofs.Marks.{point_at, marked, is_clear, marked-append, clear_none, clear_drop, marked-set_other, next_mark}
use Rattle.game_rules.proofs.Marks.{same_tests, clear_from_none, clear_at, clear_replicate, empty_board}

module _ (at : ℕ → Point) (test : Cell → Bool) where
  -- a mark after all others is the last of them
  marked-set_last : (k i : ℕ) (cs : List Cell) (stone : Cell) → test stone ≡ true → i < length cs → (is_clear at test) (drop i cs) ≡ true
      → (marked at test) k (set cs i stone) ≡ (marked at test) k cs ++ at (k + i) ∷ []
  marked-set_last k i [] stone passes within clear = absurd (omega arith)
  marked-set_last k zero (c ∷ cs) stone passes within clear = search (rules, and_parts, is_clear, marked, clear_none, not-true)
  marked-set_last k (suc i) (c ∷ cs) stone passes within clear =
      search (rules, marked, marked-set_last (k + 1) i cs stone passes (omega arith) clear)

-- ---- the stones of a board are the marks of its cells

row_marked : (b : Grid) (s : Side) (y : ℕ) → IsBoard b → y < b.height → (n x : ℕ) → x + n ≤ b.width
    → filter (holds b s) (row_from y x n) ≡ marked (point_at b.width) (is_stone_of s) (y * b.width + x)
    (take n (drop (y * b.width + x) b.cells))
row_marked b s y ok row zero x within = refl
row_marked b s y ok row (suc n) x within =
    let p : Point = record { x = x; y = y } in
    let left : nat_lt x b.width ≡ true = lt-ltb _ _ (omega arith) in
    let above : nat_lt y b.height ≡ true = lt-ltb _ _ row in
    let on : is_on b p ≡ true = rw (left, above) refl in
    let fits : place_of b p < length b.cells = place_fits b p ok on in
    let more : drop (y * b.width + x) b.cells ≡ cell_at b p ∷ drop (suc (y * b.width + x)) b.cells =
    drop-cons b.cells (y * b.width + x) Empty fits in
    let rest = row_marked b s y ok row n (x + 1) (omega arith) in
    let next : y * b.width + (x + 1) ≡ suc (y * b.width + x) = omega arith in
    let rest' : filter (holds b s) (row_from y (x + 1) n) ≡ marked (point_at b.width) (is_stone_of s) (suc (y * b.width + x))
    (take n (drop (suc (y * b.width + x)) b.cells)) = rw next at rest in
    let same : holds b s p ≡ is_stone_of s (cell_at b p) = rw on refl in
    let col : (y * b.width + x) % b.width ≡ x = mod-mul-add y b.width x (omega arith) in
    let line : (y * b.width + x) / b.width ≡ y = div-mul-add y b.width x (omega arith) in
    let here : point_at b.width (y * b.width + x) ≡ p = λ i. record { x = col i; y = line i } in
    let one : y * b.width + x + 1 ≡ suc (y * b.width + x) = omega arith in
    rw (more, same, rest', here, one) refl

rows_marked : (b : Grid) (s : Side) → IsBoard b → (n y : ℕ) → y + n ≤ b.height
    → filter (holds b s) (flat_map (λ y. row_from y 0 b.width) (range_with_len y n)) ≡ marked (point_at b.width) (is_stone_of s)
    (y * b.width) (take (n * b.width) (drop (y * b.width) b.cells))
rows_marked b s ok zero y within = let none : zero * b.width ≡ 0 = omega arith in rw none refl
rows_marked b s ok (suc n) y within =
    let w = b.width in
    let rest_of = drop (y * w) b.cells in
    let row = row_marked b s y ok (omega arith) w 0 (omega arith) in
    let rows = rows_marked b s ok n (y + 1) (omega arith) in
    let start : y * w + 0 ≡ y * w = omega arith in
    let next : (y + 1) * w ≡ y * w + w = omega arith in
    let all : suc n * w ≡ w + n * w = omega arith in
    let row' : filter (holds b s) (row_from y 0 w) ≡ marked (point_at w) (is_stone_of s) (y * w) (take w rest_of) = rw start at row in
    let rows' : filter (holds b s) (flat_map (λ y. row_from y 0 w) (range_with_len (y + 1) n)) ≡ marked
    (point_at w) (is_stone_of s) (y * w + w) (take (n * w) (drop w rest_of)) = rows ∙ rw (next, drop-drop w (y * w) b.cells) refl in
    let fits : y * w + w ≤ length b.cells =
    let filled = ok.filled in let below = row_fits y w b.height w (omega arith) (omega arith) in omega (arith, filled, below) in
    let count : length (take w rest_of) ≡ w = length-take-le w rest_of (let d = length-drop (y * w) b.cells in omega (arith, d, fits)) in
    filter-append (holds b s) (row_from y 0 w) (flat_map (λ y. row_from y 0 w) (range_with_len (y + 1) n)) ∙ rw (
      row',
      rows',
      all,
      take-add w (n * w) rest_of,
      marked-append (point_at w) (is_stone_of s) (y * w) (take w rest_of) (take (n * w) (drop w rest_of)),
      count,
    ) refl

-- the stones of a side are the marked cells
pub stones-marked : (b : Grid) (s : Side) → IsBoard b → stones b s ≡ marked (point_at b.width) (is_stone_of s) 0 b.cells
unfolding stones
stones-marked b s ok =
    let rows = rows_marked b s ok b.height 0 (omega arith) in
    let start : 0 * b.width ≡ 0 = omega arith in
    let count : b.height * b.width ≡ length b.cells = let filled = ok.filled in omega (arith, filled) in
    let whole : take (length b.cells) b.cells ≡ b.cells = take-length b.cells in
    rows ∙ rw (start, count, whole) refl

-- ---- what the marks say of the cells

-- ---- stones that are put one after another

-- The stones of the side that stand now are the first of these points, all before this place, the other side's stones are as at
-- first, and whatever other board has stones of the side on all these points has the rest of them from this place on.
pub record ArePut (first now : Grid) (s : Side) (points : List Point) (i least : ℕ) : Type 0 where
  pub board : IsBoard now
  pub width : now.width ≡ first.width
  pub height : now.height ≡ first.height
  pub own : stones now s ≡ take i points
  pub others : stones now (other s) ≡ stones first (other s)
  pub clear : is_clear (point_at now.width) (is_stone_of s) (drop least now.cells) ≡ true
  pub only : (b : Grid) → IsBoard b → b.width ≡ first.width → b.height ≡ first.height → stones b s ≡ points
      → marked (point_at b.width) (is_stone_of s) least (drop least b.cells) ≡ drop i points

pub none_put : (b : Grid) (s : Side) (points : List Point) → IsBoard b → stones b s ≡ [] → ArePut b b s points 0 0
none_put b s points ok none = search (rules, clear_from_none, point_at, stones-marked)

module _ (first now : Grid) (s : Side) (points : List Point) (i least : ℕ) (p : Point) (h : ArePut first now s points i least)
    (empty : is_empty now p ≡ true) (later : least ≤ place_of now p) where
  on : is_on now p ≡ true
  on = is_empty-on now p empty

  fits : place_of now p < length now.cells
  fits = place_fits now p h.board on

  is_free_cell : cell_at now p ≡ Empty
  is_free_cell = is_empty-cell (cell_at now p) (and_parts (is_on now p) (is_empty_cell (cell_at now p)) empty).1

  clear_here : is_clear (point_at now.width) (is_stone_of s) (drop (place_of now p) now.cells) ≡ true
  clear_here =
      let split : least + (place_of now p - least) ≡ place_of now p = omega arith in
      let dropped : drop (place_of now p - least) (drop least now.cells) ≡ drop (place_of now p) now.cells =
      drop-drop (place_of now p - least) least now.cells ∙ ap (λ n. drop n now.cells) split in
      ap (is_clear (point_at now.width) (is_stone_of s)) (sym dropped)
      ∙ clear_drop (point_at now.width) (is_stone_of s) (place_of now p - least) (drop least now.cells) h.clear

  here : point_at now.width (0 + place_of now p) ≡ p
  here =
      let start : 0 + place_of now p ≡ place_of now p = omega arith in
      let column = mod-mul-add p.y now.width p.x (on_x now p on) in
      let row = div-mul-add p.y now.width p.x (on_x now p on) in
      ap (point_at now.width) start ∙ (λ i. record { x = column i; y = row i })

  put_own : stones (put now s p) s ≡ stones now s ++ p ∷ []
  put_own = stones-marked (put now s p) s (IsBoard-put now s p h.board) ∙ marked-set_last (point_at now.width) (is_stone_of s) 0
      (place_of now p) now.cells (stone_of s) (stone_of_side s) fits clear_here ∙ rw (here, stones-marked now s h.board) refl

  put_others : stones (put now s p) (other s) ≡ stones now (other s)
  put_others = stones-marked (put now s p) (other s) (IsBoard-put now s p h.board)
      ∙ marked-set_other (point_at now.width) (is_stone_of (other s)) 0 (place_of now p) now.cells (stone_of s)
      (stone_of-other s) fits (ap (is_stone_of (other s)) is_free_cell ∙ empty_stone (other s)) ∙ sym (stones-marked now (other s) h.board)

  clear_after : is_clear (point_at now.width) (is_stone_of s) (drop (place_of now p + 1) (set now.cells (place_of now p) (stone_of s)))
      ≡ true
  clear_after =
      let same = drop-set-lt (place_of now p + 1) now.cells (place_of now p) (stone_of s) (omega arith) in
      let after : drop 1 (drop (place_of now p) now.cells) ≡ drop (place_of now p + 1) now.cells = drop-drop 1 (place_of now p) now.cells in
      ap (is_clear (point_at now.width) (is_stone_of s)) (same ∙ sym after)
      ∙ clear_drop (point_at now.width) (is_stone_of s) 1 (drop (place_of now p) now.cells) clear_here

  put_only : drop i points ≡ p ∷ drop (i + 1) points → (b : Grid) → IsBoard b → b.width ≡ first.width → b.height ≡ first.height
      → stones b s ≡ points → marked (point_at b.width) (is_stone_of s) (place_of now p + 1) (drop (place_of now p + 1) b.cells) ≡ drop
      (i + 1) points
  put_only next b ok w h' e =
      let same_width : b.width ≡ now.width = w ∙ sym h.width in
      let place : place_of now p ≡ p.y * b.width + p.x = ap (λ n. p.y * n + p.x) (sym same_width) in
      let mark = next_mark b.width (is_stone_of s) least (drop least b.cells) p (drop (i + 1) points) (place_of now p) place
      (h.only b ok w h' e ∙ next) in
      let split : least + (place_of now p + 1 - least) ≡ place_of now p + 1 = omega arith in
      let dropped : drop (place_of now p + 1 - least) (drop least b.cells) ≡ drop (place_of now p + 1) b.cells =
      drop-drop (place_of now p + 1 - least) least b.cells ∙ ap (λ n. drop n b.cells) split in
      ap (marked (point_at b.width) (is_stone_of s) (place_of now p + 1)) (sym dropped) ∙ mark.rest

  -- one more stone is put
  pub one_put : take (i + 1) points ≡ take i points ++ p ∷ [] → drop i points ≡ p ∷ drop (i + 1) points
      → ArePut first (put now s p) s points (i + 1) (place_of now p + 1)
  one_put more next = search (rules, IsBoard-put, put_own, put_others, clear_after, put_only)

-- a point that comes before one of those put, or is taken, is not the next on any board
pub not_earlier : (first now : Grid) (s : Side) (points : List Point) (i least : ℕ) (p : Point) → ArePut first now s points i least
    → drop i points ≡ p ∷ drop (i + 1) points → place_of now p < least → (b : Grid) → IsBoard b → SameBut s first b → stones b s ≡ points
    → ⊥
not_earlier first now s points i least p h next early b ok same_rest own_points =
    let same_width : b.width ≡ now.width = same_rest.width ∙ sym h.width in
    let place : place_of now p ≡ p.y * b.width + p.x = ap (λ n. p.y * n + p.x) (sym same_width) in
    let mark = next_mark b.width (is_stone_of s) least (drop least b.cells) p (drop (i + 1) points) (place_of now p) place
    (h.only b ok same_rest.width same_rest.height own_points ∙ next) in
    omega (arith, early, mark.later)

pub not_taken : (first now : Grid) (s : Side) (points : List Point) (i least : ℕ) (p : Point) → ArePut first now s points i least
    → drop i points ≡ p ∷ drop (i + 1) points → least ≤ place_of now p → is_on now p ≡ true → is_empty now p ≡ false → (b : Grid)
    → IsBoard b → SameBut s first b → stones b s ≡ points → ⊥
not_taken first now s points i least p h next later on taken b ok same_rest own_points =
    let same_width : b.width ≡ now.width = same_rest.width ∙ sym h.width in
    let same_height : b.height ≡ now.height = same_rest.height ∙ sym h.height in
    let place : place_of now p ≡ p.y * b.width + p.x = ap (λ n. p.y * n + p.x) (sym same_width) in
    let mark = next_mark b.width (is_stone_of s) least
    (drop least b.cells) p (drop (i + 1) points) (place_of now p) place (h.only b ok same_rest.width same_rest.height own_points ∙ next) in
    let fits = place_fits now p h.board on in
    let split : least + (place_of now p - least) ≡ place_of now p = omega arith in
    let there : get_or (drop least b.cells) (place_of now p - least) Empty ≡ get_or b.cells (place_of now p) Empty =
    get_or-drop least b.cells (place_of now p - least) Empty ∙ ap (λ n. get_or b.cells n Empty) split in
    let here : get_or (drop least now.cells) (place_of now p - least) Empty ≡ get_or now.cells (place_of now p) Empty =
    get_or-drop least now.cells (place_of now p - least) Empty ∙ ap (λ n. get_or now.cells n Empty) split in
    let own : is_stone_of s (get_or b.cells (place_of now p) Empty) ≡ true = ap (is_stone_of s) (sym there) ∙ mark.passes in
    let full : is_empty_cell (cell_at now p) ≡ false = ap (λ r. r && is_empty_cell (cell_at now p)) (sym on) ∙ taken in
    let count : length b.cells ≡ length now.cells =
    let f = ok.filled in let g = h.board.filled in f ∙ rw (same_width, same_height) (sym g) in
    elim (taken_by s (cell_at now p) full) [
      | inl mine ↦ clear_at (point_at now.width) (is_stone_of s) (drop least now.cells)
          (place_of now p - least) h.clear (let d = length-drop least now.cells in omega (arith, d, fits)) (ap (is_stone_of s) here ∙ mine)
      | inr theirs ↦
          let marks : marked (point_at b.width) (is_stone_of (other s)) 0 b.cells ≡ marked
          (point_at b.width) (is_stone_of (other s)) 0 now.cells = sym (stones-marked b (other s) ok) ∙ same_rest.others ∙ sym h.others
          ∙ stones-marked now (other s) h.board ∙ ap (λ n. marked (point_at n) (is_stone_of (other s)) 0 now.cells) (sym same_width) in
          let same = same_tests b.width (is_stone_of (other s)) 0 b.cells now.cells count marks (place_of now p) in
          not_both_stones s (get_or b.cells (place_of now p) Empty) own (same ∙ theirs)
    ]

pub all_put : (first now : Grid) (s : Side) (points : List Point) (i least : ℕ) → ArePut first now s points i least → i ≡ length points
    → SameBut s first now × (stones now s ≡ points)
all_put first now s points i least h end = search (rules, take-length)

pub is_within_at : (width height : ℕ) (points : List Point) (i : ℕ) → AllByRecursion (IsWithin width height) points → i < length points
    → IsWithin width height (get_or points i (record { x = 0; y = 0 }))
is_within_at width height [] i all within = absurd (omega arith)
is_within_at width height (p ∷ ps) zero all within = all.0
is_within_at width height (p ∷ ps) (suc i) all within = is_within_at width height ps i all.1 (omega arith)

pub is_on_within : (b : Grid) (p : Point) → IsWithin b.width b.height p → is_on b p ≡ true
is_on_within b p within = search (rules, lt-ltb)

pub on_board : (first now : Grid) (s : Side) (points : List Point) (i least : ℕ) → ArePut first now s points i least
    → AllByRecursion (IsWithin first.width first.height) points → i < length points
    → is_on now (get_or points i (record { x = 0; y = 0 })) ≡ true
on_board first now s points i least h all within = search (rules, is_within_at, is_on_within)

-- ---- stones are on the board

all_on_by : (b : Grid) (s : Side) (x : Point) (rest : List Point) → AllByRecursion (IsWithin b.width b.height) rest → (r : Bool)
    → is_on b x ≡ r → (h : Bool) → holds b s x ≡ h → AllByRecursion (IsWithin b.width b.height) (cond h (x ∷ rest) rest)
all_on_by b s x rest all r on there h = search (rules, on_x, on_y, both_ways)

all_on : (b : Grid) (s : Side) (xs : List Point) → AllByRecursion (IsWithin b.width b.height) (filter (holds b s) xs)
all_on b s [] = tt
all_on b s (x ∷ xs) = all_on_by b s x (filter (holds b s) xs) (all_on b s xs) (is_on b x) refl (holds b s x) refl

pub stones-within : (b : Grid) (s : Side) → AllByRecursion (IsWithin b.width b.height) (stones b s)
unfolding stones
stones-within b s = all_on b s (points_of b)

-- ---- an empty board

pub IsBoard-empty : (width height : ℕ) → IsSide width → IsSide height → IsBoard (empty_board width height)
IsBoard-empty width height wide high = search (rules, length-replicate)

-- no stones stand on an empty board
pub stones-empty : (width height : ℕ) (s : Side) → IsSide width → IsSide height → stones (empty_board width height) s ≡ []
stones-empty width height s wide high =
    stones-marked (empty_board width height) s (IsBoard-empty width height wide high) ∙ clear_none (point_at width)
    (is_stone_of s) 0 (replicate (width * height) Empty) (clear_replicate (point_at width) (is_stone_of s) (width * height) (empty_stone s))
