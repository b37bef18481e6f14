-- An image that is filled point by point: what stands where while some points are left.
use Rattle.std.proofs.Common.{◌≡◌, ℕ, ◌+◌, ◌*◌, ◌<◌, Bool, true, false, ◌&&◌, ◌||◌, refl, sym, ap, subst, rules, ◌∙◌, arith, List, [], ◌∷◌}
use Rattle.std.proofs.Common.{replicate}
use Rattle.std.specs.List.{list_any, list_all}
use Rattle.std.proofs.lemmas.Bool.{both_ways}
use Rattle.std.proofs.lemmas.List.{length-replicate, get_or-replicate}
use Rattle.std.proofs.lemmas.Nat.{mul-add-lt}
use Rattle.board_symmetry.proofs.Common.{Grid, IsBoard, is_on, is_empty, cell_at, put, is_same_point, Cell, Empty, Black, White, Point}
use Rattle.board_symmetry.proofs.Common.{fits, inverse, point_image, empty_board, board_image, with_cell, Symmetry}
use Rattle.game_rules.proofs.Common.{is_empty_cell, points_of}
use Rattle.game_rules.specs.declared.Cell.TheVariants.{Black as BlackStone, White as WhiteStone}
use Rattle.game_rules.proofs.Boards.{Apart, and_left, and_right, on_x, on_y, cell_at-put_same, cell_at-put_other}
use Rattle.game_rules.proofs.Places.{points_on, Rising, rising-first, rows-rising, place, earlier-differs}
use Rattle.game_rules.proofs.Points.{points-found, is_same_point-itself, is_same_point-same, is_same_point-apart}
use Rattle.game_rules.proofs.Positions.{IsBoard-put}
use Rattle.game_rules.proofs.PointLists.{other_first}
use Rattle.board_symmetry.proofs.Alike.{grid}
use Rattle.board_symmetry.proofs.Eight.{turn_of}
use Rattle.board_symmetry.proofs.BoardImages.{same_cells, image_ok, image_cell}

-- whether the point is one of the list
abbrev is_listed : Point → List Point → Bool
is_listed q ps = list_any (λ p. is_same_point p q) ps

-- no point stands twice
pub Distinct : List Point → Type 0
Distinct [] = Unit {0}
Distinct (p ∷ ps) = (is_listed p ps ≡ false) × Distinct ps

not_later : (w k : ℕ) (p : Point) (ps : List Point) → place w p < k → Rising w k ps → is_listed p ps ≡ false
not_later w k p [] low rising = refl
not_later w k p (q ∷ ps) low rising =
    let first = rising-first w k q ps rising in
    let far = first.0 in
    let differ : is_same_point q p ≡ false = other_first p q (earlier-differs w p q (omega (arith, low, far))) in
    rw differ (not_later w (place w q + 1) p ps (omega (arith, low, far)) first.1)

rising-distinct : (w k : ℕ) (ps : List Point) → Rising w k ps → Distinct ps
unfolding Distinct
rising-distinct w k [] rising = tt
rising-distinct w k (p ∷ ps) rising =
    let first = rising-first w k p ps rising in
    (not_later w (place w p + 1) p ps (omega arith) first.1, rising-distinct w (place w p + 1) ps first.1)

-- ---- one point more

with_cell-sizes : (b : Grid) (p : Point) (c : Cell) → ((with_cell b p c).width ≡ b.width) × ((with_cell b p c).height ≡ b.height)
with_cell-sizes b p c = search rules

module _ (b : Grid) (ok : IsBoard b) (p : Point) (on : is_on b p ≡ true) where
  with_cell-ok : (c : Cell) → IsBoard (with_cell b p c)
  with_cell-ok c = search (rules, IsBoard-put)

  with_cell-same : (c : Cell) → cell_at b p ≡ Empty → cell_at (with_cell b p c) p ≡ c
  with_cell-same Empty free = free
  with_cell-same BlackStone free = cell_at-put_same b Black p ok on
  with_cell-same WhiteStone free = cell_at-put_same b White p ok on

  with_cell-other : (c : Cell) (q : Point) → is_on b q ≡ true → Apart p q → cell_at (with_cell b p c) q ≡ cell_at b q
  with_cell-other Empty q on_q apart = refl
  with_cell-other BlackStone q on_q apart = cell_at-put_other b Black p q on on_q apart
  with_cell-other WhiteStone q on_q apart = cell_at-put_other b White p q on on_q apart

-- the image has its cells but at the points that are left, which are empty
pub record Filled (s : Symmetry) (b image : Grid) (left : List Point) : Type 0 where
  pub board : IsBoard image
  pub wide : image.width ≡ b.width
  pub high : image.height ≡ b.height
  pub on : list_all (is_on b) left ≡ true
  pub distinct : Distinct left
  pub filled : (q : Point) → is_on b q ≡ true → is_listed q left ≡ false → cell_at image q
      ≡ cell_at b (point_image (inverse s) b.width b.height q)
  pub free : (q : Point) → is_on b q ≡ true → is_listed q left ≡ true → cell_at image q ≡ Empty

sized_on : (b image : Grid) (q : Point) → image.width ≡ b.width → image.height ≡ b.height → is_on b q ≡ true → is_on image q ≡ true
sized_on b image q wide high on = search rules

module _ (s : Symmetry) (b image : Grid) (p : Point) (ps : List Point) (so_far : Filled s b image (p ∷ ps)) where
  next_on : is_on b p ≡ true
  next_on = and_left (is_on b p) _ so_far.on

  here : is_on image p ≡ true
  here = sized_on b image p so_far.wide so_far.high next_on

  next_free : cell_at image p ≡ Empty
  next_free = so_far.free p next_on (ap (λ r. r || is_listed p ps) (is_same_point-itself p))

  -- the next point is on the board, and empty
  pub filled-on : is_on b p ≡ true
  filled-on = next_on

  pub filled-empty : is_empty image p ≡ true
  filled-empty = ap (λ r. r && is_empty_cell (cell_at image p)) here ∙ ap is_empty_cell next_free

  not_again : is_listed p ps ≡ false
  unfolding Distinct
  not_again = so_far.distinct.0

  pub filled-more : Filled s b (with_cell image p (cell_at b (point_image (inverse s) b.width b.height p))) ps
  unfolding Distinct
  filled-more = record {
    board = with_cell-ok image so_far.board p here _;
    wide = (with_cell-sizes image p _).0 ∙ so_far.wide;
    high = (with_cell-sizes image p _).1 ∙ so_far.high;
    on = and_right (is_on b p) _ so_far.on;
    distinct = so_far.distinct.1;
    filled = λ q on_q none. at_point q on_q (is_same_point p q) refl none;
    free = λ q on_q some. still_free q on_q (is_same_point p q) refl some;
  } where
    at_point : (q : Point) → is_on b q ≡ true → (r : Bool) → is_same_point p q ≡ r → is_listed q ps ≡ false
        → cell_at (with_cell image p (cell_at b (point_image (inverse s) b.width b.height p))) q
        ≡ cell_at b (point_image (inverse s) b.width b.height q)
    at_point q on_q true same none =
        subst (λ (z : Point). cell_at (with_cell image p (cell_at b (point_image (inverse s) b.width b.height p))) z
        ≡ cell_at b (point_image (inverse s) b.width b.height z))
        (is_same_point-same p q same) (with_cell-same image so_far.board p here _ next_free)
    at_point q on_q false differ none = with_cell-other image so_far.board p here _ q (sized_on b image q so_far.wide so_far.high on_q)
        (is_same_point-apart p q differ) ∙ so_far.filled q on_q (ap (λ r. r || is_listed q ps) differ ∙ none)

    still_free : (q : Point) → is_on b q ≡ true → (r : Bool) → is_same_point p q ≡ r → is_listed q ps ≡ true
        → cell_at (with_cell image p (cell_at b (point_image (inverse s) b.width b.height p))) q ≡ Empty
    still_free q on_q true same some = absurd (both_ways _ not_again
        (ap (λ (z : Point). is_listed z ps) (is_same_point-same p q same) ∙ some))
    still_free q on_q false differ some = with_cell-other image so_far.board p here _ q (sized_on b image q so_far.wide so_far.high on_q)
        (is_same_point-apart p q differ) ∙ so_far.free q on_q (ap (λ r. r || is_listed q ps) differ ∙ some)

-- at first all points are left
pub filled-none : (s : Symmetry) (b image : Grid) → IsBoard b
    → image ≡ record { width = b.width; height = b.height; cells = replicate (b.width * b.height) Empty } → Filled s b image (points_of b)
filled-none s b image ok e = subst (λ (z : Grid). Filled s b z (points_of b)) (sym e) (record {
  board = record {
    wide = ok.wide;
    width_fits = ok.width_fits;
    high = ok.high;
    height_fits = ok.height_fits;
    filled = length-replicate _ Empty;
  };
  wide = refl;
  high = refl;
  on = points_on b;
  distinct = rising-distinct b.width (0 * b.width) (points_of b) (rows-rising b.width 0 b.height);
  filled = λ q on none. absurd (both_ways _ none (points-found b (λ p. is_same_point p q) q on (is_same_point-itself q)));
  free = λ q on some. get_or-replicate _ _ Empty Empty (place_low q on);
}) where
  place_low : (q : Point) → is_on b q ≡ true → q.y * b.width + q.x < b.width * b.height
  place_low q on = let x = on_x b q on in let y = on_y b q on in let low = mul-add-lt q.y b.width q.x b.height y x in omega (arith, low)

-- and when none is left it is the image
pub filled-all : (s : Symmetry) (b image : Grid) → IsBoard b → Filled s b image [] → image ≡ board_image s b
filled-all s b image ok so_far =
    let sized : image ≡ grid b.width b.height image.cells =
    λ i. record { width = so_far.wide i; height = so_far.high i; cells = image.cells } in
    let now : Filled s b (grid b.width b.height image.cells) [] = subst (λ (z : Grid). Filled s b z []) sized so_far in
    sized ∙ ap (grid b.width b.height) (same_cells b.width b.height image.cells (board_image s b).cells now.board (image_ok s b ok)
    (λ p on. now.filled p on refl ∙ sym (image_cell s b ok p on)))

-- ---- the same, with the numbers that the code has

pub fits-inverse : (s : Symmetry) (w h : ℕ) → fits (inverse s) w h ≡ fits s w h
fits-inverse s w h = search rules

module _ (s back : Symmetry) (b image : Grid) (w h : ℕ) (wide : w ≡ b.width) (high : h ≡ b.height) (undoes : back ≡ inverse s)
    (fit : fits s b.width b.height ≡ true) where
  pub filled-start : (left : List Point)
      → IsBoard b → image ≡ record { width = w; height = h; cells = replicate (w * h) Empty } → left ≡ points_of b → Filled s b image left
  filled-start left ok e all = subst (λ (ps : List Point). Filled s b image ps) (sym all)
      (filled-none s b image ok (e ∙ (λ i. record { width = wide i; height = high i; cells = replicate (wide i * high i) Empty })))

  pub source-fits : fits back w h ≡ true
  source-fits = (λ i. fits (undoes i) (wide i) (high i)) ∙ fits-inverse s b.width b.height ∙ fit

  module _ (left ps : List Point) (at : Point) (so_far : Filled s b image left) (next : left ≡ at ∷ ps) where
    now : Filled s b image (at ∷ ps)
    now = subst (λ (xs : List Point). Filled s b image xs) next so_far

    pub at-on : is_on (empty_board w h) at ≡ true
    at-on = sized_on b (empty_board w h) at wide high (filled-on s b image at ps now)

    pub at-empty : is_empty image at ≡ true
    at-empty = filled-empty s b image at ps now

    module _ (source : Point) (taken : source ≡ point_image back w h at) where
      source_is : source ≡ point_image (inverse s) b.width b.height at
      source_is = taken ∙ (λ i. point_image (undoes i) (wide i) (high i) at)

      pub source-on : is_on b source ≡ true
      source-on = ap (is_on b) source_is ∙ (turn_of s b.width b.height fit).come at (filled-on s b image at ps now)

      pub filled-next : (new : Grid) (cell : Cell) → cell ≡ cell_at b source → new ≡ with_cell image at cell → Filled s b new ps
      filled-next new cell holds put = subst (λ (z : Grid). Filled s b z ps)
          (sym (put ∙ ap (with_cell image at) (holds ∙ ap (cell_at b) source_is))) (filled-more s b image at ps now)
