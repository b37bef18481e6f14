-- Stones that are put and lifted.
use Rattle.std.proofs.Common.{rules, ◌≡◌, ◌≢◌, ◌⊎◌, ℕ, zero, suc, ◌+◌, ◌-◌, ◌*◌, ◌≤◌, ◌<◌, Bool, true, false, cond, ◌&&◌, refl, sym, ap}
use Rattle.std.proofs.Common.{arith, List, [], ◌∷◌, set, get_or, length, nat_lt, nat_le, nat_eq, get_or-set_other, get_or-set_same, ◌∙◌}
use Rattle.std.proofs.Common.{Option, Some, None, ltb-true, leb-true}
use Rattle.std.specs.List.{prefix_len, range_with_len}
use Rattle.std.proofs.lemmas.Nat.{same_from_place, mul-le}
use Rattle.std.proofs.lemmas.List.Sums.{sum_by-set}
use Rattle.std.proofs.lemmas.Grind.{rows}
use Rattle.game_rules.proofs.Common.{Grid, IsBoard, is_on, is_empty, is_empty_cell, is_stone_of, stone_of, holds, cell_at, place_of, put}
use Rattle.game_rules.proofs.Common.{lift, empties_of, along, shift, point_of, stone_at, stones_ahead, stones_behind, run_of, other, Side}
use Rattle.game_rules.proofs.Common.{Cell, Axis, Point, Empty, Row, Column, Down, Up}
use Rattle.std.proofs.lemmas.List.{set_comm}

set_back : (l : List Cell) (i : ℕ) (y : Cell) → get_or l i Empty ≡ Empty → set (set l i y) i Empty ≡ l
set_back [] i y h = refl
set_back (x ∷ l) zero y h = ap (λ z. z ∷ l) (sym h)
set_back (x ∷ l) (suc i) y h = ap (λ z. x ∷ z) (set_back l i y h)

pub is_empty-cell : (c : Cell) → is_empty_cell c ≡ true → c ≡ Empty
is_empty-cell c h = search rules

pub and_left : (a b : Bool) → (a && b) ≡ true → a ≡ true
and_left a b h = search rules

pub and_right : (a b : Bool) → (a && b) ≡ true → b ≡ true
and_right a b h = search rules

pub lift-put : (b : Grid) (s : Side) (p : Point) → is_empty b p ≡ true → lift (put b s p) p ≡ b
lift-put b s p h = search (rules, is_empty-cell, and_right, set_back)

pub is_empty-on : (b : Grid) (p : Point) → is_empty b p ≡ true → is_on b p ≡ true
is_empty-on b p h = and_left (is_on b p) _ h

-- two points that are not one
pub record Apart (p q : Point) : Type 0 where
  pub apart : p.x ≡ q.x → p.y ≡ q.y → ⊥

same_by : (p q : Point) (a c : Bool) → nat_eq p.x q.x ≡ a → nat_eq p.y q.y ≡ c → (p ≡ q) ⊎ Apart p q
same_by p q a c e f = search rules

-- two points are one, or they are not
pub same_or_apart : (p q : Point) → (p ≡ q) ⊎ Apart p q
same_or_apart p q = same_by p q (nat_eq p.x q.x) (nat_eq p.y q.y) refl refl

pub not-apart : (w : Point) → Apart w w → ⊥
not-apart w h = h.apart refl refl

pub on_x : (b : Grid) (p : Point) → is_on b p ≡ true → p.x < b.width
on_x b p h = ltb-true _ _ (and_left (nat_lt p.x b.width) _ h)

pub on_y : (b : Grid) (p : Point) → is_on b p ≡ true → p.y < b.height
on_y b p h = ltb-true _ _ (and_right (nat_lt p.x b.width) _ h)

-- points of the board that are not one have different places
pub places_differ : (b : Grid) (p q : Point) → is_on b p ≡ true → is_on b q ≡ true → Apart p q → place_of b q ≢ place_of b p
places_differ b p q onp onq d e =
    let same = same_from_place q.y q.x p.y p.x b.width (on_x b q onq) (on_x b p onp) e in
    d.apart (sym same.1) (sym same.0)

-- the place of a point of the board is one of its cells
pub place_fits : (b : Grid) (p : Point) → IsBoard b → is_on b p ≡ true → place_of b p < length b.cells
place_fits b p ok h =
    let x : p.x < b.width = on_x b p h in
    let y : p.y < b.height = on_y b p h in
    let n : length b.cells ≡ b.width * b.height = ok.filled in
    grind (arith, rows)

-- a stone changes no other point
pub cell_at-put_other : (b : Grid) (s : Side) (p q : Point) → is_on b p ≡ true → is_on b q ≡ true → Apart p q
    → cell_at (put b s p) q ≡ cell_at b q
cell_at-put_other b s p q onp onq d = search (rules, get_or-set_other, places_differ)

pub cell_at-put_same : (b : Grid) (s : Side) (p : Point) → IsBoard b → is_on b p ≡ true → cell_at (put b s p) p ≡ stone_of s
cell_at-put_same b s p ok h = get_or-set_same b.cells (place_of b p) (stone_of s) Empty (place_fits b p ok h)

holds_by : (b c : Grid) (t : Side) (q : Point) (r : Bool) → is_on b q ≡ r → is_on c q ≡ r → (r ≡ true → cell_at b q ≡ cell_at c q)
    → holds b t q ≡ holds c t q
holds_by b c t q r x y h = search rules

pub holds-put_other : (b : Grid) (s t : Side) (p q : Point) → is_on b p ≡ true → Apart p q → holds (put b s p) t q ≡ holds b t q
holds-put_other b s t p q onp d = holds_by (put b s p) b t q (is_on b q) refl refl (λ onq. cell_at-put_other b s p q onp onq d)

pub stone_of_side : (s : Side) → is_stone_of s (stone_of s) ≡ true
stone_of_side s = search rules

pub holds-put_same : (b : Grid) (s : Side) (p : Point) → IsBoard b → is_on b p ≡ true → holds (put b s p) s p ≡ true
holds-put_same b s p ok h = rw (h, cell_at-put_same b s p ok h) (stone_of_side s)

pub other-other : (s : Side) → other (other s) ≡ s
other-other s = search rules

-- a stone is no empty cell
pub stone_of-taken : (s : Side) → is_empty_cell (stone_of s) ≡ false
stone_of-taken s = search rules

pub stone_of-other : (s : Side) → is_stone_of (other s) (stone_of s) ≡ false
stone_of-other s = search rules

-- an empty point holds no stone
pub empty_holds : (b : Grid) (t : Side) (p : Point) → is_empty b p ≡ true → holds b t p ≡ false
empty_holds b t p empty = search (rules, is_empty-cell, and_right, is_empty-on)

-- tests of one point agree where what follows the first of them does
pub and-same : (a b c : Bool) → (a ≡ true → b ≡ c) → (a && b) ≡ (a && c)
and-same a b c h = search rules

-- a stone leaves another point empty, or not
pub is_empty-put : (b : Grid) (s : Side) (p q : Point) → is_on b p ≡ true → Apart p q → is_empty (put b s p) q ≡ is_empty b q
is_empty-put b s p q on apart = and-same (is_on b q) _ _ (λ onq. ap is_empty_cell (cell_at-put_other b s p q on onq apart))

-- ---- a stone and the rows beside it

-- whether it is some point, and not p
IsElse : Point → Option Point → Type 0
IsElse p None = Unit {0}
IsElse p (Some q) = Apart p q

stone_at-put : (b : Grid) (s t : Side) (p : Point) (o : Option Point) → is_on b p ≡ true → IsElse p o
    → stone_at (put b s p) t o ≡ stone_at b t o
unfolding IsElse
stone_at-put b s t p o h d = search (rules, holds-put_other)

moves_by : (n a c : ℕ) → a ≢ c → (r : Bool) → nat_le c (n + a) ≡ r → cond r (Some (n + a - c)) None ≢ Some n
moves_by n a c d r h e = search (rules, leb-true)

-- a number is not itself a step or more on
shift-moves : (n a c : ℕ) → a ≢ c → shift n a c ≢ Some n
shift-moves n a c d e = moves_by n a c d (nat_le c (n + a)) refl e

else_by_x : (p : Point) (o q : Option ℕ) → o ≢ Some p.x → IsElse p (point_of o q)
unfolding IsElse
else_by_x p o q h = search rules

else_by_y : (p : Point) (q o : Option ℕ) → o ≢ Some p.y → IsElse p (point_of q o)
unfolding IsElse
else_by_y p q o h = search rules

-- a point a step or more from p is not p
along-moves : (d : Axis) (p : Point) (a c : ℕ) → a ≢ c → IsElse p (along d p a c)
along-moves Row p a c h = else_by_x p _ _ (shift-moves p.x a c h)
along-moves Column p a c h = else_by_y p (Some p.x) (shift p.y a c) (shift-moves p.y a c h)
along-moves Down p a c h = else_by_x p _ _ (shift-moves p.x a c h)
along-moves Up p a c h = else_by_x p _ _ (shift-moves p.x a c h)

-- tests that agree from a on hold as far
pub prefix_len-same : (f g : ℕ → Bool) (n a : ℕ) → ((k : ℕ) → a ≤ k → f k ≡ g k)
    → prefix_len f (range_with_len a n) ≡ prefix_len g (range_with_len a n)
prefix_len-same f g zero a h = refl
prefix_len-same f g (suc n) a h =
    let e : f a ≡ g a = h a (omega arith) in
    let rest : prefix_len f (range_with_len (a + 1) n) ≡ prefix_len g (range_with_len (a + 1) n) =
    prefix_len-same f g n (a + 1) (λ k l. h k (omega arith)) in
    rw (e, rest) refl

module _ (b : Grid) (s : Side) (p : Point) (on : is_on b p ≡ true) where
  -- a stone on p leaves the rows beside p as they are
  pub stones_ahead-put : (t : Side) (d : Axis) → stones_ahead (put b s p) t d p ≡ stones_ahead b t d p
  stones_ahead-put t d = search (rules, prefix_len-same, stone_at-put, along-moves)

  pub stones_behind-put : (t : Side) (d : Axis) → stones_behind (put b s p) t d p ≡ stones_behind b t d p
  stones_behind-put t d = search (rules, prefix_len-same, stone_at-put, along-moves)

  -- the run through the new stone
  pub run_of-put : IsBoard b → (d : Axis) → run_of (put b s p) s d p ≡ 1 + stones_ahead b s d p + stones_behind b s d p
  run_of-put ok d = search (rules, holds-put_same, stones_ahead-put, stones_behind-put)

-- one point fewer is empty
pub empties_of-put : (b : Grid) (s : Side) (p : Point) → IsBoard b → is_empty b p ≡ true → empties_of (put b s p) + 1 ≡ empties_of b
empties_of-put b s p ok h = search (rules, is_empty-cell, and_right, sum_by-set, place_fits, is_empty-on, stone_of-taken)

-- a point that is kept is the point, and on the board
pub kept_by : (b : Grid) (p q : Point) (r : Bool) → is_on b p ≡ r → cond r (Some p) None ≡ Some q → (p ≡ q) × (is_on b p ≡ true)
kept_by b p q r e h = search rules

-- what was answered of a board is so of another that is the same
pub answer_at : (f : Grid → Bool) (b c : Grid) (r v : Bool) → r ≡ f b → b ≡ c → r ≡ v → f c ≡ v
answer_at f b c r v e same h = sym (ap f same) ∙ sym e ∙ h

-- the cells of a board are at most 1,024
pub cells_fit : (b : Grid) → IsBoard b → length b.cells ≤ 1024
cells_fit b ok = search (rules, mul-le)

pub grid_eq : (a b : Grid) → a.width ≡ b.width → a.height ≡ b.height → a.cells ≡ b.cells → a ≡ b
grid_eq a b w h c = λ i. record { width = w i; height = h i; cells = c i }

-- a stone of either side on an empty point takes no stone away
pub stone_kept : (b : Grid) (s t : Side) (g q : Point) → holds b s g ≡ true → is_empty b q ≡ true → holds (put b t q) s g ≡ true
stone_kept b s t g q mine empty = search (rules, same_or_apart, empty_holds, holds-put_other, is_empty-on)

places_apart : (b : Grid) (p q : Point) → is_on b p ≡ true → is_on b q ≡ true → Apart p q → place_of b p ≢ place_of b q
places_apart b p q onp onq d e =
    let same = same_from_place p.y p.x q.y q.x b.width (on_x b p onp) (on_x b q onq) e in
    d.apart same.1 same.0

-- two stones on different points may be put in either order
pub put_comm : (b : Grid) (s t : Side) (p q : Point) → is_on b p ≡ true → is_on b q ≡ true → Apart p q
    → put (put b s p) t q ≡ put (put b t q) s p
put_comm b s t p q onp onq d = ap (λ (l : List Cell). let r : Grid = record b { cells = l } in r)
    (set_comm b.cells (place_of b p) (place_of b q) (stone_of s) (stone_of t) (places_apart b p q onp onq d))
