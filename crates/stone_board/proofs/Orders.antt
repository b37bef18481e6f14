-- What is left of the points in reading order.
use Rattle.std.proofs.Common.{◌≡◌, ℕ, ◌+◌, ◌-◌, ◌<◌, Bool, true, false, cond, refl, sym, ap, ◌∙◌, arith, List, [], ◌∷◌, ◌++◌, nat_lt}
use Rattle.std.proofs.lemmas.Bool.Decides.{nat_tests}
use Rattle.game_rules.proofs.Common.{row_from, points_within}
use Rattle.stone_board.proofs.Common.{Point, points_left, following}
use Rattle.game_rules.proofs.ReadingOrder.{row_from-first, rows_from, rows_from-first}
use borrow.Author.Tests.{ltb-true}

left_from_row-rows : (width height y : ℕ) (r : Bool) → nat_lt y height ≡ r
    → rows_from width y (height - y) ≡ cond r (row_from y 0 (width - 0) ++ rows_from width (y + 1) (height - (y + 1))) []
left_from_row-rows width height y true h =
    let below : y < height = ltb-true _ _ h in
    let whole : width - 0 ≡ width = omega arith in
    rw whole (rows_from-first width y (height - y) (height - (y + 1)) (omega arith))
left_from_row-rows width height y false h =
    let none : height - y ≡ 0 = grind (arith, nat_tests) in
    rw none refl

pub points_left-all : (width height : ℕ) → points_left width height (record { x = 0; y = 0 }) ≡ points_within width height
points_left-all width height =
    let whole : height - 0 ≡ height = omega arith in
    sym (left_from_row-rows width height 0 (nat_lt 0 height) refl) ∙ ap (rows_from width 0) whole

step_by : (width height : ℕ) (p : Point) (r : Bool) → nat_lt (p.x + 1) width ≡ r → p.x < width → nat_lt p.y height ≡ true
    → points_left width height p ≡ p ∷ points_left width height (cond r (record { x = p.x + 1; y = p.y }) (record { x = 0; y = p.y + 1 }))
step_by width height p true h column row =
    let more : row_from p.y p.x (width - p.x) ≡ p ∷ row_from p.y (p.x + 1) (width - (p.x + 1)) =
    row_from-first p.y p.x (width - p.x) (width - (p.x + 1)) (omega arith) in
    rw (row, more) refl
step_by width height p false h column row =
    let one : row_from p.y p.x (width - p.x) ≡ p ∷ [] = row_from-first p.y p.x (width - p.x) 0 (grind (arith, nat_tests)) in
    let rest = left_from_row-rows width height (p.y + 1) (nat_lt (p.y + 1) height) refl in
    rw (row, one) (ap (λ (l : List Point). p ∷ l) rest)

-- where a point is left, it is the first of those left, and the others are left from the next on
pub points_left-next : (width height : ℕ) (p : Point) → p.x < width → nat_lt p.y height ≡ true
    → points_left width height p ≡ p ∷ points_left width height (following width p)
points_left-next width height p column row = step_by width height p (nat_lt (p.x + 1) width) refl column row
