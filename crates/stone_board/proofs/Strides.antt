-- How far a walk along an axis stays on the board.
use Rattle.std.proofs.Common.{◌≡◌, ℕ, ◌+◌, ◌-◌, ◌≤◌, ◌<◌, Bool, true, false, refl, ap, ◌∙◌, arith, nat_lt, Option, Some, None}
use Rattle.std.proofs.lemmas.Bool.Decides.{nat_tests}
use Rattle.stone_board.proofs.Common.{Grid, is_on, holds, stone_at, towards, Side, Axis, Point, Way, Row, Column, Down, Up, Ahead, Behind}
use Rattle.stone_board.proofs.Common.{steps_left}
use Rattle.game_rules.proofs.Boards.{on_x, on_y}
use Rattle.game_rules.proofs.Lines.{OnLine, along-OnLine, OnLine-along}

-- ---- how far the board goes

on_by : (b : Grid) (q : Point) → q.x < b.width → q.y < b.height → is_on b q ≡ true
on_by b q x y =
    let e : nat_lt q.x b.width ≡ true = grind (arith, nat_tests) in
    let f : nat_lt q.y b.height ≡ true = grind (arith, nat_tests) in
    rw (e, f) refl

-- a point of the board so many steps away
abbrev pub StepOn : Grid → Way → Axis → Point → ℕ → Type 0
StepOn b w d p k = (q : Point) × (towards w d p k ≡ Some q) × (is_on b q ≡ true)

module _ (b : Grid) (p : Point) (on : is_on b p ≡ true) where
  x_low : p.x < b.width
  x_low = on_x b p on

  y_low : p.y < b.height
  y_low = on_y b p on

  abbrev left : Way → Axis → ℕ
  left w d = steps_left w d b.width b.height p

  ahead_to : (d : Axis) (k : ℕ) (q : Point) → OnLine d p k 0 q → q.x < b.width → q.y < b.height → StepOn b Ahead d p k
  ahead_to d k q h x y = (q, OnLine-along d p k 0 q h, on_by b q x y)

  behind_to : (d : Axis) (k : ℕ) (q : Point) → OnLine d p 0 k q → q.x < b.width → q.y < b.height → StepOn b Behind d p k
  behind_to d k q h x y = (q, OnLine-along d p 0 k q h, on_by b q x y)

  -- each of the steps left stays on the board
  pub step_on : (w : Way) (d : Axis) (k : ℕ) → k ≤ left w d → StepOn b w d p k
  step_on Ahead Row k h = let x = x_low in let y = y_low in
      ahead_to Row k (record { x = p.x + k; y = p.y }) (omega arith, refl) (omega arith) (omega arith)
  step_on Ahead Column k h = let x = x_low in let y =
      y_low in ahead_to Column k (record { x = p.x; y = p.y + k }) (refl, omega arith) (omega arith) (omega arith)
  step_on Ahead Down k h = let x = x_low in let y = y_low in
      ahead_to Down k (record { x = p.x + k; y = p.y + k }) (omega arith, omega arith) (omega arith) (omega arith)
  step_on Ahead Up k h = let x = x_low in let y = y_low in
      ahead_to Up k (record { x = p.x + k; y = p.y - k }) (omega arith, omega arith) (omega arith) (omega arith)
  step_on Behind Row k h = let x = x_low in let y = y_low in
      behind_to Row k (record { x = p.x - k; y = p.y }) (omega arith, refl) (omega arith) (omega arith)
  step_on Behind Column k h = let x = x_low in let y =
      y_low in behind_to Column k (record { x = p.x; y = p.y - k }) (refl, omega arith) (omega arith) (omega arith)
  step_on Behind Down k h = let x = x_low in let y =
      y_low in behind_to Down k (record { x = p.x - k; y = p.y - k }) (omega arith, omega arith) (omega arith) (omega arith)
  step_on Behind Up k h = let x = x_low in let y = y_low in
      behind_to Up k (record { x = p.x - k; y = p.y + k }) (omega arith, omega arith) (omega arith) (omega arith)

  -- and the next does not
  ahead_past : (d : Axis) (q : Point) → OnLine d p (1 + left Ahead d) 0 q → q.x < b.width → q.y < b.height → ⊥
  ahead_past Row q h x y = let v = x_low in let u = y_low in absurd (omega arith)
  ahead_past Column q h x y = let v = x_low in let u = y_low in absurd (omega arith)
  ahead_past Down q h x y = let v = x_low in let u = y_low in absurd (omega arith)
  ahead_past Up q h x y = let v = x_low in let u = y_low in absurd (omega arith)

  behind_past : (d : Axis) (q : Point) → OnLine d p 0 (1 + left Behind d) q → q.x < b.width → q.y < b.height → ⊥
  behind_past Row q h x y = let v = x_low in let u = y_low in absurd (omega arith)
  behind_past Column q h x y = let v = x_low in let u = y_low in absurd (omega arith)
  behind_past Down q h x y = let v = x_low in let u = y_low in absurd (omega arith)
  behind_past Up q h x y = let v = x_low in let u = y_low in absurd (omega arith)

  past : (w : Way) (d : Axis) (q : Point) → towards w d p (1 + left w d) ≡ Some q → is_on b q ≡ true → ⊥
  past Ahead d q h here = ahead_past d q (along-OnLine d p (1 + left Ahead d) 0 q h) (on_x b q here) (on_y b q here)
  past Behind d q h here = behind_past d q (along-OnLine d p 0 (1 + left Behind d) q h) (on_x b q here) (on_y b q here)

  no_stone : (s : Side) (q : Point) (r : Bool) → is_on b q ≡ r → (is_on b q ≡ true → ⊥) → holds b s q ≡ false
  no_stone s q true e h = absurd (h e)
  no_stone s q false e h = rw e refl

  pub past_none : (s : Side) (w : Way) (d : Axis) → stone_at b s (towards w d p (1 + left w d)) ≡ false
  past_none s w d = by_point (towards w d p (1 + left w d)) refl where
    by_point : (o : Option Point) → towards w d p (1 + left w d) ≡ o → stone_at b s o ≡ false
    by_point None h = refl
    by_point (Some q) h = no_stone s q (is_on b q) refl (past w d q h)

pub left_by : (b : Grid) (w : Way) (d : Axis) (p : Point) (most width height : ℕ) → width ≡ b.width → height ≡ b.height
    → most ≡ steps_left w d width height p → most ≡ steps_left w d b.width b.height p
left_by b w d p most width height wide tall left =
    left ∙ ap (λ n. steps_left w d n height p) wide ∙ ap (λ n. steps_left w d b.width n p) tall

-- a point of the board is no more steps away than stay on the board
pub on_left : (b : Grid) (p q : Point) (k : ℕ) → is_on b p ≡ true → is_on b q ≡ true → (w : Way) (d : Axis) → towards w d p k ≡ Some q
    → k ≤ steps_left w d b.width b.height p
on_left b p q k on_p on_q w d h = by_way w h where
  ahead : (d : Axis) → OnLine d p k 0 q → p.x < b.width → p.y < b.height → q.x < b.width → q.y < b.height
      → k ≤ steps_left Ahead d b.width b.height p
  ahead Row l x y u v = omega arith
  ahead Column l x y u v = omega arith
  ahead Down l x y u v = omega arith
  ahead Up l x y u v = omega arith

  behind : (d : Axis) → OnLine d p 0 k q → p.x < b.width → p.y < b.height → q.x < b.width → q.y < b.height
      → k ≤ steps_left Behind d b.width b.height p
  behind Row l x y u v = omega arith
  behind Column l x y u v = omega arith
  behind Down l x y u v = omega arith
  behind Up l x y u v = omega arith

  by_way : (w : Way) → towards w d p k ≡ Some q → k ≤ steps_left w d b.width b.height p
  by_way Ahead h = ahead d (along-OnLine d p k 0 q h) (on_x b p on_p) (on_y b p on_p) (on_x b q on_q) (on_y b q on_q)
  by_way Behind h = behind d (along-OnLine d p 0 k q h) (on_x b p on_p) (on_y b p on_p) (on_x b q on_q) (on_y b q on_q)
