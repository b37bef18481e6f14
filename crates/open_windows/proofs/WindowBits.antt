-- The windows that begin at the points of a row, and the points that lie in one.
use Rattle.std.proofs.Common.{rules, ◌≡◌, inl, inr, ℕ, ◌+◌, ◌-◌, ◌%◌, ◌≤◌, ◌<◌, max, min, Bool, true, false, cond, ◌&&◌, ◌||◌, not, nat_eq}
use Rattle.std.proofs.Common.{nat_le, List, length, set}
use Rattle.std.proofs.Common.{refl, sym, ap, ◌∙◌, arith, Option, Some, None, bit_and, bit_or}
use Rattle.std.specs.Prelude.{slice_index_or, bit_xor}
use Rattle.std.specs.Int.{bit_at}
use Rattle.std.specs.List.{list_any, count_by, range_with_len}
use Rattle.std.proofs.lemmas.List.{get_or-set_same, get_or-set_other, length-set}
use Rattle.std.proofs.lemmas.Nat.Bits.{bit_at_and, bit_at_or, bit_at_xor}
use Rattle.std.proofs.lemmas.Bool.{cases_eq}
use Rattle.game_rules.proofs.Common.{Grid, IsBoard, is_on, is_empty, is_empty_cell, is_stone_of, cell_at, holds, along, stone_at, other}
use Rattle.game_rules.proofs.Common.{axes}
use Rattle.game_rules.specs.declared.Cell.{Cell}
use Rattle.game_rules.specs.declared.Side.{Side}
use Rattle.game_rules.specs.declared.Axis.{Axis}
use Rattle.game_rules.specs.declared.Axis.TheVariants.{Row, Column, Down, Up}
use Rattle.game_rules.specs.declared.Point.{Point}
use Rattle.game_rules.proofs.Boards.{on_x}
use Rattle.game_rules.proofs.Lines.{along-zero}
use Rattle.open_windows.specs.OpenWindows.{is_open_at, is_window, in_window}
use Rattle.open_windows.specs.PointSets.{has_point}
use Rattle.open_windows.specs.Rows.{TellsRows, point_at, five_of, start_bit, stepped, covered}
use Rattle.open_windows.proofs.RowBits.{one, step_bit, back_bit, at_row}

both : (m n : ℕ) (r t : Bool) → m ≡ one r → n ≡ one t → min m n ≡ one (r && t)
both m n r t h k = search rules

either : (m n : ℕ) (r t : Bool) → m ≡ one r → n ≡ one t → max m n ≡ one (r || t)
either m n r t h k = search rules

all_left : (h a b c d e : Bool) → (((((h && a) && b) && c) && d) && e) ≡ ((a && (b && (c && (d && (e && true))))) && h)
all_left h a b c d e = search rules

any_left : (a b c d e : Bool) → ((((a || b) || c) || d) || e) ≡ (a || (b || (c || (d || (e || false)))))
any_left a b c d e = search rules

-- ---- where windows begin

module _ (b : Grid) (s : Side) (own clear : List ℕ) (mine : TellsRows (stone_at b s) own) (others : TellsRows (is_open_at b s) clear)
    (d : Axis) (least i x : ℕ) (low : 4 ≤ i) (high : i < 36) where
  abbrev here : Point
  here = record { x = x; y = i - 4 }

  abbrev seen : ℕ → Bool
  seen k = is_open_at b s (along d here k 0)

  abbrev enough : Bool
  enough = nat_le least (count_by (λ k. stone_at b s (along d here k 0)) (range_with_len 0 5))

  open_bit : (k : ℕ) → k < 5 → bit_at (stepped clear d i k) x ≡ one (seen k)
  open_bit k near = step_bit (is_open_at b s) refl clear others i x low high d k near

  own_bit : (k : ℕ) → k < 5 → bit_at (stepped own d i k) x ≡ one (stone_at b s (along d here k 0))
  own_bit k near = step_bit (stone_at b s) refl own mine i x low high d k near

  held : five_of own d i x ≡ count_by (λ k. stone_at b s (along d here k 0)) (range_with_len 0 5)
  held =
      let a = own_bit 0 (omega arith) in let c = own_bit 1 (omega arith) in let e = own_bit 2 (omega arith) in
      let f = own_bit 3 (omega arith) in let g = own_bit 4 (omega arith) in
      omega (arith, a, c, e, f, g)

  pub start-window : start_bit own clear d least i x ≡ one (is_window b s least d (point_at i x))
  unfolding is_window
  start-window =
      let many : cond (nat_le least (five_of own d i x)) 1 0 ≡ one enough = ap (λ n. cond (nat_le least n) 1 0) held in
      both _ _ _ (seen 4) (both _ _ _ (seen 3) (both _ _ _ (seen 2) (both _ _ _ (seen 1) (both _ _ enough (seen 0) many
      (open_bit 0 (omega arith))) (open_bit 1 (omega arith))) (open_bit 2 (omega arith))) (open_bit 3 (omega arith)))
      (open_bit 4 (omega arith))
      ∙ ap one (all_left enough (seen 0) (seen 1) (seen 2) (seen 3) (seen 4))
      ∙ sym (ap (λ (o : Option Point). one (is_window b s least d o)) (at_row i x low))

-- the bits of a number are those of six at once
pub six-and : (own clear : List ℕ) (d : Axis) (least i x held a c e f g t u v w z : ℕ) → a ≡ stepped own d i 0 → c ≡ stepped own d i 1
    → e ≡ stepped own d i 2 → f ≡ stepped own d i 3 → g ≡ stepped own d i 4 → t ≡ stepped clear d i 0 → u ≡ stepped clear d i 1
    → v ≡ stepped clear d i 2 → w ≡ stepped clear d i 3 → z ≡ stepped clear d i 4
    → bit_at held x ≡ one (nat_le least (bit_at a x + bit_at c x + bit_at e x + bit_at f x + bit_at g x))
    → bit_at (bit_and (bit_and (bit_and (bit_and (bit_and held t) u) v) w) z) x ≡ start_bit own clear d least i x
six-and own clear d least i x held a c e f g t u v w z ha hc he hf hg ht hu hv hw hz many =
    let first = bit_at_and held t x in
    let second = bit_at_and (bit_and held t) u x in
    let third = bit_at_and (bit_and (bit_and held t) u) v x in
    let fourth = bit_at_and (bit_and (bit_and (bit_and held t) u) v) w x in
    let fifth = bit_at_and (bit_and (bit_and (bit_and (bit_and held t) u) v) w) z x in
    cc

pub window-none : (b : Grid) (s : Side) (least : ℕ) (d : Axis) → is_window b s least d None ≡ false
unfolding is_window
window-none b s least d = refl

-- a window begins on the board
pub window-on : (b : Grid) (s : Side) (least : ℕ) (d : Axis) (p : Point) → is_on b p ≡ false → is_window b s least d (Some p) ≡ false
unfolding is_window
window-on b s least d p off =
    first_off _ _ _ (ap (is_open_at b s) (along-zero d p) ∙ ap (λ r. r && not (holds b (other s) p)) off) where
      first_off : (a c e : Bool) → a ≡ false → ((a && c) && e) ≡ false
      first_off a c e h = search rules

-- ---- the points of windows

module _ (f : Axis → Option Point → Bool) (nowhere : (d : Axis) → f d None ≡ false) (i x : ℕ) (low : 4 ≤ i) (high : i < 36)
    (column : x < 32) where
  abbrev there : Point
  there = record { x = x; y = i - 4 }

  abbrev near_at : Axis → ℕ → Bool
  near_at d k = f d (along d there 0 k)

  abbrev near_one : Axis → Bool
  near_one d = list_any (near_at d) (range_with_len 0 5)

  or_bit : (m n : ℕ) (r t : Bool) → bit_at m x ≡ one r → bit_at n x ≡ one t → bit_at (bit_or m n) x ≡ one (r || t)
  or_bit m n r t h k = bit_at_or m n x ∙ either _ _ r t h k

  covered-bit : (d : Axis) (rows : List ℕ) → TellsRows (f d) rows → bit_at (covered rows d i) x ≡ one (near_one d)
  covered-bit d rows tells =
      let back = back_bit (f d) (nowhere d) rows tells i x low high column d in
      or_bit _ _ _ _ (or_bit _ _ _ _ (or_bit _ _ _ _ (or_bit _ _ _ _ (back 0 (omega arith)) (back 1 (omega arith))) (back 2 (omega arith)))
      (back 3 (omega arith))) (back 4 (omega arith))
      ∙ ap one (any_left (near_at d 0) (near_at d 1) (near_at d 2) (near_at d 3) (near_at d 4))

  any_axis : (r t u v : Bool) → (((r || t) || u) || v) ≡ (r || (t || (u || (v || false))))
  any_axis r t u v = search rules

  pub all-covered : (row column down up : List ℕ) → TellsRows (f Row) row → TellsRows (f Column) column → TellsRows (f Down) down
      → TellsRows (f Up) up
      → bit_at (bit_or (bit_or (bit_or (covered row Row i) (covered column Column i)) (covered down Down i)) (covered up Up i)) x
      ≡ one (list_any near_one axes)
  all-covered row column down up r c d u =
      or_bit _ _ _ _ (or_bit _ _ _ _ (or_bit _ _ _ _ (covered-bit Row row r) (covered-bit Column column c)) (covered-bit Down down d))
      (covered-bit Up up u)
      ∙ ap one (any_axis (near_one Row) (near_one Column) (near_one Down) (near_one Up))

-- a point that is open and holds no stone of the side is empty
empty_is : (r : Bool) (c : Cell) (s : Side) (m n : ℕ) → m ≡ one (r && not (r && is_stone_of (other s) c)) → n ≡ one (r && is_stone_of s c)
    → (m + n) % 2 ≡ one (r && is_empty_cell c)
empty_is r c s m n h k = search rules

module _ (b : Grid) (s : Side) (least i x : ℕ) (low : 4 ≤ i) (high : i < 36) (own clear : List ℕ)
    (mine : TellsRows (stone_at b s) own) (others : TellsRows (is_open_at b s) clear) where
  abbrev point : Point
  point = record { x = x; y = i - 4 }

  -- of the points that are covered the empty ones lie in a window
  pub point-bit : (inside : ℕ)
      → bit_at inside x ≡ one (list_any (λ d. list_any (λ k. is_window b s least d (along d point 0 k)) (range_with_len 0 5)) axes)
      → bit_at (bit_and inside (bit_xor (slice_index_or clear i 0) (slice_index_or own i 0))) x ≡ one (in_window b s least point)
  unfolding in_window
  point-bit inside near =
      let clear_bit : bit_at (slice_index_or clear i 0) x ≡ one (is_open_at b s (Some point)) =
      others.bits i x (omega (arith, high)) ∙ ap (λ (o : Option Point). one (is_open_at b s o)) (at_row i x low) in
      let own_bit : bit_at (slice_index_or own i 0) x ≡ one (stone_at b s (Some point)) =
      mine.bits i x (omega (arith, high)) ∙ ap (λ (o : Option Point). one (stone_at b s o)) (at_row i x low) in
      let free = bit_at_xor (slice_index_or clear i 0) (slice_index_or own i 0) x
      ∙ empty_is (is_on b point) (cell_at b point) s _ _ clear_bit own_bit in
      bit_at_and inside (bit_xor (slice_index_or clear i 0) (slice_index_or own i 0)) x ∙ both _ _ _ (is_empty b point) near free
      ∙ ap one (turned _ (is_empty b point)) where
        turned : (r t : Bool) → (r && t) ≡ (t && r)
        turned r t = search rules

one_is : (m : ℕ) (r : Bool) → m ≡ one r → nat_eq m 1 ≡ r
one_is m r h = search rules

-- the first n rows tell of their points whether they lie in a window
abbrev pub PointsTo : Grid → Side → ℕ → List ℕ → ℕ → Type 0
PointsTo b s least rows n =
    (length rows ≡ 32) × ((p : Point) → p.y < n → is_on b p ≡ true → has_point rows p ≡ in_window b s least p)

pub points-more : (b : Grid) (s : Side) (least : ℕ) (rows : List ℕ) (y v : ℕ) → IsBoard b → y < 32 → PointsTo b s least rows y
    → ((x : ℕ) → x < 32 → bit_at v x ≡ one (in_window b s least (record { x = x; y = y + 4 - 4 })))
    → PointsTo b s least (set rows y v) (y + 1)
points-more b s least rows y v ok within h told = (
  length-set rows y v ∙ h.0,
  λ p low on. elim (cases_eq p.y y) [
    | inr other ↦ ap (λ n. nat_eq (bit_at n p.x) 1) (get_or-set_other rows y p.y v 0 other) ∙ h.1 p (omega (arith, low, other)) on
    | inl same ↦
        let column = on_x b p on in
        let wide = ok.width_fits in
        let all = h.0 in
        let place : y + 4 - 4 ≡ p.y = omega (arith, same) in
        ap (λ m. nat_eq (bit_at (slice_index_or (set rows y v) m 0) p.x) 1) same
        ∙ ap (λ n. nat_eq (bit_at n p.x) 1) (get_or-set_same rows y v 0 (omega (arith, within, all)))
        ∙ one_is _ _ (told p.x (omega (arith, column, wide)))
        ∙ ap (λ n. in_window b s least (record { x = p.x; y = n })) place
  ],
)
