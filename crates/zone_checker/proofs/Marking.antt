-- Marks in lists, and the windows of a point one after another.
use Rattle.std.proofs.Common.{◌≡◌, inl, inr, ℕ, zero, suc, ◌+◌, ◌-◌, ◌≤◌, ◌<◌, Bool, true, false, cond, ◌&&◌, not, refl, sym, ap, ◌∙◌}
use Rattle.std.proofs.Common.{arith, List, length, nat_le, get_or, ◌*◌, eq-eqb, Option, Some, None, count_by}
use Rattle.std.specs.List.{list_all, range_with_len}
use Rattle.std.proofs.lemmas.Bool.{both_ways, cases_lt, false_from_ne_true, le-leb, lt-leb}
use Rattle.std.proofs.lemmas.List.{get_or_default}
use Rattle.std.proofs.lemmas.List.Sums.{sum_by-cons}
use Rattle.zone_checker.proofs.Common.{Grid, IsBoard, is_on, holds, along, other, place_of, Side, Axis, Point, stones_in, is_clear_at}
use Rattle.zone_checker.proofs.Common.{is_clear_of, Mark, ANY, blank, room, mark_at, spare_of, is_full_at, is_full_through}
use Rattle.game_rules.proofs.Common.{stone_at}
use Rattle.game_rules.proofs.Boards.{place_fits}
use Rattle.game_rules.proofs.Rows.{all_in_range, all_range, any_found, any_none}
use Rattle.stone_board.specs.Steps.{kept_on}
use Rattle.stone_board.proofs.Looks.{kept-Some}

-- what is not kept on the board is not on it
lost : (b : Grid) (s : Side) (o : Option Point) → kept_on b o ≡ None → is_clear_at b s o ≡ false
lost b s None h = refl
lost b s (Some r) h = by_test (is_on b r) refl h where
  by_test : (t : Bool) → is_on b r ≡ t → cond t (Some r) None ≡ None → (is_on b r && not (holds b s r)) ≡ false
  by_test true e k = cc
  by_test false e k = ap (λ v. v && not (holds b s r)) e

-- ---- the room of a window

module _ (b : Grid) (s : Side) (d : Axis) (p : Point) where
  -- the stones of the other side at the first k places, of which each is clear of the side
  pub record Counted (k n : ℕ) : Type 0 where
    pub clear : (j : ℕ) → j < k → is_clear_at b s (along d p j 0) ≡ true
    pub count : count_by (λ j. stone_at b (other s) (along d p j 0)) (range_with_len 0 k) ≡ n

-- what a number at which a test answers so adds to a count
abbrev pub mark : Bool → ℕ
mark r = cond r 1 0

count_last : (f : ℕ → Bool) (n a : ℕ) → count_by f (range_with_len a (suc n)) ≡ count_by f (range_with_len a n) + mark (f (a + n))
count_last f zero a = let z : a + 0 ≡ a = omega arith in rw z refl
count_last f (suc n) a =
    let here = sum_by-cons (λ k. mark (f k)) a (range_with_len (a + 1) (suc n)) in
    let rest = count_last f n (a + 1) in
    let front = sum_by-cons (λ k. mark (f k)) a (range_with_len (a + 1) n) in
    let same : a + 1 + n ≡ a + suc n = omega arith in
    let last : mark (f (a + 1 + n)) ≡ mark (f (a + suc n)) = ap (λ k. mark (f k)) same in
    omega (arith, here, rest, front, last)

module _ (b : Grid) (s : Side) (d : Axis) (p : Point) where
  -- a place that is not clear leaves any room
  any_room : (k : ℕ) → k < 5 → is_clear_at b s (along d p k 0) ≡ false → room b s d p ≡ Some ANY
  unfolding room is_clear_of
  any_room k l h =
      let not_clear : list_all (λ k. is_clear_at b s (along d p k 0)) (range_with_len 0 5) ≡ false = false_from_ne_true _
      (λ all. both_ways _ h (all_in_range (λ k. is_clear_at b s (along d p k 0)) 5 0 k all (omega arith) (omega arith))) in
      ap (λ t. cond t (cond (nat_le (stones_in b (other s) d p) 3) (Some (3 - stones_in b (other s) d p)) None) (Some ANY)) not_clear

  pub room-off : (k : ℕ) → k < 5 → kept_on b (along d p k 0) ≡ None → room b s d p ≡ Some ANY
  room-off k l h = any_room k l (lost b s (along d p k 0) h)

  pub room-held : (k : ℕ) (q : Point) → k < 5 → kept_on b (along d p k 0) ≡ Some q → holds b s q ≡ true → room b s d p ≡ Some ANY
  room-held k q l h mine =
      let here = kept-Some b (along d p k 0) q h in
      any_room k l (ap (is_clear_at b s) here.0 ∙ ap (λ t. is_on b q && not t) mine ∙ and_false (is_on b q)) where
        and_false : (t : Bool) → (t && false) ≡ false
        and_false true = refl
        and_false false = refl

  -- one place more, which is clear of the side
  pub counted-more : (k n m : ℕ) (q : Point) → Counted b s d p k n → kept_on b (along d p k 0) ≡ Some q → holds b s q ≡ false
      → n + mark (holds b (other s) q) ≡ m → Counted b s d p (k + 1) m
  counted-more k n m q h there clear sum =
      let here = kept-Some b (along d p k 0) q there in
      let last = count_last (λ j. stone_at b (other s) (along d p j 0)) k 0 in
      let same : mark (stone_at b (other s) (along d p (0 + k) 0)) ≡ mark (holds b (other s) q) = ap
      (λ j. mark (stone_at b (other s) (along d p j 0))) (omega arith) ∙ ap (λ (o : Option Point). mark (stone_at b (other s) o)) here.0 in
      let before = h.count in
      let one : k + 1 ≡ suc k = omega arith in
      record {
        clear = λ j l. elim (cases_lt j k) [
          | inl less ↦ h.clear j less
          | inr more ↦ let this : k ≡ j = omega arith in
              ap (λ i. is_clear_at b s (along d p i 0)) (sym this)
              ∙ ap (is_clear_at b s) here.0 ∙ ap (λ t. t && not (holds b s q)) here.1 ∙ ap not clear
        ];
        count = rw one (omega (arith, last, same, before, sum));
      }

  -- all five
  pub room-clear : (n : ℕ) → Counted b s d p 5 n → n ≤ 3 → room b s d p ≡ Some (3 - n)
  unfolding room is_clear_of stones_in
  room-clear n h few =
      let clear = all_range (λ k. is_clear_at b s (along d p k 0)) 5 0 (λ k low high. h.clear k (omega arith)) in
      let test : nat_le n 3 ≡ true = le-leb n 3 few in
      ap (λ t. cond t (cond (nat_le (stones_in b (other s) d p) 3) (Some (3 - stones_in b (other s) d p)) None) (Some ANY)) clear
      ∙ ap (λ m. cond (nat_le m 3) (Some (3 - m)) None) h.count ∙ ap (λ t. cond t (Some (3 - n)) None) test

  pub room-none : (n : ℕ) → Counted b s d p 5 n → 3 < n → room b s d p ≡ None
  unfolding room is_clear_of stones_in
  room-none n h many =
      let clear = all_range (λ k. is_clear_at b s (along d p k 0)) 5 0 (λ k low high. h.clear k (omega arith)) in
      let test : nat_le n 3 ≡ false = lt-leb n 3 many in
      ap (λ t. cond t (cond (nat_le (stones_in b (other s) d p) 3) (Some (3 - stones_in b (other s) d p)) None) (Some ANY)) clear
      ∙ ap (λ m. cond (nat_le m 3) (Some (3 - m)) None) h.count ∙ ap (λ t. cond t (Some (3 - n)) None) test

-- ---- full windows

module _ (b : Grid) (ms : List Mark) (d : Axis) (q : Point) where
  pub full-there : (k : ℕ) (p : Point) → k < 5 → kept_on b (along d q 0 k) ≡ Some p → spare_of d (mark_at b ms p) ≡ 0
      → is_full_through b ms d q ≡ true
  unfolding is_full_through
  full-there k p l h none = any_found (λ k. is_full_at b ms d (along d q 0 k)) 5 0 k (omega arith) (omega arith)
      (ap (is_full_at b ms d) (kept-Some b (along d q 0 k) p h).0 ∙ eq-eqb _ 0 none)

  pub full-nowhere : ((k : ℕ) → k < 5 → is_full_at b ms d (along d q 0 k) ≡ false) → is_full_through b ms d q ≡ false
  unfolding is_full_through
  full-nowhere none = any_none (λ k. is_full_at b ms d (along d q 0 k)) 5 0 (λ k low high. none k (omega arith))

-- what stands at the place of a point of the board is its mark
pub read-mark : (b : Grid) (ms : List Mark) (p : Point) (w : ℕ) (d : Mark) → IsBoard b → is_on b p ≡ true → length ms ≡ length b.cells
    → w ≡ b.width → get_or ms (p.y * w + p.x) d ≡ mark_at b ms p
read-mark b ms p w d ok on size wide =
    let fits : place_of b p < length ms = rw size (place_fits b p ok on) in
    ap (λ (w : ℕ). get_or ms (p.y * w + p.x) d) wide ∙ get_or_default ms (place_of b p) d blank fits
    ∙ sym (ap (λ (t : Bool). cond t (get_or ms (place_of b p) blank) blank) on)
