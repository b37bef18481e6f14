-- Three points of a stone are among the places of the line around it, and the search for one that is no foul.
use Rattle.std.proofs.Common.{◌≡◌, ◌≢◌, ℕ, ◌<◌, ◌/◌, ◌^◌, bit_and, Bool, true, false, cond, ◌&&◌, not, refl, sym, ap, add-one, ◌∙◌, arith}
use Rattle.std.specs.Prelude.{Option, Some, None, is_none}
use Rattle.std.specs.Int.{bit_at}
use Rattle.std.proofs.lemmas.Nat.Bits.{shr_and_one}
use Rattle.game_rules.proofs.Common.{Grid, IsBoard, is_empty, put, along, points_of, holds, is_three_point, is_line_three_point}
use Rattle.game_rules.proofs.Common.{is_line_three_at, five, black_foul, black_foul_within, stone_foul, is_three}
use Rattle.game_rules.specs.declared.RuleKind.{RuleKind}
use Rattle.game_rules.specs.declared.Axis.{Axis}
use Rattle.game_rules.specs.declared.Point.{Point}
use Rattle.game_rules.specs.declared.Side.TheVariants.{Black}
use Rattle.game_rules.proofs.Boards.{and_left, is_empty-on, empties_of-put}
use Rattle.game_rules.proofs.Points.{points-found, none_of}
use Rattle.game_rules.proofs.Threes.{three_empty, three_point-line, line_three, is_three-free}
use Rattle.stone_board.specs.Steps.{kept_on}
use Rattle.stone_board.proofs.Looks.{three-kept}
use Rattle.row_shapes.proofs.ThreePoints.{three_near}
use Rattle.foul_judge.specs.Threes.{free_three}

-- ---- three points and five points

module _ (rule : RuleKind) (b : Grid) (d : Axis) (p : Point) where
  found_three : (o : Option Point) → free_three rule b d p o ≡ true → is_three rule b d p (black_foul rule b) ≡ true
  found_three None h = cc
  found_three (Some q) h =
      let on = is_empty-on b q (three_empty rule b Black d p q
      ((line_three rule b d p) q (and_left (is_three_point rule b Black d p q) _ h))) in
      (is_three-free rule b d p) ∙ points-found b (λ q. is_three_point rule b Black d p q && is_none (black_foul rule b q)) q on h

  place_found : (i : ℕ) (q : Point) → along d p i 5 ≡ Some q → (is_three_point rule b Black d p q && is_none (black_foul rule b q)) ≡ true
      → free_three rule b d p (along d p i 5) ≡ true
  place_found i q at h = ap (free_three rule b d p) at ∙ h

  -- an axis is a three exactly where one of the places is a three point that is no foul
  pub three_by_place : (i : ℕ) → free_three rule b d p (along d p i 5) ≡ true → is_three rule b d p (black_foul rule b) ≡ true
  three_by_place i h = found_three (along d p i 5) h

  pub no_three : IsBoard b → holds b Black p ≡ true → ((i : ℕ) → i < 11 → free_three rule b d p (along d p i 5) ≡ false)
      → is_three rule b d p (black_foul rule b) ≡ false
  no_three ok mine none = (is_three-free rule b d p) ∙ none_of _ (points_of b) (λ q h.
      let near = three_near rule b Black d p ok mine q ((line_three rule b d p) q (and_left (is_three_point rule b Black d p q) _ h)) in
      let yes : free_three rule b d p (along d p near.0 5) ≡ true = place_found near.0 q near.2 h in
      let no = none near.0 near.1 in
      let differ : true ≡ false = sym yes ∙ no in
      cc)

-- a foul, one stone on
pub foul-step : (rule : RuleKind) (b : Grid) (p : Point) → IsBoard b → is_empty b p ≡ true
    → black_foul rule b p ≡ stone_foul rule (put b Black p) p (black_foul rule (put b Black p))
unfolding black_foul_within black_foul
foul-step rule b p ok h = rw (← empties_of-put b Black p ok h, add-one) refl

-- ---- one place

module _ (rule : RuleKind) (b : Grid) (d : Axis) (p : Point) where
  -- no three point as far as the axis decides is none
  pub not_free : (o : Option Point) → is_line_three_at rule b Black d p o ≡ false → free_three rule b d p o ≡ false
  not_free None h = refl
  not_free (Some q) h = rw (three_point-line rule b d p q, h) refl

  -- where no point is kept, none is a three point
  pub no_free_three : (o : Option Point) → kept_on b o ≡ None → free_three rule b d p o ≡ false
  no_free_three o e = not_free o (sym (three-kept rule b Black d p o) ∙ ap (is_line_three_at rule b Black d p) e)

  -- a three point as far as the axis decides is empty, and a three point if it is no five point
  pub line_three-empty : (o : Option Point) (q : Point) → o ≡ Some q → is_line_three_at rule b Black d p o ≡ true → is_empty b q ≡ true
  line_three-empty o q e h = three_empty rule b Black d p q (ap (is_line_three_at rule b Black d p) (sym e) ∙ h)

  pub free_three-line : (o : Option Point) (q : Point) → o ≡ Some q → is_line_three_at rule b Black d p o ≡ true
      → free_three rule b d p o ≡ (not (five rule b Black q) && is_none (black_foul rule b q))
  free_three-line o q e h =
      let here : is_line_three_point rule b Black d p q ≡ true = ap (is_line_three_at rule b Black d p) (sym e) ∙ h in
      ap (free_three rule b d p) e ∙ rw (three_point-line rule b d p q, here) refl

-- a bit that is not set says no
pub bit_clear : (n i : ℕ) (r : Bool) → bit_at n i ≡ cond r 1 0 → bit_and (n / 2 ^ i) 1 ≢ 1 → r ≡ false
bit_clear n i true e h = absurd (h (shr_and_one n i ∙ e))
bit_clear n i false e h = refl

-- and one that is set says yes
pub bit_set : (n i : ℕ) (r : Bool) → bit_at n i ≡ cond r 1 0 → bit_and (n / 2 ^ i) 1 ≡ 1 → r ≡ true
bit_set n i true e h = refl
bit_set n i false e h = let clear = shr_and_one n i ∙ e in absurd (omega (arith, clear, h))
