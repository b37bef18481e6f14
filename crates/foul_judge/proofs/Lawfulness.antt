-- A board is lawful exactly where nothing is said against it.
use Rattle.std.proofs.Common.{◌≡◌, ◌↔◌, ◌⊎◌, inl, inr, ℕ, ◌+◌, ◌<◌, Bool, true, false, cond, ◌||◌, not}
use Rattle.std.proofs.Common.{refl, sym, ◌∙◌, arith, nat_eq, eq-eqb, find, Option, Some, None}
use Rattle.std.proofs.lemmas.Bool.{or_right, or_cases, and_from, false_from_ne_true}
use Rattle.std.proofs.lemmas.Bool.Decides.{nat_tests}
use Rattle.game_rules.proofs.Common.{Grid, IsBoard, is_on, holds, points_of, stones_of, empties_of, row_wins, run_of, IsPosition, IsUnwon}
use Rattle.game_rules.specs.declared.RuleKind.{RuleKind}
use Rattle.game_rules.specs.declared.Side.{Side}
use Rattle.game_rules.specs.declared.Axis.{Axis}
use Rattle.game_rules.specs.declared.Point.{Point}
use Rattle.game_rules.specs.declared.Side.TheVariants.{Black, White}
use Rattle.game_rules.proofs.Axes.{axis_of, some_axis}
use Rattle.game_rules.proofs.Boards.{and_left, and_right}
use Rattle.game_rules.proofs.Points.{points-found, none_of}
use Rattle.game_rules.proofs.PointLists.{unfound-none, none-unfound}
use Rattle.foul_judge.specs.declared.position.PositionError.{PositionError}
use Rattle.foul_judge.specs.declared.position.PositionError.TheVariants.{BoardFull}
use Rattle.foul_judge.proofs.Common.{names_mover, wins_through, is_on_winning_run, won_or_full, refusal}

-- ---- the first of a list

-- ---- counts

mover_named : (b w : ℕ) (r q : Bool) → nat_eq b w ≡ r → nat_eq b (w + 1) ≡ q → (r || q) ≡ true → (b ≡ w) ⊎ (b ≡ w + 1)
mover_named b w true q e f h = inl (grind (arith, nat_tests))
mover_named b w false true e f h = inr (grind (arith, nat_tests))
mover_named b w false false e f h = cc

named_mover : (b w : ℕ) → (b ≡ w) ⊎ (b ≡ w + 1) → names_mover b w ≡ true
named_mover b w (inl e) = rw (eq-eqb b w e) refl
named_mover b w (inr e) = or_right (nat_eq b w) _ (eq-eqb b (w + 1) e)

-- ---- winning runs

module _ (rule : RuleKind) (b : Grid) where
  won_by_side : (s : Side) (p : Point) → wins_through rule b s p ≡ true → is_on_winning_run rule b p ≡ true
  won_by_side Black p h = rw h refl
  won_by_side White p h = or_right (wins_through rule b Black p) _ h

  through : (s : Side) (d : Axis) (p : Point) → holds b s p ≡ true → row_wins rule s (run_of b s d p) ≡ true
      → wins_through rule b s p ≡ true
  through s d p mine wins = and_from (holds b s p) _ mine (axis_of (λ d. row_wins rule s (run_of b s d p)) d wins)

  pub unwon_from_none : find (is_on_winning_run rule b) (points_of b) ≡ None → IsUnwon rule b
  unwon_from_none none = record {
    no_winning_run = λ s d p mine. false_from_ne_true _ (λ wins.
        let found = points-found b (is_on_winning_run rule b) p (and_left (is_on b p) _ mine) (won_by_side s p (through s d p mine wins)) in
        let no : false ≡ true = sym (unfound-none (is_on_winning_run rule b) (points_of b) none) ∙ found in
        cc);
  }

  not_through : IsUnwon rule b → (s : Side) (p : Point) → wins_through rule b s p ≡ true → ⊥
  not_through unwon s p h =
      let mine : holds b s p ≡ true = and_left (holds b s p) _ h in
      let d = some_axis (λ d. row_wins rule s (run_of b s d p)) (and_right (holds b s p) _ h) in
      let no : false ≡ true = sym (unwon.no_winning_run s d.0 p mine) ∙ d.1 in
      cc

  pub none_from_unwon : IsUnwon rule b → find (is_on_winning_run rule b) (points_of b) ≡ None
  none_from_unwon unwon = none-unfound _ (points_of b) (none_of _ (points_of b) (λ p h. elim (or_cases (wins_through rule b Black p) _ h) [
    | inl black ↦ not_through unwon Black p black
    | inr white ↦ not_through unwon White p white
  ]))

  -- ---- both ways

  none_parts : (r : Bool) (o : Option Point) (n : ℕ) (u : PositionError) → cond (not r) (Some u) (won_or_full o n) ≡ None
      → (r ≡ true) × (o ≡ None) × (0 < n)
  none_parts true None n u h = (refl, refl, some_by (nat_eq n 0) refl h) where
    some_by : (r : Bool) → nat_eq n 0 ≡ r → cond r (Some BoardFull) None ≡ None → 0 < n
    some_by true e h = cc
    some_by false e h = grind (arith, nat_tests)
  none_parts true (Some p) n u h = cc
  none_parts false o n u h = cc

  pub lawful_from_none : IsBoard b → refusal rule b ≡ None → IsPosition rule b
  unfolding refusal
  lawful_from_none ok h =
      let parts = none_parts (names_mover (stones_of b Black) (stones_of b White)) (find (is_on_winning_run rule b) (points_of b))
      (empties_of b) _ h in
      record {
        board = ok;
        turns = mover_named (stones_of b Black) (stones_of b White) (nat_eq (stones_of b Black) (stones_of b White))
            (nat_eq (stones_of b Black) (stones_of b White + 1)) refl refl parts.0;
        unwon = unwon_from_none parts.1;
        open_points = parts.2;
      }

  pub none_from_lawful : IsPosition rule b → refusal rule b ≡ None
  unfolding refusal
  none_from_lawful lawful =
      let some : nat_eq (empties_of b) 0 ≡ false = let n = lawful.open_points in grind (arith, nat_tests) in
      rw (named_mover (stones_of b Black) (stones_of b White) lawful.turns, none_from_unwon lawful.unwon, some) refl

  -- nothing is said against the board exactly where it is a lawful position
  pub lawful-exactly : (o : Option PositionError) → IsBoard b → o ≡ refusal rule b → (o ≡ None) ↔ IsPosition rule b
  lawful-exactly o ok said = (λ none. lawful_from_none ok (sym said ∙ none), λ lawful. said ∙ none_from_lawful lawful)
