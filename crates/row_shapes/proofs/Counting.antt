-- Fours counted by gaps: each four by the first of its five places and by the one that is left out.
use Rattle.std.proofs.Common.{◌≡◌, ℕ, ◌+◌, ◌<◌, Bool, true, false, cond, ◌&&◌, ◌||◌, refl, arith}
use Rattle.std.proofs.Common.{◌-◌, not, nat_eq, map, count_by, sum_by}
use Rattle.std.specs.List.{range_with_len}
use Rattle.std.proofs.lemmas.Bool.{false_from_ne_true}
use Rattle.game_rules.proofs.Common.{count_fours, Grid, fours_of, place_stone, place_wins}
use Rattle.game_rules.specs.declared.RuleKind.{RuleKind}
use Rattle.game_rules.specs.declared.Side.{Side}
use Rattle.game_rules.specs.declared.Axis.{Axis}
use Rattle.game_rules.specs.declared.Point.{Point}
use Rattle.row_shapes.proofs.Common.{listed, fours_from, is_four, are_stones}

-- all fours, over where their five places begin
abbrev pub fours_by_gap : (ℕ → Bool) → (ℕ → Bool) → ℕ
fours_by_gap stone wins = sum_by (λ first. fours_from stone wins first) (range_with_len 0 5)

or-swap : (a b : Bool) → (a || b) ≡ (b || (a || false))
or-swap true true = refl
or-swap true false = refl
or-swap false true = refl
or-swap false false = refl

-- the two ways to count fours agree
pub count_fours-gap : (stone wins : ℕ → Bool) → count_fours stone wins ≡ fours_by_gap stone wins
unfolding is_four are_stones
count_fours-gap stone wins = rw (or-swap (wins 8) (wins 3), or-swap (wins 7) (wins 2), or-swap (wins 6) (wins 1), or-swap (wins 5) (wins 0))
    (omega arith)

pub fours_of-gap : (rule : RuleKind) (b : Grid) (s : Side) (d : Axis) (p : Point)
    → fours_of rule b s d p ≡ fours_by_gap (place_stone b s d p) (place_wins rule b s d p)
unfolding fours_of
fours_of-gap rule b s d p = count_fours-gap (place_stone b s d p) (place_wins rule b s d p)

-- the same of a list of the places
pub fours_listed : (stone wins : ℕ → Bool) → fours_by_gap (listed (map stone (range_with_len 0 9))) wins ≡ fours_by_gap stone wins
unfolding is_four are_stones
fours_listed stone wins = refl

-- ---- fewer than four stones

four_true : (a b c d : Bool) → (a && (b && (c && (d && true)))) ≡ true → cond a 1 0 + cond b 1 0 + cond c 1 0 + cond d 1 0 ≡ 4
four_true true true true true h = refl
four_true true true true false h = cc
four_true true true false d h = cc
four_true true false c d h = cc
four_true false b c d h = cc

module _ (stone wins : ℕ → Bool) (few : count_by stone (range_with_len 0 9) < 4) where
  not_all : (i j k l : ℕ) → cond (stone i) 1 0 + cond (stone j) 1 0 + cond (stone k) 1 0 + cond (stone l) 1 0 < 4
      → (stone i && (stone j && (stone k && (stone l && true)))) ≡ false
  not_all i j k l h = false_from_ne_true _
      (λ all. let four = four_true (stone i) (stone j) (stone k) (stone l) all in absurd (omega (arith, four, h)))

  -- where fewer than four of the places hold stones, none of them are in a four
  pub no_fours : fours_by_gap stone wins ≡ 0
  unfolding is_four are_stones
  no_fours = rw (
    not_all 4 6 7 8 (omega arith),
    not_all 4 5 7 8 (omega arith),
    not_all 4 5 6 8 (omega arith),
    not_all 4 5 6 7 (omega arith),
    not_all 3 4 6 7 (omega arith),
    not_all 3 4 5 7 (omega arith),
    not_all 3 4 5 6 (omega arith),
    not_all 2 4 5 6 (omega arith),
    not_all 2 3 4 6 (omega arith),
    not_all 2 3 4 5 (omega arith),
    not_all 1 3 4 5 (omega arith),
    not_all 1 2 4 5 (omega arith),
    not_all 1 2 3 4 (omega arith),
    not_all 0 2 3 4 (omega arith),
    not_all 0 1 3 4 (omega arith),
    not_all 0 1 2 4 (omega arith),
  ) refl

-- ---- no place that wins

last_false : (a c e : Bool) → (a && c && (false || (e && false))) ≡ false
last_false true true true = refl
last_false true true false = refl
last_false true false e = refl
last_false false c e = refl

module _ (stone wins : ℕ → Bool) (none : (i : ℕ) → wins i ≡ false) where
  none_four : (first gap : ℕ) → is_four stone wins first gap ≡ false
  unfolding is_four
  none_four first gap = rw (none (gap + 4 - first), none (3 - first))
      (last_false (not (nat_eq first gap)) (are_stones stone first gap) (nat_eq gap 4))

  none_from : (first : ℕ) → fours_from stone wins first ≡ 0
  none_from first = rw (none_four first 1, none_four first 2, none_four first 3, none_four first 4) refl

  -- where no place wins, there is no four
  pub no_wins : fours_by_gap stone wins ≡ 0
  no_wins = rw (none_from 0, none_from 1, none_from 2, none_from 3, none_from 4) refl
