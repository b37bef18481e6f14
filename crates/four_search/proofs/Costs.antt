-- Few positions are looked at in a search for two fours, and one where a five point stands.
use Rattle.std.proofs.Common.{ℕ, ◌≤◌, Bool, true, false, cond, arith, List, [], ◌∷◌, ◌≡◌, ◌∙◌, zero, suc, ◌+◌, ◌<◌, refl, length, nat_le}
use Rattle.std.proofs.Common.{ap, Option, None, Some}
use Rattle.std.specs.List.{sum_by, range_with_len}
use Rattle.std.proofs.lemmas.List.Sums.{sum_by-cons}
use Rattle.std.proofs.lemmas.Bool.Decides.{nat_tests}
use Rattle.game_rules.proofs.Common.{Grid, points_of, is_at, IsPosition, mover, after, has_five, wins_by_fours, four_move}
use Rattle.game_rules.specs.declared.RuleKind.{RuleKind}
use Rattle.game_rules.specs.declared.Point.{Point}
use Rattle.game_rules.proofs.Games.{five-wins}
use Rattle.game_rules.proofs.Places.{points_few}
use Rattle.game_rules.proofs.PointLists.{sum-each_one}
use Rattle.threat_moves.specs.declared.block.BlockAnswer.{BlockAnswer}
use Rattle.threat_moves.specs.declared.block.BlockAnswer.TheVariants.{One}
use Rattle.threat_moves.proofs.Common.{is_four_move, fate}
use Rattle.four_search.specs.FourGame.{until, tried, if_one, behind_move, four_tree, four_cost, least_moves}
use Rattle.four_search.proofs.Written.{least-wins}

sum-until : {X : Type 0} (f : X → ℕ) (test : X → Bool) (xs : List X) → sum_by f (until test xs) ≤ sum_by f xs
sum-until f test [] = omega arith
sum-until {X} f test (x ∷ xs) = by_test (test x) (sum-until f test xs) where
  by_test : (r : Bool) → sum_by f (until test xs) ≤ sum_by f xs → sum_by f (x ∷ cond r [] (until test xs)) ≤ sum_by f (x ∷ xs)
  by_test true low = let a = sum_by-cons f x xs in let b = sum_by-cons f x [] in omega (arith, a, b)
  by_test false low = let a = sum_by-cons f x xs in let b = sum_by-cons f x (until test xs) in omega (arith, a, b, low)

one-looked : (rule : RuleKind) (c : Grid) → sum_by (λ k. four_tree rule k c) (1 ∷ []) ≡ 1
unfolding four_tree
one-looked rule c = refl

-- where the attacker has a five point, one position is looked at
pub five-cost : (rule : RuleKind) (n : ℕ) (c : Grid) → 1 ≤ n → has_five rule c (mover c) ≡ true → four_cost rule n c ≡ 1
five-cost rule zero c l h = absurd (omega arith)
five-cost rule (suc m) c l h =
    ap (λ (r : Bool). sum_by (λ k. four_tree rule k c) (1 ∷ cond r [] (until (λ k. wins_by_fours rule k c) (range_with_len 2 m))))
    (five-wins rule c 0 h)
    ∙ one-looked rule c

module _ (rule : RuleKind) (b : Grid) (lawful : IsPosition rule b) where
  one : (c : Grid) → four_tree rule 1 c ≡ 1
  unfolding four_tree
  one c = refl

  behind-one : (p : Point) → behind_move rule b (four_tree rule 1) p ≤ 1
  behind-one p = by_four (is_four_move rule b p) where
    by_fate : (a : BlockAnswer) → if_one (four_tree rule 1) (after b p) a ≤ 1
    by_fate (One w) = let e = one (after (after b p) w) in omega (arith, e)
    by_fate _ = omega arith

    by_four : (r : Bool) → cond r (if_one (four_tree rule 1) (after b p) (fate rule (after b p))) 0 ≤ 1
    by_four true = by_fate (fate rule (after b p))
    by_four false = omega arith

  two : four_tree rule 2 b ≤ 1025
  unfolding four_tree
  two = by_five (has_five rule b (mover b)) where
    sum : sum_by (behind_move rule b (four_tree rule 1)) (tried rule 2 b) ≤ 1024
    sum =
        let cut = sum-until (behind_move rule b (four_tree rule 1)) (λ p. is_at p (four_move rule 2 b)) (points_of b) in
        omega (arith, cut, sum-each_one (behind_move rule b (four_tree rule 1)) behind-one (points_of b), points_few b lawful.board)

    by_five : (r : Bool) → cond r 1 (1 + sum_by (behind_move rule b (four_tree rule 1)) (tried rule 2 b)) ≤ 1025
    by_five true = omega arith
    by_five false = let s = sum in omega (arith, s)

  cost-all : (n : ℕ) → four_cost rule n b ≤ sum_by (λ k. four_tree rule k b) (range_with_len 1 n)
  cost-all n = sum-until (λ k. four_tree rule k b) (λ k. wins_by_fours rule k b) (range_with_len 1 n)

  cost-small : (n : ℕ) → n ≤ 2 → four_cost rule n b ≤ 1026
  cost-small zero l = let low = cost-all 0 in omega (arith, low)
  cost-small (suc zero) l = let low = cost-all 1 in let e = one b in omega (arith, low, e)
  cost-small (suc (suc zero)) l = let low = cost-all 2 in let e = one b in let f = two in omega (arith, low, e, f)
  cost-small (suc (suc (suc n))) l = absurd (omega arith)

  -- it is far below the greatest budget
  pub cost-fits : (n : ℕ) (budget : ℕ) → n ≤ 2 → 1026 ≤ budget → budget < four_cost rule n b → ⊥
  cost-fits n budget l high more = let low = cost-small n l in omega (arith, low)

pub until-length : {X : Type 0} → (test : X → Bool) (xs : List X) → length (until test xs) ≤ length xs
until-length test [] = omega arith
until-length test (x ∷ xs) = by_test (test x) (until-length test xs) where
  by_test : (r : Bool) → length (until test xs) ≤ length xs → length (x ∷ cond r [] (until test xs)) ≤ suc (length xs)
  by_test true h = omega arith
  by_test false h = omega arith

module _ (rule : RuleKind) (b : Grid) (depth budget : ℕ) where
  abbrev by_cost : Option ℕ
  by_cost = cond (nat_le (four_cost rule depth b) budget) (least_moves rule depth b) None

  by_test : (r : Bool) → nat_le (four_cost rule depth b) budget ≡ r → by_cost ≡ cond r (least_moves rule depth b) None
  by_test r e = ap (λ (t : Bool). cond t (least_moves rule depth b) None) e

  pub within : four_cost rule depth b ≤ budget → by_cost ≡ least_moves rule depth b
  within fits = by_test true (grind (arith, nat_tests))

  pub above : budget < four_cost rule depth b → by_cost ≡ None
  above more = by_test false (grind (arith, nat_tests))

-- within the moves of such a win the side to move wins by fours
pub wins_by : (rule : RuleKind) (b : Grid) (depth budget moves : ℕ) → by_cost rule b depth budget ≡ Some moves
    → wins_by_fours rule moves b ≡ true
wins_by rule b depth budget moves h = by_bool (nat_le (four_cost rule depth b) budget) h where
  by_bool : (r : Bool) → cond r (least_moves rule depth b) None ≡ Some moves → wins_by_fours rule moves b ≡ true
  by_bool true e = least-wins rule depth b moves e
  by_bool false e = cc
