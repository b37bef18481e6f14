-- Answers to replies in reading order rise. Depth after depth: what is spent, and the fewest moves.
use Rattle.std.proofs.Common.{◌≡◌, ℕ, true, cond, refl, ap, List, [], ◌∷◌, map, filter, zero, suc, ◌+◌, ◌-◌}
use Rattle.std.proofs.Common.{◌≤◌, ◌<◌, Bool, false, inl, inr, sym, subst, ◌∙◌, arith, ◌++◌, nat_le, Some, find, sum_by}
use Rattle.std.specs.List.{range_with_len}
use Rattle.std.proofs.lemmas.Bool.{cases_lt}
use Rattle.std.proofs.lemmas.Bool.Decides.{nat_tests}
use Rattle.std.proofs.lemmas.List.Sums.{sum_by-cons, sum_by-append}
use Rattle.game_rules.specs.declared.Outcome.{Outcome}
use Rattle.game_rules.specs.declared.Outcome.TheVariants.{GoesOn}
use Rattle.game_rules.specs.declared.Point.{Point}
use Rattle.game_rules.specs.declared.RuleKind.{RuleKind}
use Rattle.game_rules.proofs.Common.{Grid, points_of, goes_on, wins_by_fours, has_five}
use Rattle.game_rules.proofs.Games.{WinsUnder-more, test-WinsUnder, WinsUnder-test}
use Rattle.strategy_graph.proofs.Rising.{replies-rising}
use Rattle.strategy_graph.proofs.Common.{is_rising}
use Rattle.four_search.proofs.Common.{answer_if, answers_for, until, four_tree, depths_tried, four_cost, least_moves, found_at, four_line}
use Rattle.four_search.specs.declared.search.Found.{Found}
use Rattle.four_search.specs.declared.search.Found.TheVariants.{Win, NoWin, Spent}

module _ (o : Point → Outcome) (next : Point → ℕ) where
  answered : (ps : List Point) → map (λ r. r.at) (answers_for o next ps) ≡ filter (λ q. goes_on (o q)) ps
  answered [] = refl
  answered (q ∷ ps) = by_outcome (o q) (answered ps) where
    by_outcome : (u : Outcome) → map (λ r. r.at) (answers_for o next ps) ≡ filter (λ p. goes_on (o p)) ps
        → map (λ r. r.at) (answer_if u (record { at = q; next = next q }) (answers_for o next ps)) ≡ cond (goes_on u)
        (q ∷ filter (λ p. goes_on (o p)) ps) (filter (λ p. goes_on (o p)) ps)
    by_outcome GoesOn k = ap (λ (qs : List Point). q ∷ qs) k
    by_outcome _ k = k

  -- the answers to the replies of a board rise
  pub answers-rising : (b : Grid) → is_rising (answers_for o next (points_of b)) ≡ true
  answers-rising b = replies-rising b (λ q. goes_on (o q)) (answers_for o next (points_of b)) (answered (points_of b))

-- a win within so many moves is one within more
pub wins-more : (rule : RuleKind) (m n : ℕ) (b : Grid) → m ≤ n → wins_by_fours rule m b ≡ true → wins_by_fours rule n b ≡ true
wins-more rule m n b l h = WinsUnder-test (has_five rule) rule n b
    (WinsUnder-more (has_five rule) rule m n b l (test-WinsUnder (has_five rule) rule m b h))

-- ---- numbers up to the first that passes

module _ (f : ℕ → Bool) where
  -- no number passes
  until-none : (d a : ℕ) → ((k : ℕ) → a ≤ k → k < a + d → f k ≡ false) → until f (range_with_len a d) ≡ range_with_len a d
  until-none zero a h = refl
  until-none (suc d) a h =
      let e : f a ≡ false = h a (omega arith) (omega arith) in
      rw (e, until-none d (a + 1) (λ k low high. h k (omega arith) (omega arith))) refl

  -- the first d do not
  until-later : (d e a : ℕ) → ((k : ℕ) → a ≤ k → k < a + d → f k ≡ false)
      → until f (range_with_len a (d + e)) ≡ range_with_len a d ++ until f (range_with_len (a + d) e)
  until-later zero e a h =
      let m : zero + e ≡ e = omega arith in
      let n : a + zero ≡ a = omega arith in
      rw (m, n) refl
  until-later (suc d) e a h =
      let first : f a ≡ false = h a (omega arith) (omega arith) in
      let m : suc d + e ≡ suc (d + e) = omega arith in
      let n : a + suc d ≡ a + 1 + d = omega arith in
      rw (m, n) (rw (first, until-later d e (a + 1) (λ k low high. h k (omega arith) (omega arith))) refl)

  find-later : (d e a : ℕ) → ((k : ℕ) → a ≤ k → k < a + d → f k ≡ false)
      → find f (range_with_len a (d + e)) ≡ find f (range_with_len (a + d) e)
  find-later zero e a h =
      let m : zero + e ≡ e = omega arith in
      let n : a + zero ≡ a = omega arith in
      rw (m, n) refl
  find-later (suc d) e a h =
      let first : f a ≡ false = h a (omega arith) (omega arith) in
      let m : suc d + e ≡ suc (d + e) = omega arith in
      let n : a + suc d ≡ a + 1 + d = omega arith in
      rw (m, n) (rw (first, find-later d e (a + 1) (λ k low high. h k (omega arith) (omega arith))) refl)

module _ (rule : RuleKind) (b : Grid) (depth : ℕ) where
  -- what the first d depths take
  abbrev pub spent_on : ℕ → ℕ
  spent_on d = sum_by (λ k. four_tree rule k b) (range_with_len 1 d)

  abbrev pub NoWinUpTo : ℕ → Type 0
  NoWinUpTo d = (k : ℕ) → 1 ≤ k → k ≤ d → wins_by_fours rule k b ≡ false

  wins : ℕ → Bool
  wins k = wins_by_fours rule k b

  up_to : (d : ℕ) → NoWinUpTo d → (k : ℕ) → 1 ≤ k → k < 1 + d → wins k ≡ false
  unfolding wins
  up_to d h k low high = h k low (omega arith)

  pub cost-none : NoWinUpTo depth → four_cost rule depth b ≡ spent_on depth
  unfolding wins
  cost-none h = ap (sum_by (λ k. four_tree rule k b)) (until-none wins depth 1 (up_to depth h))

  -- the depths tried, where there is no win within the first d, which are fewer
  parted : (d : ℕ) → d < depth → NoWinUpTo d → depths_tried rule depth b ≡ range_with_len 1 d
      ++ until wins (range_with_len (1 + d) (suc (depth - d - 1)))
  unfolding wins
  parted d l h =
      let m : depth ≡ d + suc (depth - d - 1) = omega arith in
      ap (λ n. until wins (range_with_len 1 n)) m ∙ until-later wins d (suc (depth - d - 1)) 1 (up_to d h)

  -- one depth more takes its positions
  pub spent-more : (d : ℕ) → spent_on (d + 1) ≡ spent_on d + four_tree rule (d + 1) b
  spent-more d =
      ap (sum_by (λ k. four_tree rule k b)) (range_more d 1)
      ∙ sum_by-append (λ k. four_tree rule k b) (range_with_len 1 d) ((1 + d) ∷ [])
      ∙ ap (λ n. spent_on d + n) (let m : 1 + d ≡ d + 1 = omega arith in last m) where
        range_more : (d a : ℕ) → range_with_len a (d + 1) ≡ range_with_len a d ++ (a + d) ∷ []
        range_more zero a = let z : a + zero ≡ a = omega arith in ap (λ (n : ℕ). n ∷ []) (sym z)
        range_more (suc d) a =
            let m : suc d + 1 ≡ suc (d + 1) = omega arith in
            let n : a + suc d ≡ a + 1 + d = omega arith in
            rw (m, n) (ap (λ (xs : List ℕ). a ∷ xs) (range_more d (a + 1)))

        last : 1 + d ≡ d + 1 → sum_by (λ k. four_tree rule k b) ((1 + d) ∷ []) ≡ four_tree rule (d + 1) b
        last m = sum_by-cons (λ k. four_tree rule k b) (1 + d) []
            ∙ (let z : four_tree rule (1 + d) b + 0 ≡ four_tree rule (1 + d) b = omega arith in z) ∙ ap (λ k. four_tree rule k b) m

  -- no less is spent than on these depths and the next
  pub cost-more : (d : ℕ) → d < depth → NoWinUpTo d → spent_on (d + 1) ≤ four_cost rule depth b
  unfolding wins
  cost-more d l h =
      let e : four_cost rule depth b ≡ spent_on d + sum_by (λ k. four_tree rule k b)
      (until wins (range_with_len (1 + d) (suc (depth - d - 1)))) =
      ap (sum_by (λ k. four_tree rule k b)) (parted d l h)
      ∙ sum_by-append (λ k. four_tree rule k b) (range_with_len 1 d) (until wins (range_with_len (1 + d) (suc (depth - d - 1)))) in
      let first = sum_by-cons (λ k. four_tree rule k b) (1 + d)
      (cond (wins (1 + d)) [] (until wins (range_with_len (1 + d + 1) (depth - d - 1)))) in
      let same : four_tree rule (1 + d) b ≡ four_tree rule (d + 1) b =
      (let m : 1 + d ≡ d + 1 = omega arith in ap (λ k. four_tree rule k b) m) in
      omega (arith, e, first, same, spent-more d)

  -- where the next depth has a win, this is all
  pub cost-win : (d : ℕ) → d < depth → NoWinUpTo d → wins_by_fours rule (d + 1) b ≡ true → four_cost rule depth b ≡ spent_on (d + 1)
  unfolding wins
  cost-win d l h win =
      let there : wins (1 + d) ≡ true = (let m : 1 + d ≡ d + 1 = omega arith in ap wins m ∙ win) in
      let e : four_cost rule depth b ≡ spent_on d + sum_by (λ k. four_tree rule k b)
      (until wins (range_with_len (1 + d) (suc (depth - d - 1)))) =
      ap (sum_by (λ k. four_tree rule k b)) (parted d l h)
      ∙ sum_by-append (λ k. four_tree rule k b) (range_with_len 1 d) (until wins (range_with_len (1 + d) (suc (depth - d - 1)))) in
      let only : sum_by (λ k. four_tree rule k b) (until wins (range_with_len (1 + d) (suc (depth - d - 1)))) ≡ four_tree rule (1 + d) b
      + 0 =
      ap (λ r. sum_by (λ k. four_tree rule k b) ((1 + d) ∷ cond r [] (until wins (range_with_len (1 + d + 1) (depth - d - 1))))) there
      ∙ sum_by-cons (λ k. four_tree rule k b) (1 + d) [] in
      let same : four_tree rule (1 + d) b ≡ four_tree rule (d + 1) b =
      (let m : 1 + d ≡ d + 1 = omega arith in ap (λ k. four_tree rule k b) m) in
      omega (arith, e, only, same, spent-more d)

  pub least-win : (d : ℕ) → d < depth → NoWinUpTo d → wins_by_fours rule (d + 1) b ≡ true → least_moves rule depth b ≡ Some (d + 1)
  unfolding wins
  least-win d l h win =
      let m : depth ≡ d + suc (depth - d - 1) = omega arith in
      let n : 1 + d ≡ d + 1 = omega arith in
      let there : wins (1 + d) ≡ true = ap wins n ∙ win in
      ap (λ n. find wins (range_with_len 1 n)) m ∙ find-later wins d (suc (depth - d - 1)) 1 (up_to d h)
      ∙ ap (λ r. cond r (Some (1 + d)) (find wins (range_with_len (1 + d + 1) (depth - d - 1)))) there ∙ ap Some n

-- ---- what one search found

module _ (rule : RuleKind) (n : ℕ) (b : Grid) (budget : ℕ) where
  by_found : (f : Found) → f ≡ found_at rule n b budget → (r w : Bool) → nat_le (four_tree rule n b) budget ≡ r → wins_by_fours rule n b ≡ w
      → f ≡ cond r (cond w (Win (budget - four_tree rule n b) (four_line rule n b)) (NoWin (budget - four_tree rule n b))) Spent
  by_found f h r w e k = h
      ∙ ap (λ r. cond r (cond (wins_by_fours rule n b) (Win (budget - four_tree rule n b) (four_line rule n b))
      (NoWin (budget - four_tree rule n b))) Spent) e
      ∙ ap (λ w. cond r (cond w (Win (budget - four_tree rule n b) (four_line rule n b)) (NoWin (budget - four_tree rule n b))) Spent) k

  pub found-win : (left : ℕ) (line : List Point) → Win left line ≡ found_at rule n b budget
      → (four_tree rule n b ≤ budget) × (wins_by_fours rule n b ≡ true) × (line ≡ four_line rule n b)
  found-win left line h = by_test (nat_le (four_tree rule n b) budget) (wins_by_fours rule n b) refl refl where
    by_test : (r w : Bool) → nat_le (four_tree rule n b) budget ≡ r → wins_by_fours rule n b ≡ w
        → (four_tree rule n b ≤ budget) × (wins_by_fours rule n b ≡ true) × (line ≡ four_line rule n b)
    by_test true true e k = (grind (arith, nat_tests), k, let same = by_found (Win left line) h true true e k in cc)
    by_test true false e k = let same = by_found (Win left line) h true false e k in cc
    by_test false w e k = let same = by_found (Win left line) h false w e k in cc

  pub found-no-win : (left : ℕ) → NoWin left ≡ found_at rule n b budget
      → (left + four_tree rule n b ≡ budget) × (wins_by_fours rule n b ≡ false)
  found-no-win left h = by_test (nat_le (four_tree rule n b) budget) (wins_by_fours rule n b) refl refl where
    by_test : (r w : Bool) → nat_le (four_tree rule n b) budget ≡ r → wins_by_fours rule n b ≡ w
        → (left + four_tree rule n b ≡ budget) × (wins_by_fours rule n b ≡ false)
    by_test true true e k = let same = by_found (NoWin left) h true true e k in cc
    by_test true false e k =
        let same = by_found (NoWin left) h true false e k in
        let fits : four_tree rule n b ≤ budget = grind (arith, nat_tests) in
        let rest : left ≡ budget - four_tree rule n b = cc in
        (omega (arith, fits, rest), k)
    by_test false w e k = let same = by_found (NoWin left) h false w e k in cc

  pub found-spent : Spent ≡ found_at rule n b budget → budget < four_tree rule n b
  found-spent h = by_test (nat_le (four_tree rule n b) budget) (wins_by_fours rule n b) refl refl where
    by_test : (r w : Bool) → nat_le (four_tree rule n b) budget ≡ r → wins_by_fours rule n b ≡ w → budget < four_tree rule n b
    by_test true true e k = let same = by_found Spent h true true e k in cc
    by_test true false e k = let same = by_found Spent h true false e k in cc
    by_test false w e k = grind (arith, nat_tests)

-- ---- the answer

-- after some depths without a win, what one more finds
module _ (rule : RuleKind) (b : Grid) (depth budget left d : ℕ) (l : d < depth) (none : NoWinUpTo rule b depth d)
    (spent : left + spent_on rule b depth d ≡ budget) where
  module _ (rest : ℕ) (line : List Point) (found : Win rest line ≡ found_at rule (d + 1) b left) where
    pub win-here : wins_by_fours rule (d + 1) b ≡ true
    win-here = (found-win rule (d + 1) b left rest line found).1

    pub win-cost : four_cost rule depth b ≤ budget
    win-cost =
        let fits = (found-win rule (d + 1) b left rest line found).0 in
        omega (arith, fits, cost-win rule b depth d l none win-here, spent-more rule b depth d, spent)

  pub cost-above : Spent ≡ found_at rule (d + 1) b left → budget < four_cost rule depth b
  cost-above found =
      omega (arith, found-spent rule (d + 1) b left found, cost-more rule b depth d l none, spent-more rule b depth d, spent)

  module _ (rest : ℕ) (found : NoWin rest ≡ found_at rule (d + 1) b left) where
    pub none-more : NoWinUpTo rule b depth (d + 1)
    none-more k low high = elim (cases_lt d k) [
      | inl last ↦ let same : d + 1 ≡ k = omega arith in
          subst (λ (j : ℕ). wins_by_fours rule j b ≡ false) same (found-no-win rule (d + 1) b left rest found).1
      | inr earlier ↦ none k low earlier
    ]

    pub left-more : rest + spent_on rule b depth (d + 1) ≡ budget
    left-more =
        omega (arith, (found-no-win rule (d + 1) b left rest found).0, spent-more rule b depth d, spent)

-- after all depths
module _ (rule : RuleKind) (b : Grid) (depth budget left d : ℕ) (end : d ≡ depth) (none : NoWinUpTo rule b depth d)
    (spent : left + spent_on rule b depth d ≡ budget) where
  pub end-cost : four_cost rule depth b ≤ budget
  end-cost =
      let all = cost-none rule b depth (subst (λ (n : ℕ). NoWinUpTo rule b depth n) end none) in
      omega (arith, all, ap (spent_on rule b depth) end, spent)

  pub end-none : 1 ≤ depth → wins_by_fours rule depth b ≡ false
  end-none some = none depth some (omega arith)
