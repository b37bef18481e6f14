-- What is known of one move: by its outcome, by a five point that it leaves, or by a search after it.
use Rattle.std.proofs.Common.{◌≡◌, ◌↔◌, ℕ, zero, suc, unwrap_or, ◌-◌, ◌<◌, ◌≤◌, Bool, true, false}
use Rattle.std.proofs.Common.{◌&&◌, not, refl, sym, ap, subst, ◌∙◌, arith, List, [], ◌∷◌, Some, Option, IfSome, find, rules}
use Rattle.std.proofs.Common.{slice_get}
use Rattle.std.proofs.lemmas.Bool.{cases_lt, le-ltb}
use Rattle.game_rules.proofs.Common.{Grid, IsPosition, points_of, is_same_point, five, mover, other, outcome, after, has_five}
use Rattle.game_rules.proofs.Common.{five_points, wins_by_fours}
use Rattle.game_rules.specs.declared.RuleKind.{RuleKind}
use Rattle.game_rules.specs.declared.Outcome.TheVariants.{GoesOn}
use Rattle.game_rules.specs.declared.Point.{Point}
use Rattle.game_rules.proofs.Fives.{least_five, first-left, second-left}
use Rattle.game_rules.proofs.Games.{WinsUnder-more, WinsUnder-test, five-wins}
use Rattle.game_rules.proofs.Outcomes.{five-outcome}
use Rattle.game_rules.proofs.Places.{find-passes}
use Rattle.game_rules.proofs.PointLists.{Apart-back, find-any}
use Rattle.game_rules.proofs.Points.{is_same_point-apart, is_same_point-same}
use Rattle.strategy_graph.specs.declared.Node.{Node}
use Rattle.strategy_compiler.proofs.Common.{IsBeatenBy, Leaf, StandsFor, WinsAtOnce}
use Rattle.strategy_compiler.specs.declared.wins.WrittenWin.{WrittenWin}
use Rattle.strategy_compiler.proofs.Growing.{win-deep, win-within}
use Rattle.four_search.specs.FourGame.{four_cost, least_moves}
use Rattle.four_search.specs.Answers.{IsFourWin}
use Rattle.four_search.specs.declared.answer.FourAnswer.{FourAnswer}
use Rattle.four_search.specs.declared.answer.FourAnswer.TheVariants.{Win, Spent}
use Rattle.four_search.specs.Plans.{four_plan}
use Rattle.four_search.proofs.Costs.{five-cost}
use Rattle.four_search.proofs.Planning.{plan-leaf}
use Rattle.defence_finder.proofs.Common.{IsPlanned, IsSettled}

module _ (rule : RuleKind) (n budget : ℕ) (b : Grid) (q : Point) where
  module _ (on : outcome rule b q ≡ GoesOn) where
    -- one that goes on, where the budget suffices after it
    pub settled-on : (w : Bool) → wins_by_fours rule n (after b q) ≡ w → four_cost rule n (after b q) ≤ budget
        → IsSettled rule n budget b q (not w) w
    settled-on w won enough = search (rules, le-ltb)

-- ---- a five point that is left

-- the least of the five points that the move leaves
module _ (rule : RuleKind) (b : Grid) (q : Point) (lawful : IsPosition rule b) (on : outcome rule b q ≡ GoesOn) (fives others : List Point)
    (first : Point) (is : fives ≡ first ∷ others) (are : fives ≡ five_points rule b (other (mover b))) where
  pub first-stays : is_same_point first q ≡ false → least_five rule (after b q) ≡ Some first
  first-stays differ = first-left rule b lawful q on first others (sym are ∙ is) (Apart-back first q (is_same_point-apart first q differ))

  pub second-stays : (o : Option Point) → o ≡ slice_get others 0 → is_same_point first q ≡ true
      → IfSome o (λ w. least_five rule (after b q) ≡ Some w)
  second-stays o e same =
      subst (λ (o : Option Point). IfSome o (λ w. least_five rule (after b q) ≡ Some w)) (sym e) (by_others others is) where
        by_others : (ps : List Point) → fives ≡ first ∷ ps → IfSome (slice_get ps 0) (λ w. least_five rule (after b q) ≡ Some w)
        by_others [] e = tt
        by_others (v ∷ more) e = second-left rule b lawful q on first v more (sym are ∙ e) (sym (is_same_point-same first q same))

module _ (rule : RuleKind) (n budget : ℕ) (b : Grid) (q : Point) (w : Point) (some : 1 ≤ n) (enough : 1 ≤ budget)
    (on : outcome rule b q ≡ GoesOn)
    (left : find (five rule (after b q) (mover (after b q))) (points_of (after b q)) ≡ Some w) where
  there : five rule (after b q) (mover (after b q)) w ≡ true
  there = find-passes (five rule (after b q) (mover (after b q))) (points_of (after b q)) w left

  has : has_five rule (after b q) (mover (after b q)) ≡ true
  has = find-any (five rule (after b q) (mover (after b q))) (points_of (after b q)) w left

  wins : wins_by_fours rule n (after b q) ≡ true
  wins =
      let e : suc (n - 1) ≡ n = omega (arith, some) in
      ap (λ (k : ℕ). wins_by_fours rule k (after b q)) (sym e) ∙ five-wins rule (after b q) (n - 1) has

  pub five-settled : IsSettled rule n budget b q false true
  five-settled =
      let cost = five-cost rule n (after b q) some has in
      settled-on rule n budget b q on true wins (omega (arith, cost, enough))

  -- the plan of the win is the five point
  pub five-planned : (t : List Node) (i : ℕ) → StandsFor t i (Leaf w) → IsPlanned rule n b t (record { at = q; next = i })
  five-planned t i stands =
      let one : least_moves rule n (after b q) ≡ Some 1 = first n some in
      subst (StandsFor t i) (sym (plan-leaf rule 1 (after b q) w left (omega arith))
      ∙ ap (λ (o : Option ℕ). four_plan rule (unwrap_or o 0) (after b q)) (sym one)) stands where
        first : (k : ℕ) → 1 ≤ k → least_moves rule k (after b q) ≡ Some 1
        first zero l = absurd (omega arith)
        first (suc k) l = rw (five-wins rule (after b q) 0 has) refl

  pub five-beaten : (t : List Node) (i : ℕ) → WinsAtOnce w t i → IsBeatenBy rule n b t (record { at = q; next = i })
  five-beaten t i won =
      win-deep rule n (after b q) t _ (win-within rule 1 n (after b q) t _ some
      (won rule (after b q) (five-outcome rule (after b q) w there)))

-- ---- a search after it

-- the budget sufficed where another answer came
pub four-enough : (budget cost : ℕ) (a : FourAnswer) (win : WrittenWin) → a ≡ Win win → ((a ≡ Spent) ↔ (budget < cost)) → cost ≤ budget
four-enough budget cost a win is spent = search (rules, cases_lt)

-- a win that was found
pub four-verdict : (rule : RuleKind) (n budget : ℕ) (b : Grid) (q : Point) → outcome rule b q ≡ GoesOn → (d : Grid) → d ≡ after b q
    → (t : List Node) (win : WrittenWin) → IsFourWin rule n d t win → four_cost rule n d ≤ budget
    → IsSettled rule n budget b q false true × IsBeatenBy rule n b t (record { at = q; next = win.node })
    × IsPlanned rule n b t (record { at = q; next = win.node })
four-verdict rule n budget b q on d same t win won enough = (
  settled-on rule n budget b q on true wins (subst (λ (d : Grid). four_cost rule n d ≤ budget) same enough),
  win-deep rule n (after b q) t win there.written,
  subst (λ (o : Option ℕ). StandsFor t win.node (four_plan rule (unwrap_or o 0) (after b q))) (sym there.least) there.stands,
) where
  there : IsFourWin rule n (after b q) t win
  there = subst (λ (d : Grid). IsFourWin rule n d t win) same won

  wins : wins_by_fours rule n (after b q) ≡ true
  wins =
      WinsUnder-test (has_five rule) rule n (after b q)
      (WinsUnder-more (has_five rule) rule win.moves n (after b q) there.written.within there.fewest.wins)
