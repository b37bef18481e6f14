-- The tests of a defence, and of a budget that suffices, answer as the facts.
use Rattle.std.proofs.Common.{◌≡◌, ◌↔◌, ◌≤◌, Bool, true, false, ◌&&◌, refl, sym, ap, ◌∙◌, Option, Some}
use Rattle.std.proofs.Common.{None, find, MatchOption, nat_lt, ltb-true, rules}
use Rattle.std.specs.List.{list_any}
use Rattle.std.proofs.lemmas.Bool.{ltb-false}
use Rattle.game_rules.proofs.Common.{points_of, outcome, after, goes_on}
use Rattle.game_rules.specs.declared.Outcome.{Outcome}
use Rattle.game_rules.specs.declared.Outcome.TheVariants.{GoesOn}
use Rattle.game_rules.specs.declared.Point.{Point}
use Rattle.game_rules.proofs.Boards.{and_left, and_right}
use Rattle.game_rules.proofs.Games.{no-win, test-WinsUnder}
use Rattle.game_rules.proofs.Outcomes.{goes_on-is}
use Rattle.game_rules.proofs.Places.{find-passes}
use Rattle.game_rules.proofs.PointLists.{unfound-none}
use Rattle.game_rules.proofs.Points.{points-found}
use Rattle.game_rules.proofs.Positions.{GoesOn-on}
use Rattle.four_search.specs.FourGame.{four_cost}
use Rattle.defence_finder.proofs.Common.{is_spent, SufficesAfterEach, IsShortAfter, DefencesAreTold, SpentIsTold}

-- ---- defences

pub defences-told : DefencesAreTold
defences-told rule n b q = search (rules, no-win, test-WinsUnder)

-- ---- budgets

pub spent-told : SpentIsTold
spent-told rule n budget b = by_find (find (is_spent rule n budget b) (points_of b)) refl where
  short : (q : Point) → is_spent rule n budget b q ≡ true → IsShortAfter rule n budget b q
  short q h = (
    goes_on-is (outcome rule b q) (and_left (goes_on (outcome rule b q)) _ h),
    ltb-true budget (four_cost rule n (after b q)) (and_right (goes_on (outcome rule b q)) _ h),
  )

  by_test : (q : Point) → outcome rule b q ≡ GoesOn → list_any (is_spent rule n budget b) (points_of b) ≡ false → (r : Bool)
      → nat_lt budget (four_cost rule n (after b q)) ≡ r → four_cost rule n (after b q) ≤ budget
  by_test q on none false e = ltb-false budget (four_cost rule n (after b q)) e
  by_test q on none true e =
      let yes = points-found b (is_spent rule n budget b) q (GoesOn-on rule b q on)
      (ap (λ (o : Outcome). goes_on o && nat_lt budget (four_cost rule n (after b q))) on ∙ e) in
      absurd (let no : false ≡ true = sym none ∙ yes in cc)

  by_find : (o : Option Point) → find (is_spent rule n budget b) (points_of b) ≡ o
      → MatchOption o (SufficesAfterEach rule n budget b) (IsShortAfter rule n budget b)
  by_find None e = λ q on. by_test q on (unfound-none (is_spent rule n budget b) (points_of b) e) _ refl
  by_find (Some q) e = short q (find-passes (is_spent rule n budget b) (points_of b) q e)
