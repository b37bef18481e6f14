-- What a search of all depths tells of wins.
use Rattle.std.proofs.Common.{◌≡◌, ◌↔◌, ℕ, ◌≤◌, true, false, refl, sym, ◌∙◌, arith, IsTrue}
use Rattle.game_rules.proofs.Common.{Grid, wins_by_fours}
use Rattle.game_rules.specs.declared.RuleKind.{RuleKind}
use Rattle.four_search.specs.declared.answer.Sought.{Sought}
use Rattle.four_search.specs.declared.answer.Sought.TheVariants.{Win, None, Spent}
use Rattle.four_search.proofs.Common.{IsSoughtOut, is_win, four_cost}
use Rattle.four_search.proofs.Written.{sought-limit}

-- a win is found exactly where there is one and the budget suffices
pub wins-by : (rule : RuleKind) (depth budget : ℕ) (b : Grid) (s : Sought) → IsSoughtOut rule depth budget b s
    → IsTrue (is_win s) ↔ ((wins_by_fours rule depth b ≡ true) × (four_cost rule depth b ≤ budget))
wins-by rule depth budget b (Win moves line) is = (λ e. (sought-limit rule b depth budget moves line is, is.fits), λ h. refl)
wins-by rule depth budget b None is = (λ e. absurd (cc), λ h. absurd (let no : true ≡ false = sym h.0 ∙ is.none in cc))
wins-by rule depth budget b Spent is = (λ e. absurd (cc), λ h. absurd (let fits = h.1 in omega (arith, is, fits)))
