-- The win that the brain finds itself, by what the search of it answers.
use Rattle.std.proofs.Common.{◌≡◌, ℕ, ◌≤◌, ◌<◌, true, false, subst, ◌∙◌, Some, None, rules}
use Rattle.brain_session.proofs.Common.{Grid, wins_by_fours, RuleKind, FourTable, four_cost, least_moves, OWN_MOVES, OWN_POSITIONS, own_win}
use Rattle.brain_session.proofs.Common.{IsFound, IsOwnTable, OwnStandsAt}
use Rattle.game_rules.proofs.Games.{wins-some}
use Rattle.strategy_graph.proofs.Following.{accepted-in_table}
use Rattle.four_search.specs.declared.fewest.FewestWin.{FewestWin}
use Rattle.four_search.specs.FewestWins.{IsFewestWin, win_of}
use Rattle.four_search.proofs.Written.{least-none}
use Rattle.four_search.proofs.Costs.{within, above, wins_by}

-- there is no such win within the moves
pub own_win-none : (rule : RuleKind) (b : Grid) → wins_by_fours rule OWN_MOVES b ≡ false → four_cost rule OWN_MOVES b ≤ OWN_POSITIONS
    → own_win rule b ≡ None
own_win-none rule b none fits = within rule b OWN_MOVES OWN_POSITIONS fits ∙ least-none rule OWN_MOVES b none

-- the search looks at too many positions
pub own_win-spent : (rule : RuleKind) (b : Grid) → OWN_POSITIONS < four_cost rule OWN_MOVES b → own_win rule b ≡ None
own_win-spent rule b more = above rule b OWN_MOVES OWN_POSITIONS more

-- the win with the fewest moves
pub own_win-some : (rule : RuleKind) (b : Grid) (moves : ℕ) → four_cost rule OWN_MOVES b ≤ OWN_POSITIONS
    → least_moves rule OWN_MOVES b ≡ Some moves → own_win rule b ≡ Some moves
own_win-some rule b moves fits least = within rule b OWN_MOVES OWN_POSITIONS fits ∙ least

pub own_win-wins : (rule : RuleKind) (b : Grid) (moves : ℕ) → own_win rule b ≡ Some moves → wins_by_fours rule moves b ≡ true
own_win-wins rule b moves h = wins_by rule b OWN_MOVES OWN_POSITIONS moves h

pub own_table-moves : (rule : RuleKind) (b : Grid) (own : FourTable) → IsOwnTable rule b own → 1 ≤ own.moves
own_table-moves rule b own is = wins-some rule own.moves b (own_win-wins rule b own.moves is.fewest)

-- the table of the win, with its last node, stands at b
pub own_table-stands : (rule : RuleKind) (b : Grid) (own : FourTable) → IsOwnTable rule b own → OwnStandsAt rule b own
own_table-stands rule b own is = search (rules, accepted-in_table, own_win-wins)

-- ---- what the search answers

found-by : (rule : RuleKind) (b : Grid) (found : FewestWin) → IsFewestWin rule OWN_MOVES OWN_POSITIONS b found
    → IsFound rule b (win_of found)
found-by rule b found is = search (rules, own_win-some, own_win-none, own_win-spent)

-- on a board that is b
pub found-on : (rule : RuleKind) (b d : Grid) → d ≡ b → (found : FewestWin) → IsFewestWin rule OWN_MOVES OWN_POSITIONS d found
    → IsFound rule b (win_of found)
found-on rule b d same found is = subst (λ (x : Grid). IsFound rule x (win_of found)) same (found-by rule d found is)
