-- Which moves of the side to move hold against continuous fours of the other side.
use Rattle.std.specs.Prelude.{◌≡◌, ℕ, ◌<◌, ◌≤◌, Bool, true, false, ◌&&◌, not, nat_lt, List, Option}
use Rattle.std.specs.List.{filter, find}
use Rattle.game_rules.specs.Grid.{Grid, points_of}
use Rattle.game_rules.specs.Play.{outcome, after, goes_on}
use Rattle.game_rules.specs.Games.{WinsByFours, wins_by_fours}
use Rattle.game_rules.specs.declared.RuleKind.{RuleKind}
use Rattle.game_rules.specs.declared.Outcome.{Outcome}
use Rattle.game_rules.specs.declared.Outcome.TheVariants.{Refused, Wins, Fouls, Draws, GoesOn}
use Rattle.game_rules.specs.declared.Point.{Point}
use Rattle.four_search.specs.FourGame.{four_cost}

-- what is asked of a move with this outcome that is to hold: it wins, or fills the board, or the game goes on and W holds
abbrev pub HoldsOr : Outcome → Type 0 → Type 0
HoldsOr Refused W = ⊥
HoldsOr Wins W = Unit {0}
HoldsOr (Fouls f) W = ⊥
HoldsOr Draws W = Unit {0}
HoldsOr GoesOn W = W

-- The move q at b is a defence against continuous fours within n moves: it wins, or fills the board, or goes on to a board where the
-- other side has no such win. A foul is none, and neither is a point that is no move.
abbrev pub IsDefence : RuleKind → ℕ → Grid → Point → Type 0
IsDefence rule n b q = HoldsOr (outcome rule b q) (¬ WinsByFours rule n (after b q))

-- the test of HoldsOr
abbrev pub holds_or : Outcome → Bool → Bool
holds_or Refused w = false
holds_or Wins w = true
holds_or (Fouls f) w = false
holds_or Draws w = true
holds_or GoesOn w = w

-- the test of IsDefence
abbrev pub is_defence : RuleKind → ℕ → Grid → Point → Bool
is_defence rule n b q = holds_or (outcome rule b q) (not (wins_by_fours rule n (after b q)))

-- all defences at b, in reading order
abbrev pub defences_of : RuleKind → ℕ → Grid → List Point
defences_of rule n b = filter (is_defence rule n b) (points_of b)

-- whether the move q goes on, and is no defence
abbrev pub is_beaten : RuleKind → ℕ → Grid → Point → Bool
is_beaten rule n b q = goes_on (outcome rule b q) && not (is_defence rule n b q)

-- all other moves that go on, in reading order
abbrev pub beaten_of : RuleKind → ℕ → Grid → List Point
beaten_of rule n b = filter (is_beaten rule n b) (points_of b)

-- whether the move q goes on, and a search for continuous fours after it looks at more positions than the budget
abbrev pub is_spent : RuleKind → ℕ → ℕ → Grid → Point → Bool
is_spent rule n budget b q = goes_on (outcome rule b q) && nat_lt budget (four_cost rule n (after b q))

-- the first such move in reading order, if there is one
abbrev pub first_spent : RuleKind → ℕ → ℕ → Grid → Option Point
first_spent rule n budget b = find (is_spent rule n budget b) (points_of b)

-- the budget suffices after each move that goes on
abbrev pub SufficesAfterEach : RuleKind → ℕ → ℕ → Grid → Type 0
SufficesAfterEach rule n budget b = (q : Point) → outcome rule b q ≡ GoesOn → four_cost rule n (after b q) ≤ budget

-- the move q goes on, and the budget does not suffice after it
abbrev pub IsShortAfter : RuleKind → ℕ → ℕ → Grid → Point → Type 0
IsShortAfter rule n budget b q = (outcome rule b q ≡ GoesOn) × (budget < four_cost rule n (after b q))
