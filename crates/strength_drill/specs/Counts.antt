-- The counts of a drill: what comes of each of its positions, all of them together, and what they show.
use Rattle.std.specs.Prelude.{◌≡◌, ◌⊎◌, ℕ, zero, suc, ◌+◌, ◌*◌, ◌≤◌, Bool, nat_le, if◌then◌else◌, List, Option, Some, None}
use Rattle.game_rules.specs.Grid.{Grid}
use Rattle.game_rules.specs.declared.RuleKind.{RuleKind}
use Rattle.strategy_graph.specs.declared.Node.{Node}
use Rattle.strategy_graph.specs.Acceptance.{Accepted}
use Rattle.strategy_graph.specs.Arrivals.{arrivals}
use Rattle.strategy_compiler.specs.Walks.{IsTableOf, last}
use Rattle.four_search.specs.FourGame.{four_cost, least_moves}
use Rattle.four_search.specs.Plans.{four_plan}
use Rattle.brain_session.specs.declared.TheConstants.{BRAIN_WORK}
use Rattle.strength_drill.specs.declared.TheConstants.{POSITIONS}
use Rattle.strength_drill.specs.declared.drill.TheConstants.{DEPTH, BUDGET}
use Rattle.strength_drill.specs.declared.counts.Counts.{Counts}
use Rattle.strength_drill.specs.declared.positions.TheConstants.{DRAWN_POINTS}
use Rattle.strength_drill.specs.Draws.{number_after, position_drawn, rule_at}
use Rattle.strength_drill.specs.DrillGames.{held_at, state_begun, IsGamePlayed}

-- One position

-- what a search for a win by fours finds: the fewest moves of one, that there is none, or that the budget is not enough
pub data Found : Type 0 where
  WinIn : (moves : ℕ) → Found
  NoWin : Found
  OverBudget : Found

-- what is found where the budget is enough
abbrev pub found_by : Option ℕ → Found
found_by (Some moves) = WinIn moves
found_by None = NoWin

-- what a search within so many moves, and of so many positions, finds at the board
unfoldable pub found_within : ℕ → ℕ → RuleKind → Grid → Found
found_within depth budget rule b = if nat_le (four_cost rule depth b) budget then found_by (least_moves rule depth b) else OverBudget

-- nothing is counted
abbrev pub no_counts : Counts
no_counts = record { wins = 0; none = 0; spent = 0; accepted = 0; games = 0; moves = 0 }

-- two counts together
abbrev pub together : Counts → Counts → Counts
together c d = record {
  wins = c.wins + d.wins;
  none = c.none + d.none;
  spent = c.spent + d.spent;
  accepted = c.accepted + d.accepted;
  games = c.games + d.games;
  moves = c.moves + d.moves;
}

-- the counts are those of so many positions at most
pub record AreWithin (k : ℕ) (c : Counts) : Type 0 where
  pub wins : c.wins ≤ k
  pub none : c.none ≤ k
  pub spent : c.spent ≤ k
  pub accepted : c.accepted ≤ k
  pub games : c.games ≤ k
  pub moves : c.moves ≤ 225 * k

-- a brain may hold the table: its last node is accepted at the position, with at most BRAIN_WORK arrivals
pub record IsHoldable (rule : RuleKind) (b : Grid) (t : List Node) : Type 0 where
  pub accepted : Accepted rule t (last t) b
  pub within : arrivals rule t (last t) b ≤ BRAIN_WORK

-- A table that may be held is counted as accepted, and a game is played by it with the draws of the number s. The game is counted
-- if it is won, and the brain's moves in it are. The number after it is u.
pub record PlaysGame (rule : RuleKind) (b : Grid) (t : List Node) (s : ℕ) (c : Counts) (u : ℕ) : Type 0 where
  pub holdable : IsHoldable rule b t
  pub moves : ℕ
  pub won : Bool
  pub game : IsGamePlayed (state_begun (held_at rule b t) rule b) s moves won u
  pub counts : c ≡ record no_counts { wins = 1; accepted = 1; games = (if won then 1 else 0); moves = moves }

-- a table that may not be held is not counted as accepted, and no game is played
pub record IsNotHeld (rule : RuleKind) (b : Grid) (t : List Node) (s : ℕ) (c : Counts) (u : ℕ) : Type 0 where
  pub refused : ¬ IsHoldable rule b t
  pub counts : c ≡ record no_counts { wins = 1 }
  pub number : u ≡ s

-- What comes of a position, by what is found: a win is counted, and the table of its plan is tried; else it is counted that there
-- is no win, or that the budget is not enough.
abbrev pub ComesOf : RuleKind → Grid → Found → ℕ → Counts → ℕ → Type 0
ComesOf rule b (WinIn moves) s c u = (t : List Node) × IsTableOf (four_plan rule moves b) t
    × (PlaysGame rule b t s c u ⊎ IsNotHeld rule b t s c u)
ComesOf rule b NoWin s c u = (c ≡ record no_counts { none = 1 }) × (u ≡ s)
ComesOf rule b OverBudget s c u = (c ≡ record no_counts { spent = 1 }) × (u ≡ s)

-- what the position that is made of the draws of the number s adds to the counts, and the number after it
abbrev pub IsShare : RuleKind → ℕ → Counts → ℕ → Type 0
IsShare rule s c u =
    let b = position_drawn rule s in ComesOf rule b (found_within DEPTH BUDGET rule b) (number_after s DRAWN_POINTS) c u

-- All positions

-- The counts of the first so many positions, and the number after them. Each position is made, searched and played before the
-- draws of the next begin.
unfoldable pub AreCounts : ℕ → ℕ → Counts → ℕ → Type 0
AreCounts n zero c s = (c ≡ no_counts) × (s ≡ n)
AreCounts n (suc i) c s =
    (before share : Counts) × (r : ℕ) × AreCounts n i before r × IsShare (rule_at i) r share s × (c ≡ together before share)

-- these are the counts of the drill of the number
abbrev pub IsCounted : ℕ → Counts → Type 0
IsCounted n c = (s : ℕ) × AreCounts n POSITIONS c s

-- What the counts of a drill show: there is one count of each kind for the number, each table that the search finds is accepted,
-- and each game is won.
pub record AreOnlyCounts (n : ℕ) (c : Counts) : Type 0 where
  pub one : (d : Counts) → IsCounted n d → d ≡ c
  pub accepted : c.accepted ≡ c.wins
  pub games : c.games ≡ c.wins
