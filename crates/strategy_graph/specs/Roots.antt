-- The two kinds of root of a table, a node and a start, taken together.
use Rattle.std.specs.Prelude.{ℕ, Bool, nat_lt, List}
use Rattle.game_rules.specs.Grid.{Grid}
use Rattle.game_rules.specs.Games.{WinsWithin, WinsAfter}
use Rattle.game_rules.specs.declared.RuleKind.{RuleKind}
use Rattle.game_rules.specs.declared.Point.{Point}
use Rattle.strategy_graph.specs.declared.Node.{Node}
use Rattle.strategy_graph.specs.declared.Why.{Why}
use Rattle.strategy_graph.specs.declared.roots.Root.{Root}
use Rattle.strategy_graph.specs.declared.roots.Root.TheVariants.{Attack, Defend}
use Rattle.strategy_graph.specs.Tables.{names_below, RepliesOn, depth, start_depth}
use Rattle.strategy_graph.specs.Acceptance.{Accepted, AcceptedStart}
use Rattle.strategy_graph.specs.Arrivals.{arrivals, start_arrivals}
use Rattle.strategy_graph.specs.Leads.{Leads, LeadsStart}

-- whether each number that the root names is below k
abbrev pub root_below : Root → ℕ → Bool
root_below (Attack i) k = nat_lt i k
root_below (Defend a) k = names_below a k

-- the points that the root names are on the board: a node is named by its number alone
abbrev pub RootOnBoard : Grid → Root → Type 0
RootOnBoard b (Attack i) = Unit {0}
RootOnBoard b (Defend a) = RepliesOn b a.replies

-- the depth of the root
abbrev pub root_depth : List Node → Root → ℕ
root_depth t (Attack i) = depth t i
root_depth t (Defend a) = start_depth t a

-- the root is accepted at b
abbrev pub AcceptedRoot : RuleKind → List Node → Root → Grid → Type 0
AcceptedRoot rule t (Attack i) b = Accepted rule t i b
AcceptedRoot rule t (Defend a) b = AcceptedStart rule t a b

-- the arrivals from the root at b
abbrev pub root_arrivals : RuleKind → List Node → Root → Grid → ℕ
root_arrivals rule t (Attack i) b = arrivals rule t i b
root_arrivals rule t (Defend a) b = start_arrivals rule t a b

-- the line leads from the root at b to the fault
abbrev pub LeadsRoot : RuleKind → List Node → Root → Grid → List Point → Why → Type 0
LeadsRoot rule t (Attack i) b line why = Leads rule t i b line why
LeadsRoot rule t (Defend a) b line why = LeadsStart rule t a b line why

-- what the root claims of the board: the side to move wins within so many moves, or, where the opponent moves first, the
-- other side wins so after each move there
abbrev pub RootWins : RuleKind → Root → ℕ → Grid → Type 0
RootWins rule (Attack i) moves b = WinsWithin rule moves b
RootWins rule (Defend a) moves b = WinsAfter rule moves b
