-- The law of pairs: from a root at a board there is one number of them.
use Rattle.std.specs.Prelude.{◌≡◌, ℕ, List}
use Rattle.game_rules.specs.Grid.{Grid}
use Rattle.game_rules.specs.declared.RuleKind.{RuleKind}
use Rattle.game_rules.specs.declared.Side.{Side}
use Rattle.strategy_graph.specs.declared.Node.{Node}
use Rattle.strategy_graph.specs.declared.roots.Root.{Root}
use Rattle.zone_checker.specs.Pairs.{RootHasPairs}

-- no two numbers are that of the pairs from a root at a board
abbrev pub PairsAreOneNumber : Type 0
PairsAreOneNumber = (rule : RuleKind) (t : List Node) (s : Side) (r : Root) (b : Grid) (n m : ℕ) → RootHasPairs rule t s r b n
    → RootHasPairs rule t s r b m → n ≡ m

-- and a root at a board is not without such a number
abbrev pub PairsAreSomeNumber : Type 0
PairsAreSomeNumber = (rule : RuleKind) (t : List Node) (s : Side) (r : Root) (b : Grid) → ¬ ((n : ℕ) → ¬ RootHasPairs rule t s r b n)
