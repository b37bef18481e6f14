-- What a call that writes nodes did to a compiler.
use Rattle.std.specs.Prelude.{◌≡◌, ℕ, ◌+◌, ◌<◌, ◌≤◌, List, ◌++◌, length, Result, OnOk, IsErrOf}
use Rattle.strategy_graph.specs.declared.Node.{Node}
use Rattle.strategy_graph.specs.declared.TheConstants.{MAX_NODES}
use Rattle.strategy_compiler.specs.declared.error.SearchError.{SearchError}
use Rattle.strategy_compiler.specs.declared.error.SearchError.TheVariants.{Full}
use Rattle.strategy_compiler.specs.Nodes.{IsCompiled}

-- the nodes stay, and at most so many are added at the end
pub record GrowsBy (old new : List Node) (count : ℕ) : Type 0 where
  pub added : List Node
  pub is : new ≡ old ++ added
  pub few : length added ≤ count

-- What was written by a call that may need so many new nodes: the nodes stay, those added before a refusal too, and no more are
-- added, whatever the answer. It is `Full` only where so many don't fit, and the compiler is full then.
pub record Writes {A : Type 0} (old new : List Node) (most : ℕ) (result : Result A SearchError) : Type 0 where
  pub grows : GrowsBy old new most
  pub compiled : OnOk result (IsCompiled new)
  pub full : IsErrOf result Full → MAX_NODES < length old + most
  pub full_now : IsErrOf result Full → length new ≡ MAX_NODES
