-- What becomes of the nodes of a table that a compiler adopts one after the other.
use Rattle.std.specs.Prelude.{◌≡◌, ℕ, suc, ◌<◌, ◌≤◌, List, [], ◌∷◌, length, Some, slice_get, slice_index}
use Rattle.game_rules.specs.Grid.{Grid}
use Rattle.strategy_graph.specs.declared.Node.{Node}
use Rattle.strategy_graph.specs.Renumbered.{renumbered_node}
use Rattle.strategy_graph.specs.Tables.{TableOnBoard}
use Rattle.strategy_compiler.specs.Growth.{GrowsBy}
use Rattle.strategy_compiler.specs.Nodes.{IsCompiled}
use Rattle.strategy_compiler.specs.Unfolded.{Unfolded, IsHeld}

-- The list has the number in u of each node of t: that of the node with these numbers in place of those that it names. A number
-- that is not one of the old nodes, and the next, have their first places in this order.
pub record AreNumbers (old t u : List Node) (numbers : List ℕ) : Type 0 where
  pub count : length numbers ≡ length t
  pub each : (i : ℕ) (n : Node) → slice_get t i ≡ Some n
      → slice_get u (slice_index numbers i) ≡ Some (renumbered_node (λ j. slice_index numbers j) n)
  pub in_order : (k q : ℕ) → length old ≤ k → q < length t → slice_index numbers q ≡ suc k → (p : ℕ) × (p < q) × (slice_index numbers p ≡ k)

-- Nodes of t are adopted, all of them or those before a refusal: the old nodes stay, with their numbers, and no more are added than t
-- has. Those after them are nodes of t, and name points of a board where the old ones and those of t do.
pub record Adopts (old t new : List Node) : Type 0 where
  pub compiled : IsCompiled new
  pub grows : GrowsBy old new (length t)
  pub held : (w : Unfolded) → IsHeld (new ∷ []) w → IsHeld (old ∷ t ∷ []) w
  pub on_board : (b : Grid) → TableOnBoard b old → TableOnBoard b t → TableOnBoard b new
