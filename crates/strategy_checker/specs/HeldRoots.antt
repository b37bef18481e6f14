-- A table that is held with roots at which it is accepted.
use Rattle.std.specs.Prelude.{◌≡◌, ◌≤◌, true, List, length}
use Rattle.std.specs.List.{All}
use Rattle.game_rules.specs.Play.{IsPosition}
use Rattle.strategy_graph.specs.declared.Node.{Node}
use Rattle.strategy_graph.specs.Roots.{root_below, AcceptedRoot}
use Rattle.strategy_checker.specs.declared.held.HeldRoot.{HeldRoot}
use Rattle.strategy_checker.specs.declared.TheConstants.{MAX_ROOTS}

-- a table, and the roots that are held, in the order in which they were added
pub record HeldTable : Type 0 where
  pub table : List Node
  pub roots : List HeldRoot

-- a root that names nodes of the table alone, and is accepted at its board, a lawful position, under its rule
pub record IsHeldRoot (t : List Node) (r : HeldRoot) : Type 0 where
  pub lawful : IsPosition r.kind r.board
  pub below : root_below r.root (length t) ≡ true
  pub accepted : AcceptedRoot r.kind t r.root r.board

-- each root is accepted, and there are at most MAX_ROOTS
pub record IsHeld (h : HeldTable) : Type 0 where
  pub roots : All (IsHeldRoot h.table) h.roots
  pub few : length h.roots ≤ MAX_ROOTS
