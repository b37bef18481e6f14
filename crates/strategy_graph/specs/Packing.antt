-- Nodes in one list, and the replies of all of them in another.
use Rattle.std.specs.Prelude.{◌≡◌, ℕ, zero, suc, ◌≤◌, List, [], ◌∷◌, slice_range}
use Rattle.strategy_graph.specs.declared.Node.{Node}
use Rattle.strategy_graph.specs.declared.Reply.{Reply}
use Rattle.strategy_graph.specs.declared.packing.Packed.{Packed}

-- the nodes, where the replies of the first begin at `start`, and those of each other where those of the one before it end
abbrev pub nodes_from : ℕ → List Packed → List Reply → List Node
nodes_from start [] rs = []
nodes_from start (p ∷ ps) rs = record { attack = p.attack; replies = slice_range rs start p.end; rest = p.rest } ∷ nodes_from p.end ps rs

-- where the replies of node i begin
abbrev pub start_at : ℕ → List Packed → ℕ → ℕ
start_at start [] i = start
start_at start (p ∷ ps) zero = start
start_at start (p ∷ ps) (suc i) = start_at p.end ps i

-- the replies of each node end behind where they begin, and those of the last end at n
abbrev pub AreEnds : ℕ → List Packed → ℕ → Type 0
AreEnds start [] n = start ≡ n
AreEnds start (p ∷ ps) n = (start ≤ p.end) × AreEnds p.end ps n
