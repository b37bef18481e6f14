-- Nodes with other numbers in place of those that they name.
use Rattle.std.specs.Prelude.{ℕ, map}
use Rattle.strategy_graph.specs.declared.Reply.{Reply}
use Rattle.strategy_graph.specs.declared.Rest.{Rest}
use Rattle.strategy_graph.specs.declared.Rest.TheVariants.{Wins, To, Nothing}
use Rattle.strategy_graph.specs.declared.Node.{Node}
use Rattle.strategy_graph.specs.declared.roots.Root.{Root}
use Rattle.strategy_graph.specs.declared.roots.Root.TheVariants.{Attack, Defend}
use Rattle.strategy_graph.specs.Tables.{Answers}

-- the same rest, with the number f j in place of the node j that it names
abbrev pub renumbered_rest : (ℕ → ℕ) → Rest → Rest
renumbered_rest f Wins = Wins
renumbered_rest f (To j) = To (f j)
renumbered_rest f Nothing = Nothing

-- the same reply, with the number f j in place of the node j that answers it
abbrev pub renumbered_reply : (ℕ → ℕ) → Reply → Reply
renumbered_reply f r = record { at = r.at; next = f r.next }

-- the same answers, with the number f j in place of each node j that they name
abbrev pub renumbered_answers : (ℕ → ℕ) → Answers → Answers
renumbered_answers f a = record { replies = map (renumbered_reply f) a.replies; rest = renumbered_rest f a.rest }

-- the same node, with the number f j in place of each node j that it names
abbrev pub renumbered_node : (ℕ → ℕ) → Node → Node
renumbered_node f n = record { attack = n.attack; replies = map (renumbered_reply f) n.replies; rest = renumbered_rest f n.rest }

-- the root, with the number f j in place of each number j that it names
abbrev pub renumbered_root : (ℕ → ℕ) → Root → Root
renumbered_root f (Attack i) = Attack (f i)
renumbered_root f (Defend a) = Defend (renumbered_answers f a)
