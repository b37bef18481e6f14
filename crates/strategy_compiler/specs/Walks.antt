-- Walks over the nodes of a table: what nodes reach, the order in which walks complete nodes, and the table of a tree.
use Rattle.std.specs.Prelude.{◌≡◌, ◌↔◌, ℕ, zero, suc, ◌-◌, ◌<◌, ◌==◌, if◌then◌else◌, List, [], ◌∷◌, ◌++◌, map, fold, length, Bool, Contains}
use Rattle.std.specs.Prelude.{Some, option_to_list, slice_get}
use Rattle.std.specs.List.{list_any, position_or_len, range_with_len}
use Rattle.std.specs.Option.{option_map_or}
use Rattle.strategy_graph.specs.declared.Node.{Node}
use Rattle.strategy_graph.specs.Renumbered.{renumbered_node}
use Rattle.strategy_graph.specs.Tables.{Answers, answers_of, named, rest_node, NamesLower, IsTable}
use Rattle.strategy_compiler.specs.Trees.{Tree, StandsFor}

-- no two nodes are equal
pub record AreDifferent (t : List Node) : Type 0 where
  pub different : (i j : ℕ) (n : Node) → slice_get t i ≡ Some n → slice_get t j ≡ Some n → i ≡ j

-- node i reaches node k: it is that node, or names a node that reaches it
pub data Reaches (t : List Node) : ℕ → ℕ → Type 0 where
  Itself : (i : ℕ) → Reaches t i i
  Through : (i j k : ℕ) (n : Node) → slice_get t i ≡ Some n → Contains (named (answers_of n)) j → Reaches t j k → Reaches t i k

-- the nodes that the answers name, in the order of a walk: that of the rest first, then those listed, in order
abbrev pub visits : Answers → List ℕ
visits a = option_to_list (rest_node a.rest) ++ map (λ r. r.next) a.replies

-- the nodes that node i names, in the order of a walk
abbrev pub visits_at : List Node → ℕ → List ℕ
visits_at t i = option_map_or (λ n. visits (answers_of n)) (slice_get t i) []

-- whether the number is in the list
abbrev pub is_in_list : ℕ → List ℕ → Bool
is_in_list i js = list_any (λ j. j == i) js

-- The numbers of the nodes that are completed once a walk from node i ends, in the order of completion, where those of
-- `done` were before it and at most so many nodes follow one another. A node is completed once all that it names are.
unfoldable pub completed_within : ℕ → List Node → List ℕ → ℕ → List ℕ
completed_within zero t done i = done
completed_within (suc f) t done i = if is_in_list i done then done else fold (completed_within f t) done (visits_at t i) ++ i ∷ []

-- the numbers of the nodes that are completed once a walk from node i ends, where those of `done` were before it
unfoldable pub completed_after : List Node → List ℕ → ℕ → List ℕ
completed_after t done i = completed_within (suc i) t done i

-- the nodes that these nodes reach, in the order in which walks from them, one after the other, complete them
abbrev pub completed_from : List Node → List ℕ → List ℕ
completed_from t roots = fold (completed_after t) [] roots

-- The nodes that node i reaches, in the order in which a walk from it completes them. Each node names only lower ones, so no
-- more than i + 1 follow one another.
abbrev pub completed : List Node → ℕ → List ℕ
completed t i = completed_within (suc i) t [] i

-- the place of the number in the list
abbrev pub place_in : List ℕ → ℕ → ℕ
place_in js i = position_or_len (λ j. j == i) js

-- table u has the nodes of t with these numbers in this order, and for each number that a node names its place among them
pub record Renumbers (t : List Node) (order : List ℕ) (u : List Node) : Type 0 where
  pub count : length u ≡ length order
  pub each : (k i : ℕ) → slice_get order k ≡ Some i → (n : Node) × (slice_get t i ≡ Some n)
      × (slice_get u k ≡ Some (renumbered_node (place_in order) n))

-- the number of the last node
abbrev pub last : List Node → ℕ
last t = length t - 1

-- the last node reaches each node, and a walk from it completes them in the order of their numbers
abbrev pub IsNumberedByWalk : List Node → Type 0
IsNumberedByWalk t = completed t (last t) ≡ range_with_len 0 (length t)

-- The table of the tree: its last node stands for the tree, no two nodes are equal, and the nodes are all those that the last
-- one reaches, numbered as a walk from it completes them.
pub record IsTableOf (tree : Tree) (t : List Node) : Type 0 where
  pub table : IsTable t
  pub stands : StandsFor t (last t) tree
  pub different : AreDifferent t
  pub numbered : IsNumberedByWalk t

-- a tree has one table
abbrev pub TreeHasOneTable : Type 0
TreeHasOneTable = (tree : Tree) (t u : List Node) → IsTableOf tree t → IsTableOf tree u → t ≡ u

-- one of these nodes reaches node k
abbrev pub ReachedFrom : List Node → List ℕ → ℕ → Type 0
ReachedFrom t roots k = (i : ℕ) × Contains roots i × Reaches t i k

-- the node names the points of one that the root reaches in t
abbrev pub NamesPointsReached : List Node → ℕ → Node → Type 0
NamesPointsReached t root m =
    (i : ℕ) × (n : Node) × Reaches t root i × (slice_get t i ≡ Some n) × (m.attack ≡ n.attack)
    × (map (λ r. r.at) m.replies ≡ map (λ r. r.at) n.replies)

-- the node names the points of one that one of the roots reaches in t
abbrev pub NamesPointsFrom : List Node → List ℕ → Node → Type 0
NamesPointsFrom t roots m =
    (i : ℕ) × (n : Node) × ReachedFrom t roots i × (slice_get t i ≡ Some n) × (m.attack ≡ n.attack)
    × (map (λ r. r.at) m.replies ≡ map (λ r. r.at) n.replies)

-- a node reaches the same nodes however the table grows
abbrev pub GrowthKeepsReach : Type 0
GrowthKeepsReach = (t more : List Node) → NamesLower t → (i k : ℕ) → i < length t → Reaches (t ++ more) i k ↔ Reaches t i k
