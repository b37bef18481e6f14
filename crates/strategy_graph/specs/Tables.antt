-- Tables of answers: what a node names, the answer to a reply, and depths.
use Rattle.std.specs.Prelude.{◌≡◌, ℕ, zero, suc, ◌≤◌, ◌<◌, max, Bool, true, false, ◌&&◌, nat_lt, List, [], ◌∷◌, ◌++◌, map}
use Rattle.std.specs.Prelude.{length, Option, Some, None, option_to_list, slice_get, slice_index}
use Rattle.std.specs.List.{list_all, find, AllByRecursion}
use Rattle.std.specs.Option.{option_map, option_map_or, option_or, option_and_then}
use Rattle.game_rules.specs.Grid.{Grid, is_on}
use Rattle.game_rules.specs.Shapes.{is_same_point}
use Rattle.game_rules.specs.Points.{precedes}
use Rattle.game_rules.specs.declared.Point.{Point}
use Rattle.strategy_graph.specs.declared.Reply.{Reply}
use Rattle.strategy_graph.specs.declared.Rest.{Rest}
use Rattle.strategy_graph.specs.declared.Rest.TheVariants.{Wins, To}
use Rattle.strategy_graph.specs.declared.Node.{Node}
use Rattle.strategy_graph.specs.declared.TheConstants.{MAX_NODES}

-- replies, each with the node that answers it, and what answers the others: the answers of a node, and a start
pub record Answers : Type 0 where
  pub replies : List Reply
  pub rest : Rest

-- the answers of a node
abbrev pub answers_of : Node → Answers
answers_of n = record { replies = n.replies; rest = n.rest }

-- the node that a rest names, if it names one
abbrev pub rest_node : Rest → Option ℕ
rest_node (To j) = Some j
rest_node r = None

-- the node that is listed for the reply q, if one is
abbrev pub listed_node : List Reply → Point → Option ℕ
listed_node rs q = option_map (λ r. r.next) (find (λ r. is_same_point r.at q) rs)

-- the answer to the reply q: the node that is listed for it, else the one of the rest, else nothing
abbrev pub answer : Answers → Point → Option ℕ
answer a q = option_or (listed_node a.replies q) (rest_node a.rest)

-- the answer of node i to the reply q, if there is such a node and it has one
abbrev pub answer_at : List Node → ℕ → Point → Option ℕ
answer_at t i q = option_and_then (λ n. answer (answers_of n) q) (slice_get t i)

-- whether the rest is that of a winning node
abbrev pub is_winning : Rest → Bool
is_winning Wins = true
is_winning r = false

-- the nodes that the answers name: those listed, and that of the rest
abbrev pub named : Answers → List ℕ
named a = map (λ r. r.next) a.replies ++ option_to_list (rest_node a.rest)

-- whether each node that the answers name is below k
abbrev pub names_below : Answers → ℕ → Bool
names_below a k = list_all (λ j. nat_lt j k) (named a)

-- whether the node names only nodes of the table
abbrev pub names_nodes_of : List Node → Node → Bool
names_nodes_of t n = names_below (answers_of n) (length t)

-- whether the replies rise strictly in reading order: each comes before all later ones
abbrev pub is_rising : List Reply → Bool
is_rising [] = true
is_rising (r ∷ rs) = list_all (λ s. precedes r.at s.at) rs && is_rising rs

-- each node names only lower nodes
pub record NamesLower (t : List Node) : Type 0 where
  pub lower : (i : ℕ) (n : Node) → slice_get t i ≡ Some n → names_below (answers_of n) i ≡ true

-- node i of a table: it names only lower nodes, its replies rise strictly, and it lists none if it is a winning node
pub record IsNode (n : Node) (i : ℕ) : Type 0 where
  pub below : names_below (answers_of n) i ≡ true
  pub rising : is_rising n.replies ≡ true
  pub winning : is_winning n.rest ≡ true → n.replies ≡ []

-- a table: each of its nodes is one of a table, and there are at most MAX_NODES
pub record IsTable (t : List Node) : Type 0 where
  pub nodes : (i : ℕ) (n : Node) → slice_get t i ≡ Some n → IsNode n i
  pub size : length t ≤ MAX_NODES

-- a start: its rest is not that of a winning node, and its replies rise strictly
pub record IsStart (a : Answers) : Type 0 where
  pub not_winning : is_winning a.rest ≡ false
  pub rising : is_rising a.replies ≡ true

-- each reply that is listed is on the board
abbrev pub RepliesOn : Grid → List Reply → Type 0
RepliesOn b rs = AllByRecursion (λ r. is_on b r.at ≡ true) rs

-- the node names points of the board alone: its attack and the replies that it lists are on it
pub record NamesOnBoard (b : Grid) (n : Node) : Type 0 where
  pub attack : is_on b n.attack ≡ true
  pub replies : RepliesOn b n.replies

-- each node of the table names points of the board alone
abbrev pub TableOnBoard : Grid → List Node → Type 0
TableOnBoard b t = AllByRecursion (NamesOnBoard b) t

-- the greatest of the numbers, or 0 if there are none
abbrev pub greatest : List ℕ → ℕ
greatest [] = 0
greatest (x ∷ xs) = max x (greatest xs)

-- the depth of node i, where at most so many nodes follow one another
unfoldable pub depth_within : ℕ → List Node → ℕ → ℕ
depth_within zero t i = 0
depth_within (suc f) t i = option_map_or (λ n. suc (greatest (map (depth_within f t) (named (answers_of n))))) (slice_get t i) 0

-- The depth of node i: 1 if it names no node, else 1 more than the greatest depth of those that it names. Each node
-- names only lower ones, so no more than i + 1 nodes follow one another from node i.
abbrev pub depth : List Node → ℕ → ℕ
depth t i = depth_within (suc i) t i

-- the depth of a start: the greatest depth of the nodes that it names, or 0 if it names none
abbrev pub start_depth : List Node → Answers → ℕ
start_depth t a = greatest (map (depth t) (named a))

-- the depths of the nodes of the table, in the order of the nodes
pub record AreDepths (t : List Node) (depths : List ℕ) : Type 0 where
  pub count : length depths ≡ length t
  pub each : (i : ℕ) → i < length t → slice_index depths i ≡ depth t i

-- a table, and the depths of its nodes
pub record IsTableWithDepths (t : List Node) (depths : List ℕ) : Type 0 where
  pub table : IsTable t
  pub counted : AreDepths t depths
