-- Trees of moves, and which nodes of a table stand for one.
use Rattle.std.specs.Prelude.{◌≡◌, ℕ, true, not, ◌==◌, nat_le, nat_eq, List, [], ◌∷◌, ◌++◌, map, Option, slice_get}
use Rattle.std.specs.Prelude.{IsSomeAnd}
use Rattle.std.specs.List.{count_by, list_all, find, filter, filter_map}
use Rattle.std.specs.Option.{option_eq}
use Rattle.game_rules.specs.declared.Point.{Point}
use Rattle.strategy_graph.specs.declared.Reply.{Reply}
use Rattle.strategy_graph.specs.declared.Rest.TheVariants.{Nothing}
use Rattle.strategy_graph.specs.declared.Node.{Node}
use Rattle.strategy_graph.specs.Tables.{Answers, answers_of, answer, rest_node, is_winning}
use Rattle.strategy_graph.specs.Leads.{AtNode}

-- A tree of moves: an attack that wins at once, or an attack and a branch for each of some replies to it.
mutual
  pub data Tree : Type 0 where
    Leaf : (attack : Point) → Tree
    Fork : (attack : Point) (branches : Branches) → Tree

  -- no branch, or a reply, the tree that is played after it, and the other branches
  pub data Branches : Type 0 where
    NoBranch : Branches
    Branch : (reply : Point) (tree : Tree) (others : Branches) → Branches

-- the replies of the branches
abbrev pub replies_of : Branches → List Point
replies_of NoBranch = []
replies_of (Branch q s bs) = q ∷ replies_of bs

-- how often the number occurs in the list
abbrev pub times : ℕ → List ℕ → ℕ
times j js = count_by (λ k. k == j) js

-- the first number of the list than which none occurs more often, if it has a number
abbrev pub commonest : List ℕ → Option ℕ
commonest js = find (λ j. list_all (λ k. nat_le (times k js) (times j js)) js) js

-- the nodes that answer these replies
abbrev pub answers_to : Answers → List Point → List ℕ
answers_to a qs = filter_map (answer a) qs

-- The rest is the node that answers the most of these replies, and on a tie the one that answers the earliest of them; the
-- listed replies are exactly those with another answer.
pub record IsBrief (a : Answers) (qs : List Point) : Type 0 where
  pub rest_is_commonest : rest_node a.rest ≡ commonest (answers_to a qs)
  pub others_are_listed : map (λ r. r.at) a.replies ≡ filter (λ q. not (option_eq nat_eq (answer a q) (rest_node a.rest))) qs

-- the same, where a node with no replies to answer has the rest `Nothing` and lists none
abbrev pub AnswersBriefly : Answers → List Point → Type 0
AnswersBriefly a [] = (a.rest ≡ Nothing) × (a.replies ≡ [])
AnswersBriefly a (q ∷ qs) = IsBrief a (q ∷ qs)

-- Node i stands for the tree: its attack is the tree's, and it is a winning node if the tree is a winning leaf; else the
-- answer at each reply of the tree is a node that stands for the branch there, and it answers them briefly.
unfoldable mutual
  pub StandsFor : List Node → ℕ → Tree → Type 0
  StandsFor t i (Leaf p) = AtNode (slice_get t i) (λ n. (n.attack ≡ p) × (is_winning n.rest ≡ true))
  StandsFor t i (Fork p bs) =
      AtNode (slice_get t i) (λ n. (n.attack ≡ p) × AnswersBriefly (answers_of n) (replies_of bs) × StandsForAll t (answers_of n) bs)

  -- the answer at the reply of each branch is a node that stands for its tree
  pub StandsForAll : List Node → Answers → Branches → Type 0
  StandsForAll t a NoBranch = Unit {0}
  StandsForAll t a (Branch q s bs) = IsSomeAnd (answer a q) (λ j. StandsFor t j s) × StandsForAll t a bs

-- each of the given answers is to the reply of the branch at its place, and its node stands for the tree of that branch
abbrev pub AnswersBranches : List Node → List Reply → Branches → Type 0
AnswersBranches t [] NoBranch = Unit {0}
AnswersBranches t [] (Branch q s bs) = ⊥
AnswersBranches t (r ∷ rs) NoBranch = ⊥
AnswersBranches t (r ∷ rs) (Branch q s bs) = (r.at ≡ q) × StandsFor t r.next s × AnswersBranches t rs bs

-- a node stands for what it stood for however the table grows
abbrev pub GrowthKeepsTrees : Type 0
GrowthKeepsTrees = (t more : List Node) (i : ℕ) (tree : Tree) → StandsFor t i tree → StandsFor (t ++ more) i tree
