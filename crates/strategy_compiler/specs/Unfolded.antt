-- Nodes unfolded: each node that they name stands in the place of its number. So two nodes, of one table or of two, are the same
-- where they unfold to the same.
use Rattle.std.specs.Prelude.{◌≡◌, ℕ, zero, suc, ◌<◌, List, [], ◌∷◌, length, map, All, Contains, Option, Some, None, slice_get}
use Rattle.std.specs.List.{range_with_len}
use Rattle.game_rules.specs.declared.Point.{Point}
use Rattle.strategy_graph.specs.declared.Reply.{Reply}
use Rattle.strategy_graph.specs.declared.Rest.{Rest}
use Rattle.strategy_graph.specs.declared.Rest.TheVariants.{Wins, To, Nothing}
use Rattle.strategy_graph.specs.declared.Node.{Node}
use Rattle.strategy_graph.specs.Tables.{NamesLower}
use Rattle.strategy_compiler.specs.Walks.{AreDifferent}

mutual
  -- no node, or an attack, the replies that are listed, and what answers the others
  pub data Unfolded : Type 0 where
    NoNode : Unfolded
    Plays : (attack : Point) (replies : UnfoldedReplies) (rest : UnfoldedRest) → Unfolded

  -- no reply, or a reply, the node that answers it, and the other replies
  pub data UnfoldedReplies : Type 0 where
    NoReply : UnfoldedReplies
    Answers : (reply : Point) (node : Unfolded) (others : UnfoldedReplies) → UnfoldedReplies

  -- the three kinds of rest: that of a winning node, a node, or nothing
  pub data UnfoldedRest : Type 0 where
    WinsNow : UnfoldedRest
    Goes : (node : Unfolded) → UnfoldedRest
    Ends : UnfoldedRest

-- the replies, with these nodes in place of their numbers
abbrev pub unfolded_replies : (ℕ → Unfolded) → List Reply → UnfoldedReplies
unfolded_replies at [] = NoReply
unfolded_replies at (r ∷ rs) = Answers r.at (at r.next) (unfolded_replies at rs)

-- the rest, with one of these nodes in place of its number
abbrev pub unfolded_rest : (ℕ → Unfolded) → Rest → UnfoldedRest
unfolded_rest at Wins = WinsNow
unfolded_rest at (To j) = Goes (at j)
unfolded_rest at Nothing = Ends

-- the node, with these nodes in place of the numbers that it names
abbrev pub unfolded_node : (ℕ → Unfolded) → Option Node → Unfolded
unfolded_node at None = NoNode
unfolded_node at (Some n) = Plays n.attack (unfolded_replies at n.replies) (unfolded_rest at n.rest)

-- node i unfolded, where at most so many nodes follow one another
unfoldable pub unfolded_within : ℕ → List Node → ℕ → Unfolded
unfolded_within zero t i = NoNode
unfolded_within (suc f) t i = unfolded_node (unfolded_within f t) (slice_get t i)

-- Node i unfolded: its attack, the replies that it lists, each with the node that answers it unfolded, and its rest, with the node
-- of it unfolded. Each node names only lower ones, so no more than i + 1 follow one another.
abbrev pub unfolded : List Node → ℕ → Unfolded
unfolded t i = unfolded_within (suc i) t i

-- the nodes of a table unfolded, in the order of their numbers
abbrev pub unfolded_nodes : List Node → List Unfolded
unfolded_nodes t = map (unfolded t) (range_with_len 0 (length t))

-- in a table with no two equal nodes no two nodes are the same
abbrev pub DifferentNodesAreApart : Type 0
DifferentNodesAreApart =
    (t : List Node) → NamesLower t → AreDifferent t → (i j : ℕ) → i < length t → j < length t → unfolded t i ≡ unfolded t j → i ≡ j

-- one of the tables has a node that is the same as this
abbrev pub IsHeld : List (List Node) → Unfolded → Type 0
IsHeld tables w = (t : List Node) × (i : ℕ) × Contains tables t × (i < length t) × (unfolded t i ≡ w)

-- The tables together hold more different nodes than this: two nodes are the same if attack, kind of rest and listed replies agree
-- and the nodes that they name are the same.
pub record HoldMore (tables : List (List Node)) (most : ℕ) : Type 0 where
  pub nodes : List Unfolded
  pub more : most < length nodes
  pub different : (i j : ℕ) (w : Unfolded) → slice_get nodes i ≡ Some w → slice_get nodes j ≡ Some w → i ≡ j
  pub held : All (IsHeld tables) nodes
