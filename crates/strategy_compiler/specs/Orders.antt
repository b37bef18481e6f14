-- Orders of nodes on the way to a table, and what is made of the nodes that some roots reach.
use Rattle.std.specs.Prelude.{◌≡◌, ℕ, ◌+◌, ◌<◌, ◌≤◌, if◌then◌else◌, List, map, length, take, Bool, true, false, All, Contains, Some}
use Rattle.std.specs.Prelude.{slice_get, slice_index, slice_index_or}
use Rattle.std.specs.List.{sum_by, range_with_len}
use Rattle.game_rules.specs.declared.Point.{Point}
use Rattle.strategy_graph.specs.declared.Node.{Node}
use Rattle.strategy_graph.specs.Tables.{Answers, answers_of, named, IsTable}
use Rattle.strategy_graph.specs.Renumbered.{renumbered_answers}
use Rattle.strategy_graph.specs.Laws.{SaysSame, StartSaysSame}
use Rattle.strategy_compiler.specs.Trees.{AnswersBriefly, Branches, Tree, StandsFor, StandsForAll}
use Rattle.strategy_compiler.specs.Walks.{AreDifferent, NamesPointsFrom, ReachedFrom, Renumbers, completed_from, is_in_list, place_in}

-- an order of nodes of a table: each comes once, and comes after all that it names
pub record IsOrder (t : List Node) (order : List ℕ) : Type 0 where
  pub within : (k i : ℕ) → slice_get order k ≡ Some i → i < length t
  pub once : (k l i : ℕ) → slice_get order k ≡ Some i → slice_get order l ≡ Some i → k ≡ l
  pub after_named : (k i j : ℕ) (n : Node) → slice_get order k ≡ Some i → slice_get t i ≡ Some n → Contains (named (answers_of n)) j
      → is_in_list j (take k order) ≡ true
  pub short : length order ≤ length t

-- each flag tells whether its number is in the list
pub record Flags (flags : List Bool) (order : List ℕ) : Type 0 where
  pub flagged : (j : ℕ) → slice_index_or flags j false ≡ is_in_list j order

-- how many flags are not set
abbrev pub unset : List Bool → ℕ
unset flags = sum_by (λ b. if b then 0 else 1) flags

-- between two walks: the nodes that are completed are in order, and have their flags
pub record IsBetween (t : List Node) (order : List ℕ) (flags : List Bool) : Type 0 where
  pub order_is : IsOrder t order
  pub sized : length flags ≡ length t
  pub flags_are : Flags flags order
  pub counted : length order + unset flags ≡ length t

-- for each number of the order the list has its place there
pub record ArePlaces (order places : List ℕ) : Type 0 where
  pub placed : (k i : ℕ) → slice_get order k ≡ Some i → slice_index places i ≡ k

-- node j of table u is made of node i of t: it says the same, and stands for the same trees
pub record IsMadeOf (t : List Node) (i : ℕ) (u : List Node) (j : ℕ) : Type 0 where
  pub inside : j < length u
  pub same : SaysSame t i u j
  pub trees : (tree : Tree) → StandsFor t i tree → StandsFor u j tree

-- Table u is made of the nodes that the roots reach in t, in the order in which walks from the roots complete them. Each root
-- is at its place in this order, and a start that names roots alone says the same with their places, stands for the same branches,
-- and answers as briefly.
pub record IsMadeFrom (t : List Node) (roots order : List ℕ) (u : List Node) : Type 0 where
  pub table : IsTable u
  pub nodes : Renumbers t order u
  pub few : length u ≤ length t
  pub different : AreDifferent u
  pub each_root : (i : ℕ) → Contains roots i → IsMadeOf t i u (place_in order i)
  pub each_start : (a : Answers) → ((j : ℕ) → Contains (named a) j → Contains roots j)
      → StartSaysSame t a u (renumbered_answers (place_in order) a)
  pub branches : (a : Answers) (bs : Branches) → ((j : ℕ) → Contains (named a) j → Contains roots j) → StandsForAll t a bs
      → StandsForAll u (renumbered_answers (place_in order) a) bs
  pub brief : (a : Answers) (qs : List Point) → ((j : ℕ) → Contains (named a) j → Contains roots j) → AnswersBriefly a qs
      → AnswersBriefly (renumbered_answers (place_in order) a) qs
  pub reached : (k : ℕ) → k < length u → ReachedFrom u (map (place_in order) roots) k
  pub numbered : completed_from u (map (place_in order) roots) ≡ range_with_len 0 (length u)
  pub points : All (NamesPointsFrom t roots) u
