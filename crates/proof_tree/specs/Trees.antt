-- Trees of proof numbers: how the nodes are joined, what holds of their numbers, the walk to the most-proving leaf, and growth.
use Rattle.std.specs.Prelude.{◌≡◌, ℕ, zero, suc, ◌+◌, ◌<◌, ◌≤◌, false, if◌then◌else◌, nat_eq, List, [], ◌∷◌, ◌++◌, length, take, drop}
use Rattle.std.specs.Prelude.{replicate}
use Rattle.std.specs.Prelude.{slice_index_or, slice_set}
use Rattle.std.specs.List.{position_or_len}
use Rattle.proof_tree.specs.declared.TheConstants.{INFINITE}
use Rattle.proof_tree.specs.declared.Kind.{Kind}
use Rattle.proof_tree.specs.declared.Kind.TheVariants.{Attack}
use Rattle.proof_tree.specs.declared.Numbers.{Numbers}
use Rattle.proof_tree.specs.declared.Link.{Link}
use Rattle.proof_tree.specs.Combining.{AreNumbers, combined, no_numbers, finite, is_settled, other_kind, sought}

-- a tree: how each node is joined to the others, and each node's numbers
pub record Tree : Type 0 where
  pub links : List Link
  pub numbers : List Numbers

-- the link of a leaf of this kind below this parent
abbrev pub leaf_link : Kind → ℕ → Link
leaf_link kind parent = record { kind = kind; parent = parent; first = 0; count = 0 }

-- the link of node i
abbrev pub link_at : List Link → ℕ → Link
link_at links i = slice_index_or links i (leaf_link Attack 0)

-- the numbers of node i
abbrev pub numbers_at : List Numbers → ℕ → Numbers
numbers_at numbers i = slice_index_or numbers i no_numbers

-- the numbers of the children of a node with this link
abbrev pub children_of : Link → List Numbers → List Numbers
children_of link numbers = take link.count (drop link.first numbers)

-- node j is a child of a node with this link
pub record IsChild (link : Link) (j : ℕ) : Type 0 where
  pub from_first : link.first ≤ j
  pub below_end : j < link.first + link.count

-- The links make a tree. Node 0 is its root, an attacker's. The children of a node come after it and are of the other kind, and
-- each node but the root is a child of its parent.
pub record IsLinked (links : List Link) : Type 0 where
  pub some : 0 < length links
  pub root_attacks : (link_at links 0).kind ≡ Attack
  pub root_parent : (link_at links 0).parent ≡ 0
  pub later : (i : ℕ) → i < length links → 0 < (link_at links i).count → i < (link_at links i).first
  pub within : (i : ℕ) → i < length links → (link_at links i).first + (link_at links i).count ≤ length links
  pub parents : (i j : ℕ) → i < length links → IsChild (link_at links i) j → (link_at links j).parent ≡ i
  pub kinds : (i j : ℕ) → i < length links → IsChild (link_at links i) j → (link_at links j).kind ≡ other_kind (link_at links i).kind
  pub children : (j : ℕ) → 0 < j → j < length links → IsChild (link_at links (link_at links j).parent) j
  pub parent_first : (j : ℕ) → 0 < j → j < length links → (link_at links j).parent < j

-- the sum over all leaves of the numbers below infinity that this kind seeks: of the attacker the proof numbers, of the defender
-- the disproof numbers
abbrev pub leaf_sum : Kind → List Link → List Numbers → ℕ
leaf_sum kind [] numbers = 0
leaf_sum kind (l ∷ links) [] = 0
leaf_sum kind (l ∷ links) (n ∷ numbers) = (if nat_eq l.count 0 then finite (sought kind n) else 0) + leaf_sum kind links numbers

-- a node with children has minimum and sum of their numbers
abbrev pub IsCombinedAt : List Link → List Numbers → ℕ → Type 0
IsCombinedAt links numbers i = 0 < (link_at links i).count
    → numbers_at numbers i ≡ combined (link_at links i).kind (children_of (link_at links i) numbers)

-- The nodes have numbers. Each is settled or open, those with children have minimum and sum of the children's, and those of all
-- leaves together are below infinity.
pub record IsNumbered (links : List Link) (numbers : List Numbers) : Type 0 where
  pub count : length numbers ≡ length links
  pub each : (i : ℕ) → i < length links → AreNumbers (numbers_at numbers i)
  pub combined_at : (i : ℕ) → i < length links → IsCombinedAt links numbers i
  pub sums : (kind : Kind) → leaf_sum kind links numbers < INFINITE

-- what holds of every tree
pub record IsTree (t : Tree) : Type 0 where
  pub linked : IsLinked t.links
  pub numbered : IsNumbered t.links t.numbers
  pub short : length t.links ≤ INFINITE

-- the first child of node i that has the node's minimum
abbrev pub chosen : Tree → ℕ → ℕ
chosen t i =
    (link_at t.links i).first
    + position_or_len (λ n. nat_eq (sought (link_at t.links i).kind n) (sought (link_at t.links i).kind (numbers_at t.numbers i)))
    (children_of (link_at t.links i) t.numbers)

-- where a walk of at most so many steps from node i ends: each goes to the first child with the node's minimum
abbrev pub walk_end : ℕ → Tree → ℕ → ℕ
walk_end zero t i = i
walk_end (suc steps) t i = if nat_eq (link_at t.links i).count 0 then i else walk_end steps t (chosen t i)

-- the leaf to which the walk leads from the root; no walk has more steps than there are nodes
abbrev pub most_proving : Tree → ℕ
most_proving t = walk_end (length t.links) t 0

-- the node that is so many steps above node i; above the root is the root
abbrev pub ancestor : List Link → ℕ → ℕ → ℕ
ancestor links zero i = i
ancestor links (suc steps) i = (link_at links (ancestor links steps i)).parent

-- node j is node i, or one above it
abbrev pub IsOnWayUp : List Link → ℕ → ℕ → Type 0
IsOnWayUp links i j = (steps : ℕ) × (ancestor links steps i ≡ j)

-- neither node i nor one above it is settled
abbrev pub IsAlive : Tree → ℕ → Type 0
IsAlive t i = (j : ℕ) → IsOnWayUp t.links i j → is_settled (numbers_at t.numbers j) ≡ false

-- all nodes but i and those above it have the numbers that they had
abbrev pub OthersStay : List Link → ℕ → List Numbers → List Numbers → Type 0
OthersStay links i old new = (j : ℕ) → (IsOnWayUp links i j → ⊥) → numbers_at new j ≡ numbers_at old j

-- the links after leaf i is given so many children
abbrev pub grown_links : List Link → ℕ → ℕ → List Link
grown_links links i count =
    slice_set links i (record { kind = (link_at links i).kind; parent = (link_at links i).parent; first = length links; count = count })
    ++ replicate count (leaf_link (other_kind (link_at links i).kind) i)
