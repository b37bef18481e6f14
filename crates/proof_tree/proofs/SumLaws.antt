-- How the sum over the leaves goes on when a leaf gets children: its own number goes, and theirs come.
use Rattle.std.proofs.Common.{◌≡◌, ℕ, zero, suc, ◌+◌, ◌<◌, List, [], ◌∷◌, ◌++◌, map, length, replicate, set, refl, arith}
use Rattle.std.proofs.Common.{◌⊎◌, ◌≤◌, nat_eq, true, All, rules}
use Rattle.std.proofs.lemmas.Bool.{eq-eqb, ne_eqb}
use Rattle.std.proofs.lemmas.List.{length-set}
use Rattle.std.proofs.lemmas.List.Elements.{All-head, All-tail, All-weaker}
use Rattle.proof_tree.specs.declared.Kind.{Kind}
use Rattle.proof_tree.specs.declared.Numbers.{Numbers}
use Rattle.proof_tree.specs.declared.Link.{Link}
use Rattle.proof_tree.proofs.Common.{finite, finite_sum, sought, settled_numbers, AreNumbers, grown_links}
use Rattle.proof_tree.proofs.Common.{leaf_link, leaf_sum, link_at, numbers_at, IsTree, Tree, most_proving}

leaf_sum-append : (kind : Kind) (links more : List Link) (numbers ns : List Numbers) → length numbers ≡ length links
    → leaf_sum kind (links ++ more) (numbers ++ ns) ≡ leaf_sum kind links numbers + leaf_sum kind more ns
leaf_sum-append kind [] more [] ns s = omega arith
leaf_sum-append kind [] more (n ∷ numbers) ns s = absurd (omega arith)
leaf_sum-append kind (l ∷ links) more [] ns s = absurd (omega arith)
leaf_sum-append kind (l ∷ links) more (n ∷ numbers) ns s = omega (arith, leaf_sum-append kind links more numbers ns (omega arith))

leaf_sum-leaves : (kind k : Kind) (parent : ℕ) (ns : List Numbers)
    → leaf_sum kind (replicate (length ns) (leaf_link k parent)) ns ≡ finite_sum (map (sought kind) ns)
leaf_sum-leaves kind k parent [] = refl
leaf_sum-leaves kind k parent (n ∷ ns) = omega (arith, leaf_sum-leaves kind k parent ns)

leaf_sum-inner : (kind : Kind) (links : List Link) (numbers : List Numbers) (i : ℕ) (l : Link) → length numbers ≡ length links
    → i < length links → (link_at links i).count ≡ 0 → 0 < l.count
    → leaf_sum kind (set links i l) numbers + finite (sought kind (numbers_at numbers i)) ≡ leaf_sum kind links numbers
leaf_sum-inner kind [] numbers i l s h z b = absurd (omega arith)
leaf_sum-inner kind (k ∷ links) [] i l s h z b = absurd (omega arith)
leaf_sum-inner kind (k ∷ links) (n ∷ numbers) zero l s h z b = search (rules, eq-eqb, ne_eqb)
leaf_sum-inner kind (k ∷ links) (n ∷ numbers) (suc i) l s h z b =
    omega (arith, leaf_sum-inner kind links numbers i l (omega arith) (omega arith) z b)

-- a number that is written at a leaf takes the place of the old one in the sum
pub leaf_sum-moved : (kind : Kind) (links : List Link) (numbers : List Numbers) (i : ℕ) (x : Numbers) → length numbers ≡ length links
    → i < length links → (link_at links i).count ≡ 0
    → leaf_sum kind links (set numbers i x) + finite (sought kind (numbers_at numbers i)) ≡ leaf_sum kind links numbers + finite
    (sought kind x)
leaf_sum-moved kind [] numbers i x s h z = absurd (omega arith)
leaf_sum-moved kind (k ∷ links) [] i x s h z = absurd (omega arith)
leaf_sum-moved kind (k ∷ links) (n ∷ numbers) zero x s h z =
    let none : nat_eq k.count 0 ≡ true = eq-eqb k.count 0 z in rw none (omega arith)
leaf_sum-moved kind (k ∷ links) (n ∷ numbers) (suc i) x s h z =
    omega (arith, leaf_sum-moved kind links numbers i x (omega arith) (omega arith) z)

-- after leaf i is given children, its own number counts no longer in the sum over the leaves, and those of the children do
pub leaf_sum-grown : (kind : Kind) (links : List Link) (numbers more : List Numbers) (i : ℕ) → length numbers ≡ length links
    → i < length links → (link_at links i).count ≡ 0 → 0 < length more
    → leaf_sum kind (grown_links links i (length more)) (numbers ++ more) + finite (sought kind (numbers_at numbers i)) ≡ leaf_sum kind
    links numbers + finite_sum (map (sought kind) more)
leaf_sum-grown kind links numbers more i s h z b = search (rules, leaf_sum-append, length-set, leaf_sum-leaves, leaf_sum-inner)

module _ (t : Tree) (ok : IsTree t) (one : length t.links ≡ 1) where
  pub lone-childless : (link_at t.links 0).count ≡ 0
  lone-childless = search rules

  -- the root is the most-proving leaf
  pub lone-leaf : 0 ≡ most_proving t
  lone-leaf = search (rules, eq-eqb, lone-childless)

-- the numbers of a tree of one leaf
pub one-leaf : (kind : Kind) (links : List Link) (numbers : List Numbers) → length links ≡ 1 → length numbers ≡ 1
    → (link_at links 0).count ≡ 0 → leaf_sum kind links numbers ≡ finite (sought kind (numbers_at numbers 0))
one-leaf kind [] numbers a b none = absurd (omega arith)
one-leaf kind (l ∷ links) [] a b none = absurd (omega arith)
one-leaf kind (l ∷ k ∷ links) (n ∷ numbers) a b none = absurd (omega arith)
one-leaf kind (l ∷ []) (n ∷ m ∷ numbers) a b none = absurd (omega arith)
one-leaf kind (l ∷ []) (n ∷ []) a b none = let t : nat_eq l.count 0 ≡ true = eq-eqb l.count 0 none in rw t (omega arith)

-- the numbers of a new child: nothing is known of it, or it is proved
abbrev pub IsFresh : Numbers → Type 0
IsFresh n = (n ≡ record { proof = 1; disproof = 1 }) ⊎ (n ≡ settled_numbers true)

fresh-low : (kind : Kind) (n : Numbers) → IsFresh n → finite (sought kind n) ≤ 1
fresh-low kind n h = search rules

-- the numbers that either player seeks add up to no more than there are children
pub fresh-sum : (kind : Kind) (more : List Numbers) → All IsFresh more → finite_sum (map (sought kind) more) ≤ length more
fresh-sum kind [] h = omega arith
fresh-sum kind (n ∷ more) h = search (rules, fresh-low, All-head, All-tail, fresh-sum kind more (All-tail IsFresh n more h))

fresh-are : (n : Numbers) → IsFresh n → AreNumbers n
fresh-are n h = search rules

pub fresh-numbers : (more : List Numbers) → All IsFresh more → All AreNumbers more
fresh-numbers more h = All-weaker IsFresh AreNumbers fresh-are more h
