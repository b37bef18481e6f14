-- The numbers of the children of a node add up to no more than those of all leaves: a front of nodes is moved down the tree, from
-- the root's to the leaves, and what it adds up to never falls.
use Rattle.std.proofs.Common.{◌≡◌, ◌⊎◌, ℕ, zero, suc, ◌+◌, ◌-◌, ◌<◌, ◌≤◌, true, List, [], ◌∷◌, map, length, take, drop, set, get_or}
use Rattle.std.proofs.Common.{nat_eq, nat_lt, if◌then◌else◌, inl, inr, refl, ap, arith, rules}
use Rattle.std.proofs.lemmas.Bool.Decides.{nat_tests}
use Rattle.std.proofs.lemmas.Bool.{cases_eq, eq-eqb, ne_eqb}
use Rattle.proof_tree.specs.declared.Kind.{Kind}
use Rattle.proof_tree.specs.declared.Numbers.{Numbers}
use Rattle.proof_tree.specs.declared.Link.{Link}
use Rattle.proof_tree.proofs.Common.{no_numbers, finite, finite_sum, sought, IsCombinedAt, IsLinked, children_of, leaf_sum, link_at}
use Rattle.proof_tree.proofs.Common.{numbers_at}
use Rattle.proof_tree.proofs.Combined.{finite-combined}

-- the sum over nodes, from node i on, of what each counts by its number, its link and its own value
weighed : (ℕ → Link → ℕ → ℕ) → (Numbers → ℕ) → ℕ → List Link → List Numbers → ℕ
weighed g f i [] numbers = 0
weighed g f i (l ∷ links) [] = 0
weighed g f i (l ∷ links) (n ∷ numbers) = g i l (f n) + weighed g f (suc i) links numbers

-- what a node counts if it is a leaf
abbrev leaf_weight : Link → ℕ → ℕ
leaf_weight l v = if nat_eq l.count 0 then v else 0

-- in the front above node k: each leaf before it, and each other node whose parent is before it
abbrev front : ℕ → ℕ → Link → ℕ → ℕ
front k j l v = if nat_lt j k then leaf_weight l v else (if nat_lt l.parent k then v else 0)

-- the front without node k, node k alone, the same if it is a leaf, and the nodes after k whose parent is k
abbrev beside : ℕ → ℕ → Link → ℕ → ℕ
beside k j l v = if nat_eq j k then 0 else front k j l v

abbrev alone : ℕ → ℕ → Link → ℕ → ℕ
alone k j l v = if nat_eq j k then v else 0

abbrev alone_leaf : ℕ → ℕ → Link → ℕ → ℕ
alone_leaf k j l v = if nat_eq j k then leaf_weight l v else 0

abbrev below : ℕ → ℕ → Link → ℕ → ℕ
below k j l v = if nat_lt k j then (if nat_eq l.parent k then v else 0) else 0

front-parts : (k j count parent v : ℕ) → (if nat_lt j k then (if nat_eq count 0 then v else 0) else (if nat_lt parent k then v else 0))
    ≤ (if nat_eq j k then 0 else (if nat_lt j k then (if nat_eq count 0 then v else 0) else (if nat_lt parent k then v else 0)))
    + (if nat_eq j k then v else 0)
front-parts k j count parent v = grind (arith, nat_tests)

next-parts : (k j count parent v : ℕ)
    → (if nat_eq j k then 0 else (if nat_lt j k then (if nat_eq count 0 then v else 0) else (if nat_lt parent k then v else 0)))
    + ((if nat_eq j k then (if nat_eq count 0 then v else 0) else 0) + (if nat_lt k j then (if nat_eq parent k then v else 0) else 0))
    ≤ (if nat_lt j (suc k) then (if nat_eq count 0 then v else 0) else (if nat_lt parent (suc k) then v else 0))
next-parts k j count parent v = grind (arith, nat_tests)

below-front : (k j count parent v : ℕ) → (if nat_lt k j then (if nat_eq parent k then v else 0) else 0)
    ≤ (if nat_lt j (suc k) then (if nat_eq count 0 then v else 0) else (if nat_lt parent (suc k) then v else 0))
below-front k j count parent v = grind (arith, nat_tests)

weighed-le : (g h : ℕ → Link → ℕ → ℕ) (f : Numbers → ℕ) → ((j : ℕ) (l : Link) (v : ℕ) → g j l v ≤ h j l v)
    → (i : ℕ) (links : List Link) (numbers : List Numbers) → weighed g f i links numbers ≤ weighed h f i links numbers
unfolding weighed
weighed-le g h f le i [] numbers = omega arith
weighed-le g h f le i (l ∷ links) [] = omega arith
weighed-le g h f le i (l ∷ links) (n ∷ numbers) = omega (arith, le i l (f n), weighed-le g h f le (suc i) links numbers)

weighed-add : (g h : ℕ → Link → ℕ → ℕ) (f : Numbers → ℕ) (i : ℕ) (links : List Link) (numbers : List Numbers)
    → weighed (λ j l v. g j l v + h j l v) f i links numbers ≡ weighed g f i links numbers + weighed h f i links numbers
unfolding weighed
weighed-add g h f i [] numbers = refl
weighed-add g h f i (l ∷ links) [] = refl
weighed-add g h f i (l ∷ links) (n ∷ numbers) = omega (arith, weighed-add g h f (suc i) links numbers)

alone-past : (k : ℕ) (f : Numbers → ℕ) (i : ℕ) (links : List Link) (numbers : List Numbers) → k < i
    → weighed (alone k) f i links numbers ≡ 0
unfolding weighed
alone-past k f i [] numbers h = refl
alone-past k f i (l ∷ links) [] h = refl
alone-past k f i (l ∷ links) (n ∷ numbers) h = search (rules, ne_eqb, alone-past k f (suc i) links numbers (omega arith))

alone-at : (k : ℕ) (f : Numbers → ℕ) (i p : ℕ) (links : List Link) (numbers : List Numbers) → k ≡ i + p
    → weighed (alone k) f i links numbers ≤ f (get_or numbers p no_numbers)
unfolding weighed
alone-at k f i p [] numbers e = omega arith
alone-at k f i p (l ∷ links) [] e = omega arith
alone-at k f i zero (l ∷ links) (n ∷ numbers) e = search (rules, eq-eqb, alone-past)
alone-at k f i (suc p) (l ∷ links) (n ∷ numbers) e = search (rules, ne_eqb, alone-at k f (suc i) p links numbers (omega arith))

alone_leaf-at : (k : ℕ) (f : Numbers → ℕ) (i p : ℕ) (links : List Link) (numbers : List Numbers) → k ≡ i + p → p < length links
    → length numbers ≡ length links → (link_at links p).count ≡ 0
    → f (get_or numbers p no_numbers) ≤ weighed (alone_leaf k) f i links numbers
unfolding weighed
alone_leaf-at k f i p [] numbers e h s z = absurd (omega arith)
alone_leaf-at k f i p (l ∷ links) [] e h s z = absurd (omega arith)
alone_leaf-at k f i zero (l ∷ links) (n ∷ numbers) e h s z = search (rules, eq-eqb)
alone_leaf-at k f i (suc p) (l ∷ links) (n ∷ numbers) e h s z =
    omega (arith, alone_leaf-at k f (suc i) p links numbers (omega arith) (omega arith) (omega arith) z)

below-at : (kind : Kind) (k i a c : ℕ) (links : List Link) (numbers : List Numbers) → length numbers ≡ length links → a + c ≤ length links
    → k < i + a → ((p : ℕ) → a ≤ p → p < a + c → (link_at links p).parent ≡ k)
    → finite_sum (map (sought kind) (take c (drop a numbers))) ≤ weighed (below k) (λ n. finite (sought kind n)) i links numbers
unfolding weighed
below-at kind k i a zero links numbers s h q e = omega arith
below-at kind k i a (suc c) [] numbers s h q e = absurd (omega arith)
below-at kind k i a (suc c) (l ∷ links) [] s h q e = absurd (omega arith)
below-at kind k i zero (suc c) (l ∷ links) (n ∷ numbers) s h q e =
    let t : nat_lt k i ≡ true = grind (arith, nat_tests) in
    let u : nat_eq l.parent k ≡ true = eq-eqb l.parent k (e 0 (omega arith) (omega arith)) in
    rw (t, u) (omega (
      arith,
      below-at kind k (suc i) zero c links numbers (omega arith) (omega arith) (omega arith)
          (λ p x y. e (suc p) (omega arith) (omega arith)),
    ))
below-at kind k i (suc a) (suc c) (l ∷ links) (n ∷ numbers) s h q e =
    omega (
      arith,
      below-at kind k (suc i) a (suc c) links numbers (omega arith) (omega arith) (omega arith)
          (λ p x y. e (suc p) (omega arith) (omega arith)),
    )

front-all : (kind : Kind) (k i : ℕ) (links : List Link) (numbers : List Numbers) → i + length links ≤ k
    → weighed (front k) (λ n. finite (sought kind n)) i links numbers ≤ leaf_sum kind links numbers
unfolding weighed
front-all kind k i [] numbers h = omega arith
front-all kind k i (l ∷ links) [] h = omega arith
front-all kind k i (l ∷ links) (n ∷ numbers) h = search (rules, front-all kind k (suc i) links numbers (omega arith))

-- what the children of node i add up to stands below it
children-below : (kind : Kind) (links : List Link) (numbers : List Numbers) (i : ℕ) → IsLinked links → length numbers ≡ length links
    → i < length links → 0 < (link_at links i).count
    → finite_sum (map (sought kind) (children_of (link_at links i) numbers)) ≤ weighed (below i) (λ n. finite (sought kind n)) 0 links
    numbers
children-below kind links numbers i w s h b = search (rules, below-at)

front-step : (kind : Kind) (links : List Link) (numbers : List Numbers) (k : ℕ) → IsLinked links → length numbers ≡ length links
    → k < length links → IsCombinedAt links numbers k
    → weighed (front k) (λ n. finite (sought kind n)) 0 links numbers ≤ weighed (front (suc k)) (λ n. finite (sought kind n)) 0 links
    numbers
front-step kind links numbers k w s h right =
    let f : Numbers → ℕ = λ n. finite (sought kind n) in
    let here : f (numbers_at numbers k) ≤ weighed (alone_leaf k) f 0 links numbers + weighed (below k) f 0 links numbers =
    elim (cases_eq (link_at links k).count 0) [
      | inl z ↦ omega (arith, alone_leaf-at k f 0 k links numbers (omega arith) h s z)
      | inr n ↦
          let b : 0 < (link_at links k).count = omega arith in
          omega (
            arith,
            ap f (right b),
            finite-combined kind (link_at links k).kind (children_of (link_at links k) numbers),
            children-below kind links numbers k w s h b,
          )
    ] in
    let parts : weighed (front k) f 0 links numbers ≤ weighed (λ j l v. beside k j l v + alone k j l v) f 0 links numbers =
    weighed-le (front k) (λ j l v. beside k j l v + alone k j l v) f (λ j l v. front-parts k j l.count l.parent v) 0 links numbers in
    let next : weighed (λ j l v. beside k j l v + (alone_leaf k j l v + below k j l v)) f 0 links numbers ≤ weighed (front (suc k)) f 0
    links numbers =
    weighed-le (λ j l v. beside k j l v + (alone_leaf k j l v + below k j l v)) (front (suc k)) f
    (λ j l v. next-parts k j l.count l.parent v) 0 links numbers in
    omega (
      arith,
      here,
      parts,
      next,
      weighed-add (beside k) (alone k) f 0 links numbers,
      weighed-add (beside k) (λ j l v. alone_leaf k j l v + below k j l v) f 0 links numbers,
      weighed-add (alone_leaf k) (below k) f 0 links numbers,
      alone-at k f 0 k links numbers (omega arith),
    )

fronts : (kind : Kind) (links : List Link) (numbers : List Numbers) (d k : ℕ) → IsLinked links → length numbers ≡ length links
    → k + d ≡ length links → ((j : ℕ) → k ≤ j → j < length links → IsCombinedAt links numbers j)
    → weighed (front k) (λ n. finite (sought kind n)) 0 links numbers ≤ leaf_sum kind links numbers
fronts kind links numbers zero k w s e right = front-all kind k 0 links numbers (omega arith)
fronts kind links numbers (suc d) k w s e right =
    omega (
      arith,
      front-step kind links numbers k w s (omega arith) (right k (omega arith) (omega arith)),
      fronts kind links numbers d (suc k) w s (omega arith) (λ j x y. right j (omega arith) y),
    )

-- what the children of a node add up to is at most the sum over all leaves, if the nodes after it have their children's numbers
pub children-le : (kind : Kind) (links : List Link) (numbers : List Numbers) (i : ℕ) → IsLinked links → length numbers ≡ length links
    → i < length links → 0 < (link_at links i).count → ((j : ℕ) → i < j → j < length links → IsCombinedAt links numbers j)
    → finite_sum (map (sought kind) (children_of (link_at links i) numbers)) ≤ leaf_sum kind links numbers
children-le kind links numbers i w s h b right =
    let f : Numbers → ℕ = λ n. finite (sought kind n) in
    let before : suc i + (length links - suc i) ≡ length links = omega arith in
    omega (
      arith,
      children-below kind links numbers i w s h b,
      weighed-le (below i) (front (suc i)) f (λ j l v. below-front i j l.count l.parent v) 0 links numbers,
      fronts kind links numbers (length links - suc i) (suc i) w s before (λ j x y. right j (omega arith) y),
    )

-- a number that is written changes the sum over the leaves only at a leaf, and does not make it greater where it is no greater
pub leaf_sum-set : (kind : Kind) (links : List Link) (numbers : List Numbers) (i : ℕ) (x : Numbers)
    → (0 < (link_at links i).count) ⊎ (finite (sought kind x) ≡ 0) → leaf_sum kind links (set numbers i x) ≤ leaf_sum kind links numbers
leaf_sum-set kind [] numbers i x h = omega arith
leaf_sum-set kind (l ∷ links) [] i x h = omega arith
leaf_sum-set kind (l ∷ links) (n ∷ numbers) zero x (inl h) = search (rules, ne_eqb)
leaf_sum-set kind (l ∷ links) (n ∷ numbers) zero x (inr h) = search (rules, cases_eq, eq-eqb, ne_eqb)
leaf_sum-set kind (l ∷ links) (n ∷ numbers) (suc i) x h = omega (arith, leaf_sum-set kind links numbers i x h)
