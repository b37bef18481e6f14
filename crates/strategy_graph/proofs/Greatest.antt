-- The greatest of the numbers that a list of nodes gives, and the best of them so far.
use Rattle.std.proofs.Common.{rules, ℕ, suc, ◌≤◌, refl, arith, List, [], ◌∷◌, map, subst, ◌≡◌, zero, ap, max, ◌++◌, Contains}
use Rattle.std.specs.List.{AllByRecursion}
use Rattle.std.proofs.lemmas.List.Elements.{All-from_recursion}
use Rattle.strategy_graph.proofs.Common.{greatest, Reply}

pub greatest-each : (d : ℕ → ℕ) (k : ℕ) (js : List ℕ) → ((j : ℕ) → Contains js j → d j ≤ k) → greatest (map d js) ≤ k
greatest-each d k [] h = omega arith
greatest-each d k (j ∷ js) h =
    let low = h j (0, omega arith, refl) in
    let rest = greatest-each d k js (λ i c. h i (suc c.0, (let inside = c.1 in omega (arith, inside)), c.2)) in
    omega (arith, low, rest)

pub contained : (P : ℕ → Type 0) (js : List ℕ) → AllByRecursion P js → (j : ℕ) → Contains js j → P j
contained P js h j c = subst P c.2 (All-from_recursion P js h c.0 j c.1)

pub greatest-all : (d : ℕ → ℕ) (k : ℕ) (js : List ℕ) → AllByRecursion (λ j. d j ≤ k) js → greatest (map d js) ≤ k
greatest-all d k js h = greatest-each d k js (contained (λ j. d j ≤ k) js h)

-- the greatest of fewer numbers is no greater
each-below-greatest : (d : ℕ → ℕ) (js : List ℕ) (j : ℕ) → Contains js j → d j ≤ greatest (map d js)
each-below-greatest d [] j (k, l, e) = absurd (omega arith)
each-below-greatest d (x ∷ xs) j (zero, l, e) = let same : d x ≡ d j = ap d e in omega (arith, same)
each-below-greatest d (x ∷ xs) j (suc k, l, e) = let later = each-below-greatest d xs j (k, omega arith, e) in omega (arith, later)

greatest-within : (d : ℕ → ℕ) (js ks : List ℕ) → ((j : ℕ) → Contains js j → Contains ks j) → greatest (map d js) ≤ greatest (map d ks)
greatest-within d [] ks inside = omega arith
greatest-within d (j ∷ js) ks inside =
    let here = each-below-greatest d ks j (inside j (0, omega arith, refl)) in
    let later = greatest-within d js ks (λ i c. inside i (suc c.0, omega arith, c.2)) in
    omega (arith, here, later)

pub greatest-same : (d : ℕ → ℕ) (js ks : List ℕ) → ((j : ℕ) → Contains js j → Contains ks j) → ((j : ℕ) → Contains ks j → Contains js j)
    → greatest (map d js) ≡ greatest (map d ks)
greatest-same d js ks inside outside = search (rules, greatest-within)

pub push-most : (d : ℕ → ℕ) (rs : List Reply) (r : Reply)
    → greatest (map d (map (λ r. r.next) (rs ++ r ∷ []))) ≡ max (greatest (map d (map (λ r. r.next) rs))) (d r.next)
push-most d [] r = omega arith
push-most d (s ∷ rs) r = let rest = push-most d rs r in omega (arith, rest)
