-- What a node has of its children's numbers: a step of each loop, bounds, and that it is settled or open again.
use Rattle.std.proofs.Common.{◌≡◌, ◌≢◌, ◌⊎◌, ℕ, suc, ◌+◌, ◌<◌, ◌≤◌, min, true, List, [], ◌∷◌, map, length, drop, get_or, inl}
use Rattle.std.proofs.Common.{inr, refl, sym, ◌∙◌, ap, add-one, arith, rules}
use Rattle.std.proofs.Math.Seq.{drop-cons}
use Rattle.std.proofs.lemmas.Bool.Decides.{nat_tests}
use Rattle.std.proofs.lemmas.Bool.{cases_eq, cases_lt, eq-eqb, ne_eqb}
use Rattle.proof_tree.specs.declared.TheConstants.{INFINITE}
use Rattle.proof_tree.specs.declared.Kind.{Kind}
use Rattle.proof_tree.specs.declared.Kind.TheVariants.{Attack, Defend}
use Rattle.proof_tree.specs.declared.Numbers.{Numbers}
use Rattle.proof_tree.specs.Combining.{AreNumbers, combined, no_numbers, finite, finite_sum, is_settled, least, other_kind, plus, sought}
use Rattle.proof_tree.specs.Combining.{total}

-- the steps of the loops

pub plus-finite : (x y : ℕ) → x < INFINITE → y < INFINITE → plus x y ≡ x + y
plus-finite x y h k = search (rules, ne_eqb)

pub plus-infinite_left : (x y : ℕ) → x ≡ INFINITE → plus x y ≡ INFINITE
plus-infinite_left x y e = rw (eq-eqb x INFINITE e)

pub plus-infinite_right : (x y : ℕ) → x ≢ INFINITE → y ≡ INFINITE → plus x y ≡ INFINITE
plus-infinite_right x y h e = rw (ne_eqb x INFINITE h, eq-eqb y INFINITE e)

pub finite-below : (x : ℕ) → x ≢ INFINITE → finite x ≡ x
finite-below x h = rw (ne_eqb x INFINITE h)

pub finite-infinite : (x : ℕ) → x ≡ INFINITE → finite x ≡ 0
finite-infinite x e = rw (eq-eqb x INFINITE e)

pub finite-le : (x : ℕ) → finite x ≤ x
finite-le x = elim (cases_eq x INFINITE) [ inl e ↦ omega (arith, finite-infinite x e) | inr n ↦ omega (arith, finite-below x n) ]

pub least-le : (xs : List ℕ) → least xs ≤ INFINITE
least-le [] = omega arith
least-le (x ∷ xs) = omega (arith, least-le xs)

-- bounds

pub plus-other : (x y : ℕ) → x ≢ INFINITE → y ≢ INFINITE → plus x y ≡ x + y
plus-other x y h k = rw (ne_eqb x INFINITE h, ne_eqb y INFINITE k)

finite-plus : (x y : ℕ) → finite (plus x y) ≤ finite x + finite y
finite-plus x y = search (rules, cases_eq, finite-infinite, plus-infinite_left, plus-infinite_right, finite-le, plus-other, finite-below)

finite-min : (x y : ℕ) → finite (min x y) ≤ finite x + finite y
finite-min x y = search (rules, cases_lt)

finite-least : (xs : List ℕ) → finite (least xs) ≤ finite_sum xs
finite-least [] = omega (arith, finite-infinite INFINITE refl)
finite-least (x ∷ xs) = omega (arith, finite-min x (least xs), finite-least xs)

pub finite-total : (xs : List ℕ) → finite (total xs) ≤ finite_sum xs
finite-total [] = omega (arith, finite-le 0)
finite-total (x ∷ xs) = omega (arith, finite-plus x (total xs), finite-total xs)

pub finite-combined : (k kind : Kind) (ns : List Numbers) → finite (sought k (combined kind ns)) ≤ finite_sum (map (sought k) ns)
finite-combined k kind ns = search (rules, finite-least, finite-total)

plus-grouped : (s y t : ℕ) → s + y + finite t < INFINITE → plus s (plus y t) ≡ plus (s + y) t
plus-grouped s y t h = search (rules, cases_eq, plus-infinite_right, finite-below, plus-finite)

-- the sum so far, where number i is below infinity
pub total-step : (f : Numbers → ℕ) (xs : List Numbers) (i s y : ℕ) (d : Numbers) → i < length xs → y ≡ f (get_or xs i d) → y ≢ INFINITE
    → s + finite_sum (map f (drop i xs)) < INFINITE
    → (s + y + finite_sum (map f (drop (i + 1) xs)) < INFINITE)
    × (plus s (total (map f (drop i xs))) ≡ plus (s + y) (total (map f (drop (i + 1) xs))))
total-step f xs i s y d h e n b =
    let cut : drop i xs ≡ get_or xs i d ∷ drop (suc i) xs = drop-cons xs i d h in
    let one : drop (i + 1) xs ≡ drop (suc i) xs = ap (λ j. drop j xs) (add-one i) in
    let sums : finite_sum (map f (drop i xs)) ≡ finite y + finite_sum (map f (drop (i + 1) xs)) =
    ap (λ r. finite_sum (map f r)) cut
    ∙ (ap (λ z. finite z + finite_sum (map f (drop (suc i) xs))) (sym e) ∙ ap (λ r. finite y + finite_sum (map f r)) (sym one)) in
    let totals : total (map f (drop i xs)) ≡ plus y (total (map f (drop (i + 1) xs))) =
    ap (λ r. total (map f r)) cut
    ∙ (ap (λ z. plus z (total (map f (drop (suc i) xs)))) (sym e) ∙ ap (λ r. plus y (total (map f r))) (sym one)) in
    let fy : finite y ≡ y = finite-below y n in
    let left : s + y + finite_sum (map f (drop (i + 1) xs)) < INFINITE = omega (arith, sums, fy, b) in
    let bound : finite (total (map f (drop (i + 1) xs))) ≤ finite_sum (map f (drop (i + 1) xs)) = finite-total (map f (drop (i + 1) xs)) in
    (left, ap (plus s) totals ∙ plus-grouped s y (total (map f (drop (i + 1) xs))) (omega (arith, left, bound)))

-- settled or open again

-- a pair of numbers: 0 and infinity, infinity and 0, or both between
Pair : ℕ → ℕ → Type 0
Pair a d = ((a ≡ 0) × (d ≡ INFINITE)) ⊎ (((a ≡ INFINITE) × (d ≡ 0)) ⊎ ((0 < a) × (a < INFINITE) × (0 < d) × (d < INFINITE)))

pair-swap : (a d : ℕ) → Pair a d → Pair d a
unfolding Pair
pair-swap a d h = search rules

pub settled-pair : (p d : ℕ) → is_settled (record { proof = p; disproof = d }) ≡ true
    → ((p ≡ 0) × (d ≡ INFINITE)) ⊎ ((p ≡ INFINITE) × (d ≡ 0))
settled-pair p d h = grind (arith, nat_tests)

AreNumbers-pair : (n : Numbers) → AreNumbers n → Pair n.proof n.disproof
unfolding Pair
AreNumbers-pair n h = search (rules, settled-pair)

sought-pair : (k : Kind) (n : Numbers) → AreNumbers n → Pair (sought k n) (sought (other_kind k) n)
sought-pair k n h = search (rules, AreNumbers-pair, pair-swap)

pair-settled : (p d : ℕ) → ((p ≡ 0) × (d ≡ INFINITE)) ⊎ ((p ≡ INFINITE) × (d ≡ 0)) → is_settled (record { proof = p; disproof = d }) ≡ true
pair-settled p d h = grind (arith, nat_tests)

pair-AreNumbers : (n : Numbers) → Pair n.proof n.disproof → AreNumbers n
unfolding Pair
pair-AreNumbers n h = search (rules, pair-settled)

pair-step : (a d p t : ℕ) → Pair a d → Pair p t → finite d + finite t < INFINITE → Pair (min a p) (plus d t)
unfolding Pair
pair-step a d p t k y h = grind (arith, plus-infinite_left, plus-infinite_right, plus-finite, finite-below)

lost-pair : Pair INFINITE 0
unfolding Pair
lost-pair = inr (inl (refl, refl))

pair-combined : (k : Kind) (ns : List Numbers) → ((j : ℕ) → j < length ns → AreNumbers (get_or ns j no_numbers))
    → finite_sum (map (sought (other_kind k)) ns) < INFINITE → Pair (least (map (sought k) ns)) (total (map (sought (other_kind k)) ns))
pair-combined k [] each h = lost-pair
pair-combined k (n ∷ ns) each h =
    pair-step (sought k n) (sought (other_kind k) n) (least (map (sought k) ns)) (total (map (sought (other_kind k)) ns))
    (sought-pair k n (each 0 (omega arith)))
    (pair-combined k ns (λ j q. each (suc j) (omega arith)) (omega (arith, h)))
    (omega (arith, h, finite-total (map (sought (other_kind k)) ns)))

pub AreNumbers-combined : (kind : Kind) (ns : List Numbers) → ((j : ℕ) → j < length ns → AreNumbers (get_or ns j no_numbers))
    → ((k : Kind) → finite_sum (map (sought k) ns) < INFINITE) → AreNumbers (combined kind ns)
AreNumbers-combined Attack ns each h = pair-AreNumbers (combined Attack ns) (pair-combined Attack ns each (h Defend))
AreNumbers-combined Defend ns each h = pair-AreNumbers (combined Defend ns) (pair-swap _ _ (pair-combined Defend ns each (h Attack)))
