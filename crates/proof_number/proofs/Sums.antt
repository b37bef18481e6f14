-- Sums over the first numbers: how they change where one term does, or where terms are added.
use Rattle.std.proofs.Common.{◌≡◌, ◌≢◌, ◌⊎◌, inl, inr, ℕ, zero, suc, ◌+◌, ◌<◌, ◌≤◌, refl, sym, ap, subst, ◌∙◌, zero-add, arith, List, []}
use Rattle.std.proofs.Common.{◌∷◌, length, get_or, sum_by, rules}
use Rattle.std.proofs.lemmas.List.Sums.{sum_by-cons}
use Rattle.std.proofs.lemmas.Bool.{cases_eq}
use Rattle.proof_number.specs.SearchTrees.{sum_below}

pub sum-suc : (n : ℕ) (f : ℕ → ℕ) → sum_below (suc n) f ≡ sum_below n f + f n
unfolding sum_below
sum-suc n f = refl

pub sum-zero : (f : ℕ → ℕ) → sum_below 0 f ≡ 0
unfolding sum_below
sum-zero f = refl

-- terms that are no greater
pub sum-le : (n : ℕ) (f g : ℕ → ℕ) → ((i : ℕ) → i < n → f i ≤ g i) → sum_below n f ≤ sum_below n g
sum-le zero f g h = let a = sum-zero f in let b = sum-zero g in omega (arith, a, b)
sum-le (suc n) f g h =
    let rest = sum-le n f g (λ i low. h i (omega arith)) in
    let here = h n (omega arith) in
    omega (arith, sum-suc n f, sum-suc n g, rest, here)

-- terms that are the same
pub sum-same : (n : ℕ) (f g : ℕ → ℕ) → ((i : ℕ) → i < n → f i ≡ g i) → sum_below n f ≡ sum_below n g
sum-same n f g h = search (rules, sum-le)

-- the same, and one term is less by d or more
pub sum-less : (n : ℕ) (f g : ℕ → ℕ) (i d : ℕ) → i < n → ((j : ℕ) → j < n → j ≢ i → f j ≤ g j) → f i + d ≤ g i
    → sum_below n f + d ≤ sum_below n g
sum-less zero f g i d inside h less = absurd (omega arith)
sum-less (suc n) f g i d inside h less = by_last (cases_eq n i) (λ low. sum-less n f g i d low (λ j l ne. h j (omega arith) ne) less) where
  by_last : (n ≡ i) ⊎ (n ≡ i → ⊥) → (i < n → sum_below n f + d ≤ sum_below n g) → sum_below (suc n) f + d ≤ sum_below (suc n) g
  by_last (inl same) later =
      let rest = sum-le n f g (λ j l. h j (omega arith) (λ e. omega (arith, e, same))) in
      let here : f n + d ≤ g n = subst (λ (k : ℕ). f k + d ≤ g k) (sym same) less in
      omega (arith, sum-suc n f, sum-suc n g, rest, here)
  by_last (inr other) later =
      let rest = later (omega (arith, other)) in
      let here = h n (omega arith) other in
      omega (arith, sum-suc n f, sum-suc n g, rest, here)

-- one term is no more than all
pub sum-one : (n : ℕ) (f : ℕ → ℕ) (i : ℕ) → i < n → f i ≤ sum_below n f
sum-one n f i inside =
    let low = sum-less n (λ j. 0) f i (f i) inside (λ j l other. omega arith) (omega arith) in
    omega (arith, low)

-- two sums are one
pub sum-split : (n : ℕ) (f g : ℕ → ℕ) → sum_below n f + sum_below n g ≡ sum_below n (λ i. f i + g i)
sum-split zero f g = let a = sum-zero f in let b = sum-zero g in let d = sum-zero (λ i. f i + g i) in omega (arith, a, b, d)
sum-split (suc n) f g = search (rules, sum-suc, sum-split n f g)

-- further terms
pub sum-more : (n k : ℕ) (f : ℕ → ℕ) → sum_below (n + k) f ≡ sum_below n f + sum_below k (λ j. f (n + j))
sum-more n zero f = search (rules, sum-zero)
sum-more n (suc k) f =
    let a = sum-suc (n + k) f in
    let b = sum-suc k (λ j. f (n + j)) in
    let rest = sum-more n k f in
    let e : n + suc k ≡ suc (n + k) = omega arith in
    ap (λ (m : ℕ). sum_below m f) e ∙ omega (arith, a, b, rest)

-- a sum over a list by its places
pub sum-list : {X : Type 0} (h : X → ℕ) (d : X) (xs : List X) → sum_below (length xs) (λ j. h (get_or xs j d)) ≡ sum_by h xs
sum-list h d [] = sum-zero (λ j. h (get_or [] j d))
sum-list h d (x ∷ xs) =
    let F : ℕ → ℕ = λ j. h (get_or (x ∷ xs) j d) in
    let e : suc (length xs) ≡ 1 + length xs = omega arith in
    let same = ap (sum_below (length xs)) (λ i j. F (one_more j i)) in
    let first : sum_below 1 F ≡ h x = sum-suc 0 F ∙ ap (λ (m : ℕ). m + h x) (sum-zero F) ∙ zero-add (h x) in
    ap (λ (m : ℕ). sum_below m F) e ∙ sum-more 1 (length xs) F ∙ ap (λ (m : ℕ). sum_below 1 F + m) (same ∙ sum-list h d xs)
    ∙ ap (λ (m : ℕ). m + sum_by h xs) first ∙ sym (sum_by-cons h x xs) where
      one_more : (j : ℕ) → 1 + j ≡ suc j
      one_more j = omega arith

-- one for each
pub sum-ones : (n : ℕ) (f : ℕ → ℕ) → ((i : ℕ) → f i ≡ 1) → sum_below n f ≡ n
sum-ones zero f one = sum-zero f
sum-ones (suc n) f one = let a = sum-suc n f in let rest = sum-ones n f one in let here = one n in omega (arith, a, rest, here)
