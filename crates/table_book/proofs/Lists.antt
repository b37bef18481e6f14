-- Lists that are put together and cut, and what holds of each of their items.
use Rattle.std.proofs.Common.{◌≡◌, ℕ, zero, suc, refl, ap, ◌∙◌, arith, List, [], ◌∷◌, ◌++◌, length, take, Some, slice_get, replicate}
use Rattle.std.specs.List.{AllByRecursion}

-- the parts of two lists that are put together are the same, where the first ones are of one length
pub same_parts : {X : Type 0} (a x c y : List X) → length a ≡ length c → a ++ x ≡ c ++ y → (a ≡ c) × (x ≡ y)
same_parts [] x [] y count e = (refl, e)
same_parts [] x (d ∷ c) y count e = absurd (omega arith)
same_parts (b ∷ a) x [] y count e = absurd (omega arith)
same_parts {X} (b ∷ a) x (d ∷ c) y count e =
    let head : b ≡ d = cc in
    let tail : a ++ x ≡ c ++ y = cc in
    let rest = same_parts a x c y (omega arith) tail in
    (ap (λ (z : X). z ∷ a) head ∙ ap (λ (l : List X). d ∷ l) rest.0, rest.1)

pub all_append : {X : Type 0} (P : X → Type 0) (xs ys : List X) → AllByRecursion P xs → AllByRecursion P ys → AllByRecursion P (xs ++ ys)
all_append P [] ys all more = more
all_append P (x ∷ xs) ys all more = (all.0, all_append P xs ys all.1 more)

pub all_take : {X : Type 0} (P : X → Type 0) (n : ℕ) (xs : List X) → AllByRecursion P xs → AllByRecursion P (take n xs)
all_take P zero xs all = tt
all_take P (suc n) [] all = tt
all_take P (suc n) (x ∷ xs) all = (all.0, all_take P n xs all.1)

pub all_replicate : {X : Type 0} (P : X → Type 0) (n : ℕ) (x : X) → P x → AllByRecursion P (replicate n x)
all_replicate P zero x h = tt
all_replicate P (suc n) x h = (h, all_replicate P n x h)

-- the item at the seam of two lists, and what is before it
pub seam : {X : Type 0} (xs : List X) (x : X) (ys : List X) → slice_get (xs ++ x ∷ ys) (length xs) ≡ Some x
seam [] x ys = refl
seam (y ∷ xs) x ys = seam xs x ys
