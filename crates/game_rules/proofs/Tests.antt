-- Tests of numbers, pairs of tests, and what holds of each item of a list.
use Rattle.std.proofs.Common.{◌≡◌, ◌≤◌, Bool, true, false, cond, arith, ℕ, nat_le, ◌<◌, nat_eq, ◌≢◌, nat_lt, List, [], ◌∷◌, ◌++◌}
use Rattle.std.proofs.Common.{◌||◌, zero, suc, subst, Some, slice_get, rules}
use Rattle.std.specs.List.{AllByRecursion}
use Rattle.std.proofs.lemmas.Bool.Decides.{nat_tests}

pub more_pass : (r t : Bool) → (r ≡ true → t ≡ true) → cond r 1 0 ≤ cond t 1 0
more_pass r t h = search rules

pub le_true : (c x : ℕ) → c ≤ x → nat_le c x ≡ true
le_true c x h = grind (arith, nat_tests)

pub le_false : (c x : ℕ) → x < c → nat_le c x ≡ false
le_false c x h = grind (arith, nat_tests)

pub eq_true : (x c : ℕ) → x ≡ c → nat_eq x c ≡ true
eq_true x c h = grind (arith, nat_tests)

pub eq_false : (x c : ℕ) → x ≢ c → nat_eq x c ≡ false
eq_false x c h = grind (arith, nat_tests)

pub eq_from : (x c : ℕ) → nat_eq x c ≡ true → x ≡ c
eq_from x c h = grind (arith, nat_tests)

pub le_from : (n c : ℕ) → nat_le n c ≡ true → n ≤ c
le_from n c h = grind (arith, nat_tests)

pub lt_true : (x y : ℕ) → x < y → nat_lt x y ≡ true
lt_true x y h = grind (arith, nat_tests)

pub lt_false : (x y : ℕ) → y ≤ x → nat_lt x y ≡ false
lt_false x y h = grind (arith, nat_tests)

pub all_push : {X : Type 0} (Fits : X → Type 0) (vs : List X) (v : X) → AllByRecursion Fits vs → Fits v → AllByRecursion Fits (vs ++ v ∷ [])
all_push Fits [] v all fit = (fit, tt)
all_push Fits (u ∷ us) v all fit = (all.0, all_push Fits us v all.1 fit)

-- what holds of the item at a place, where it holds of all
pub all_get : {X : Type 0} (P : X → Type 0) (xs : List X) (i : ℕ) (x : X) → slice_get xs i ≡ Some x → AllByRecursion P xs → P x
all_get P [] i x at all = absurd cc
all_get P (y ∷ xs) zero x at all = let same : y ≡ x = cc in subst P same all.0
all_get P (y ∷ xs) (suc i) x at all = all_get P xs i x at all.1

pub or_none : (a b : Bool) → (a || b) ≡ false → a ≡ false
or_none a b h = search rules

pub or_right : (a b : Bool) → (a || b) ≡ false → b ≡ false
or_right a b h = search rules

pub or_false : (a : Bool) → (a || false) ≡ true → a ≡ true
or_false a h = search rules
