-- Lists of threats, and lists of such lists after a path.
use Rattle.std.proofs.Common.{◌≡◌, suc, ◌-◌, ◌<◌, List, [], ◌∷◌, ◌++◌, length, get_or, refl, ap, ◌∙◌, arith, map, sym, append_assoc, take}
use Rattle.std.proofs.Common.{ℕ, ◌+◌, drop, add-one, drop-cons, Option}
use Rattle.std.proofs.lemmas.List.{length-append}
use Rattle.std.proofs.Math.Seq.{take-append_seam}
use Rattle.game_rules.specs.declared.Point.{Point}
use Rattle.threat_moves.specs.declared.threat_list.Threat.{Threat}

-- the last of a list that one threat was added to
pub last_added : (ts : List Threat) (t u : Threat) → get_or (ts ++ t ∷ []) (length (ts ++ t ∷ []) - 1) u ≡ t
last_added [] t u = refl
last_added (v ∷ ts) t u =
    let place : length (v ∷ ts ++ t ∷ []) - 1 ≡ suc (length (ts ++ t ∷ []) - 1) = omega (arith, some_added ts t) in
    ap (λ k. get_or (v ∷ ts ++ t ∷ []) k u) place ∙ last_added ts t u where
      some_added : (ts : List Threat) (t : Threat) → 0 < length (ts ++ t ∷ [])
      some_added [] t = omega arith
      some_added (v ∷ ts) t = omega arith

-- how a list of threats is judged
abbrev pub Final : Type 0
Final = List Threat → Option Point

abbrev pub Lists : Type 0
Lists = List (List Threat)

-- the lists with these threats before them
abbrev pub after_path : List Threat → Lists → Lists
after_path path lists = map (λ ts. path ++ ts) lists

pub map-append : (f : List Threat → List Threat) (xs ys : Lists) → map f (xs ++ ys) ≡ map f xs ++ map f ys
map-append f [] ys = refl
map-append f (x ∷ xs) ys = ap (λ (zs : Lists). f x ∷ zs) (map-append f xs ys)

pub path-longer : (path : List Threat) (t : Threat) (lists : Lists)
    → after_path path (map (λ more. t ∷ more) lists) ≡ after_path (path ++ t ∷ []) lists
path-longer path t [] = refl
path-longer path t (ts ∷ lists) = λ i. (sym (append_assoc path (t ∷ []) ts) i) ∷ (path-longer path t lists i)

pub path-none : (lists : Lists) → after_path [] lists ≡ lists
path-none [] = refl
path-none (ts ∷ lists) = ap (λ (xs : Lists). ts ∷ xs) (path-none lists)

pub no_lists : (xs ys : Lists) → xs ++ ys ≡ [] → (xs ≡ []) × (ys ≡ [])
no_lists [] ys h = (refl, h)
no_lists (x ∷ xs) ys h = cc

pub map-none : (f : List Threat → List Threat) (xs : Lists) → map f xs ≡ [] → xs ≡ []
map-none f [] h = refl
map-none f (x ∷ xs) h = cc

-- a path without its last threat
pub shorter : (path longer : List Threat) (t : Threat) → longer ≡ path ++ t ∷ [] → take (length longer - 1) longer ≡ path
shorter path longer t e =
    let long : length (path ++ t ∷ []) - 1 ≡ length path = omega (arith, length-append path (t ∷ [])) in
    ap (λ (ts : List Threat). take (length ts - 1) ts) e ∙ ap (λ n. take n (path ++ t ∷ [])) long ∙ take-append_seam path (t ∷ [])

-- one threat of a list
pub drop-at : (i : ℕ) (ts : List Threat) (t : Threat) → i < length ts → t ≡ get_or ts i t → drop i ts ≡ t ∷ drop (i + 1) ts
drop-at i ts t low at = drop-cons ts i t low ∙ ap (λ (u : Threat). u ∷ drop (suc i) ts) (sym at) ∙ ap (λ k. t ∷ drop k ts) (sym (add-one i))
