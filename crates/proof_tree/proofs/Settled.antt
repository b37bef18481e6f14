-- The nodes above a node. Numbers that are settled, least ones and sums that are zero.
use Rattle.std.proofs.Common.{◌≡◌, ◌⊎◌, inl, inr, ℕ, zero, suc, ◌<◌, ◌≤◌, ap, ◌∙◌, arith, List, length, refl, ◌≢◌, sym, subst, true, false}
use Rattle.std.proofs.Common.{[], ◌∷◌, map, get_or, Bool, rules}
use Rattle.std.proofs.lemmas.Bool.{cases_eq, and_parts, or_cases}
use Rattle.std.proofs.lemmas.Bool.Decides.{Decides-eqb}
use Rattle.std.proofs.lemmas.List.{length-take, length-drop}
use Rattle.proof_tree.specs.declared.Link.{Link}
use Rattle.proof_tree.specs.declared.Numbers.{Numbers}
use Rattle.proof_tree.specs.declared.Kind.TheVariants.{Attack}
use Rattle.proof_tree.proofs.Common.{IsLinked, ancestor, link_at, IsChild, IsOnWayUp, settled_numbers, least, no_numbers, plus, total}
use Rattle.proof_tree.proofs.Common.{is_settled, AreNumbers, numbers_at, IsTree, Tree}
use Rattle.proof_tree.proofs.Updated.{child-number}

-- a node above another does not come after it
pub above-low : (links : List Link) (w : IsLinked links) (steps i : ℕ) → i < length links → ancestor links steps i ≤ i
above-low links w zero i inside = omega arith
above-low links w (suc s) i inside = search (rules, cases_eq, above-low links w s i inside)

pub ancestor-up : (links : List Link) (steps i : ℕ) → ancestor links (suc steps) i ≡ ancestor links steps (link_at links i).parent
ancestor-up links zero i = refl
ancestor-up links (suc s) i = ap (λ (m : ℕ). (link_at links m).parent) (ancestor-up links s i)

-- each node above another has children
module _ (links : List Link) (w : IsLinked links) where
  pub ancestor-inside : (steps i : ℕ) → i < length links → ancestor links steps i < length links
  ancestor-inside zero i inside = inside
  ancestor-inside (suc s) i inside = search (rules, cases_eq, ancestor-inside s i inside)

  pub above-has_children : (steps i j : ℕ) → i < length links → ancestor links steps i ≡ j → j ≢ i → 0 < (link_at links j).count
  above-has_children zero i j inside at other = absurd (other (sym at))
  above-has_children (suc s) i j inside at other = by_root (cases_eq (ancestor links s i) 0)
      (λ e. above-has_children s i j inside e other) where
        by_root : (ancestor links s i ≡ 0) ⊎ (ancestor links s i ≡ 0 → ⊥) → (ancestor links s i ≡ j → 0 < (link_at links j).count)
            → 0 < (link_at links j).count
        by_root (inl root) before =
            let up : (link_at links (ancestor links s i)).parent ≡ 0 = ap (λ (m : ℕ). (link_at links m).parent) root ∙ w.root_parent in
            before (root ∙ sym up ∙ at)
        by_root (inr more) before =
            let m : ℕ = ancestor links s i in
            let child : IsChild (link_at links (link_at links m).parent) m =
            w.children m (omega (arith, more)) (ancestor-inside s i inside) in
            let first = child.from_first in
            let low = child.below_end in
            subst (λ (k : ℕ). 0 < (link_at links k).count) at (omega (arith, first, low))

  -- another leaf is not above a node
  pub leaf-beside : (i j : ℕ) → i < length links → (link_at links j).count ≡ 0 → j ≢ i → IsOnWayUp links i j → ⊥
  leaf-beside i j inside none other (steps, at) = let some = above-has_children steps i j inside at other in omega (arith, some, none)

pub proved-apart : settled_numbers true ≡ settled_numbers false → ⊥
proved-apart e = let bad : 4294967295 ≡ 0 = ap (λ (n : Numbers). n.disproof) e in omega (arith, bad)

-- where the least number is 0, one of them is
pub least-zero : (f : Numbers → ℕ) (ns : List Numbers) → least (map f ns) ≡ 0 → (k : ℕ) × (k < length ns) × (f (get_or ns k no_numbers) ≡ 0)
least-zero f [] e = absurd (omega (arith, e))
least-zero f (n ∷ ns) e = elim (cases_eq (f n) 0) [
  | inl here ↦ (0, omega arith, here)
  | inr more ↦
      let rest : least (map f ns) ≡ 0 = omega (arith, e) in
      let later = least-zero f ns rest in
      (suc later.0, (let inside = later.1 in omega (arith, inside)), later.2)
]

plus-zero : (x y : ℕ) → plus x y ≡ 0 → (x ≡ 0) × (y ≡ 0)
plus-zero x y e = search rules

-- where the sum is 0, each number is
pub total-zero : (f : Numbers → ℕ) (ns : List Numbers) → total (map f ns) ≡ 0 → (k : ℕ) → k < length ns → f (get_or ns k no_numbers) ≡ 0
total-zero f [] e k inside = absurd (omega arith)
total-zero f (n ∷ ns) e zero inside = (plus-zero (f n) (total (map f ns)) e).0
total-zero f (n ∷ ns) e (suc k) inside = total-zero f ns (plus-zero (f n) (total (map f ns)) e).1 k (omega arith)

-- settled numbers are one pair or the other
pub settled-one : (n : Numbers) → is_settled n ≡ true → (n ≡ settled_numbers true) ⊎ (n ≡ settled_numbers false)
settled-one n s = search (rules, or_cases, Decides-eqb, and_parts)

pub settled-proved : (n : Numbers) → AreNumbers n → n.proof ≡ 0 → n ≡ settled_numbers true
settled-proved n h none = search (rules, settled-one)

pub settled-disproved : (n : Numbers) → AreNumbers n → n.disproof ≡ 0 → n ≡ settled_numbers false
settled-disproved n h none = search (rules, settled-one)

-- the numbers of the k-th child
-- settled numbers by their proof number
pub settled-lost : (n : Numbers) → is_settled n ≡ true → (n.proof ≡ 0 → ⊥) → n ≡ settled_numbers false
settled-lost n s more = search (rules, settled-one)

pub settled-won : (n : Numbers) → is_settled n ≡ true → n.proof ≡ 0 → n ≡ settled_numbers true
settled-won n s none = search (rules, settled-one)

pub proved-child : (t : Tree) (i : ℕ) → IsTree t → i < length t.links → 0 < (link_at t.links i).count → (link_at t.links i).kind ≡ Attack
    → numbers_at t.numbers i ≡ settled_numbers true → (j : ℕ) × IsChild (link_at t.links i) j × ((numbers_at t.numbers j).proof ≡ 0)
proved-child t i ok inside some kind proved = grind (arith, least-zero, length-take, length-drop, child-number)

pub settled-test : (p : Bool) → is_settled (settled_numbers p) ≡ true
settled-test p = search rules
