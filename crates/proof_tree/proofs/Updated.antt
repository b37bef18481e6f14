-- Numbers brought up to date along the way up.
use Rattle.std.proofs.Common.{◌≡◌, ◌≢◌, ℕ, suc, ◌+◌, ◌-◌, ◌<◌, ◌≤◌, List, map, length, take, drop, set, get_or, inl, inr, sym, ◌∙◌, ap}
use Rattle.std.proofs.Common.{subst, arith, rules}
use Rattle.std.proofs.lemmas.Bool.{cases_eq, cases_lt}
use Rattle.std.proofs.lemmas.List.{drop-set-add, drop-set-lt, get_or-drop, get_or-set_other, get_or-set_same, get_or-take, length-set}
use Rattle.std.proofs.lemmas.List.{length-take, take-set-le}
use Rattle.proof_tree.specs.declared.TheConstants.{INFINITE}
use Rattle.proof_tree.specs.declared.Kind.{Kind}
use Rattle.proof_tree.specs.declared.Numbers.{Numbers}
use Rattle.proof_tree.specs.declared.Link.{Link}
use Rattle.proof_tree.proofs.Common.{AreNumbers, combined, no_numbers, finite_sum, sought, IsChild, IsCombinedAt, IsLinked, IsNumbered}
use Rattle.proof_tree.proofs.Common.{IsOnWayUp, OthersStay, children_of, leaf_sum, link_at, numbers_at}
use Rattle.proof_tree.proofs.Combined.{AreNumbers-combined}
use Rattle.proof_tree.proofs.LeafSums.{children-le, leaf_sum-set}

-- the numbers are those of a tree, but for those of node i, which has children
pub record IsRightBut (links : List Link) (numbers : List Numbers) (i : ℕ) : Type 0 where
  pub count : length numbers ≡ length links
  pub has_children : 0 < (link_at links i).count
  pub each : (j : ℕ) → j < length links → AreNumbers (numbers_at numbers j)
  pub combined_at : (j : ℕ) → j < length links → j ≢ i → IsCombinedAt links numbers j
  pub sums : (kind : Kind) → leaf_sum kind links numbers < INFINITE

-- the numbers of the children stay where a number is written elsewhere
pub children-elsewhere : (link : Link) (numbers : List Numbers) (i : ℕ) (x : Numbers) → (IsChild link i → ⊥)
    → children_of link (set numbers i x) ≡ children_of link numbers
children-elsewhere link numbers i x h =
    elim (cases_lt i link.first) [
      | inl before ↦ ap (take link.count) (drop-set-lt link.first numbers i x before)
      | inr from ↦
          let past : link.count ≤ i - link.first =
          elim (cases_lt i (link.first + link.count)) [
            | inl inside ↦ absurd (h (record { from_first = from; below_end = inside }))
            | inr after ↦ omega arith
          ] in
          let place : link.first + (i - link.first) ≡ i = omega arith in
          let shifted : drop link.first (set numbers i x) ≡ set (drop link.first numbers) (i - link.first) x =
          ap (λ j. drop link.first (set numbers j x)) (sym place) ∙ drop-set-add link.first numbers (i - link.first) x in
          ap (take link.count) shifted ∙ take-set-le link.count (drop link.first numbers) (i - link.first) x past
    ]

-- a node is no child of its own
not-own_child : (links : List Link) (i : ℕ) → IsLinked links → i < length links → 0 < (link_at links i).count → IsChild (link_at links i) i
    → ⊥
not-own_child links i w h b child = absurd (omega (arith, w.later i h b, child.from_first))

-- the children of a node, by their places
pub child-number : (link : Link) (numbers : List Numbers) (j : ℕ) → j < link.count
    → get_or (children_of link numbers) j no_numbers ≡ numbers_at numbers (link.first + j)
child-number link numbers j h = search (rules, get_or-take, get_or-drop)

-- what `combined` needs of the children of node i
pub children-sums : (links : List Link) (numbers : List Numbers) (i : ℕ) → IsLinked links → i < length links → IsRightBut links numbers i
    → (kind : Kind) → finite_sum (map (sought kind) (children_of (link_at links i) numbers)) < INFINITE
children-sums links numbers i w h r kind = search (rules, children-le)

pub found-numbers : (links : List Link) (numbers : List Numbers) (i : ℕ) → IsLinked links → i < length links → IsRightBut links numbers i
    → AreNumbers (combined (link_at links i).kind (children_of (link_at links i) numbers))
found-numbers links numbers i w h r =
    let link : Link = link_at links i in
    AreNumbers-combined link.kind (children_of link numbers)
    (λ j x.
    let short : j < link.count = omega (arith, length-take link.count (drop link.first numbers)) in
    let inside : link.first + j < length links = omega (arith, w.within i h) in
    subst AreNumbers (sym (child-number link numbers j short)) (r.each (link.first + j) inside))
    (children-sums links numbers i w h r)

-- a node that has its children's numbers keeps them when another number is written, unless that is a child of it
pub stays-combined : (links : List Link) (numbers : List Numbers) (i j : ℕ) (x : Numbers) → j ≢ i → (IsChild (link_at links j) i → ⊥)
    → IsCombinedAt links numbers j → IsCombinedAt links (set numbers i x) j
stays-combined links numbers i j x n c right b = search (rules, get_or-set_other, children-elsewhere)

-- the node that is counted anew has its children's numbers
now-combined : (links : List Link) (numbers : List Numbers) (i : ℕ) → IsLinked links → i < length links → IsRightBut links numbers i
    → IsCombinedAt links (set numbers i (combined (link_at links i).kind (children_of (link_at links i) numbers))) i
now-combined links numbers i w h r b = search (rules, get_or-set_same, children-elsewhere, not-own_child)

pub written-each : (links : List Link) (numbers : List Numbers) (i : ℕ) (x : Numbers) → i < length numbers → AreNumbers x
    → ((j : ℕ) → j < length links → AreNumbers (numbers_at numbers j)) → (j : ℕ) → j < length links
    → AreNumbers (numbers_at (set numbers i x) j)
written-each links numbers i x h good each j k =
    elim (cases_eq j i) [
      | inl e ↦ subst AreNumbers (sym (ap (numbers_at (set numbers i x)) e ∙ get_or-set_same numbers i x no_numbers h)) good
      | inr n ↦ subst AreNumbers (sym (get_or-set_other numbers i j x no_numbers n)) (each j k)
    ]

-- once the root is counted anew, all are right
pub right-at_root : (links : List Link) (numbers : List Numbers) → IsLinked links → IsRightBut links numbers 0
    → IsNumbered links (set numbers 0 (combined (link_at links 0).kind (children_of (link_at links 0) numbers)))
right-at_root links numbers w r =
    let found : Numbers = combined (link_at links 0).kind (children_of (link_at links 0) numbers) in
    let new : List Numbers = set numbers 0 found in
    record {
      count = length-set numbers 0 found ∙ r.count;
      each = written-each links numbers 0 found (omega (arith, r.count, w.some)) (found-numbers links numbers 0 w w.some r) r.each;
      combined_at = λ j h. elim (cases_eq j 0) [
        | inl q ↦ let P : ℕ → Type 0 = λ k. IsCombinedAt links new k in subst P (sym q) (now-combined links numbers 0 w w.some r)
        | inr n ↦ λ b. stays-combined links numbers 0 j found n (λ child. omega (arith, w.later j h b, child.from_first))
            (r.combined_at j h n) b
      ];
      sums = λ kind. omega (arith, r.sums kind, leaf_sum-set kind links numbers 0 found (inl r.has_children));
    }

-- once another node is counted anew, its parent alone is left
pub right-above : (links : List Link) (numbers : List Numbers) (i : ℕ) → IsLinked links → i < length links → 0 < i
    → IsRightBut links numbers i → IsRightBut links
    (set numbers i (combined (link_at links i).kind (children_of (link_at links i) numbers))) (link_at links i).parent
right-above links numbers i w h b r =
    let found : Numbers = combined (link_at links i).kind (children_of (link_at links i) numbers) in
    let new : List Numbers = set numbers i found in
    record {
      count = length-set numbers i found ∙ r.count;
      has_children = omega (arith, (w.children i b h).from_first, (w.children i b h).below_end);
      each = written-each links numbers i found (omega (arith, r.count)) (found-numbers links numbers i w h r) r.each;
      combined_at = λ j k other. elim (cases_eq j i) [
        | inl q ↦ let P : ℕ → Type 0 = λ m. IsCombinedAt links new m in subst P (sym q) (now-combined links numbers i w h r)
        | inr n ↦ stays-combined links numbers i j found n (λ child. other (sym (w.parents j i k child))) (r.combined_at j k n)
      ];
      sums = λ kind. omega (arith, r.sums kind, leaf_sum-set kind links numbers i found (inl r.has_children));
    }

-- what is written on the way up leaves all nodes that are not on it
pub others-written : (links : List Link) (start i : ℕ) (old numbers : List Numbers) (x : Numbers) → IsOnWayUp links start i
    → OthersStay links start old numbers → OthersStay links start old (set numbers i x)
others-written links start i old numbers x on stay j h = search (rules, get_or-set_other)

pub parent-above : (links : List Link) (start i : ℕ) → IsOnWayUp links start i → IsOnWayUp links start (link_at links i).parent
parent-above links start i on = (suc on.0, ap (λ k. (link_at links k).parent) on.1)

-- the children as a slice
pub slice-children : (link : Link) (numbers : List Numbers)
    → take (link.first + link.count - link.first) (drop link.first numbers) ≡ children_of link numbers
slice-children link numbers = search rules
