-- The walk to the most-proving leaf: at a node that is open the first child with the node's minimum is open too.
use Rattle.std.proofs.Common.{◌≡◌, ◌≢◌, ℕ, zero, suc, ◌+◌, ◌-◌, ◌<◌, ◌≤◌, Bool, true, false, List, [], ◌∷◌, map, length, take, drop, get_or}
use Rattle.std.proofs.Common.{nat_eq, inl, inr, refl, sym, ◌∙◌, ap, subst, one-add, arith, rules}
use Rattle.std.proofs.lemmas.Bool.{cases_eq, eq-eqb, ne_eqb, eqb-true}
use Rattle.std.proofs.lemmas.List.{length-take-le, length-drop}
use Rattle.std.specs.List.{position_or_len}
use Rattle.proof_tree.specs.declared.TheConstants.{INFINITE}
use Rattle.proof_tree.specs.declared.Kind.{Kind}
use Rattle.proof_tree.specs.declared.Kind.TheVariants.{Attack}
use Rattle.proof_tree.specs.declared.Numbers.{Numbers}
use Rattle.proof_tree.specs.declared.Link.{Link}
use Rattle.proof_tree.proofs.Common.{AreNumbers, IsOpen, combined, no_numbers, is_settled, least, sought, IsTree, Tree, children_of, chosen}
use Rattle.proof_tree.proofs.Common.{link_at, numbers_at, walk_end, IsChild}
use Rattle.proof_tree.proofs.Updated.{child-number, slice-children}

-- the first place that passes, if there is one
place-passes : (p : Numbers → Bool) (ns : List Numbers) → position_or_len p ns < length ns
    → p (get_or ns (position_or_len p ns) no_numbers) ≡ true
place-passes p [] h = absurd (omega arith)
place-passes p (n ∷ ns) h = here (p n) refl (λ k. place-passes p ns k)
  where
    here : (b : Bool) → p n ≡ b → (position_or_len p ns < length ns → p (get_or ns (position_or_len p ns) no_numbers) ≡ true)
        → p (get_or (n ∷ ns) (position_or_len p (n ∷ ns)) no_numbers) ≡ true
    here true e rest = rw e e
    here false e rest = let k : position_or_len p (n ∷ ns) < length (n ∷ ns) = h in rw (e, one-add) (rest (omega (arith, rw e at k)))

least-place : (f : Numbers → ℕ) (ns : List Numbers) (m : ℕ) → least (map f ns) ≡ m → m < INFINITE
    → position_or_len (λ n. nat_eq (f n) m) ns < length ns
least-place f [] m e h = absurd (omega arith)
least-place f (n ∷ ns) m e h =
    elim (cases_eq (f n) m) [
      | inl q ↦ rw (eq-eqb (f n) m q) (omega arith)
      | inr k ↦ rw (ne_eqb (f n) m k) (omega (arith, least-place f ns m (omega arith) h))
    ]

sought-combined : (k : Kind) (ns : List Numbers) → sought k (combined k ns) ≡ least (map (sought k) ns)
sought-combined k ns = search rules

sought-open : (k : Kind) (n : Numbers) → IsOpen n → (0 < sought k n) × (sought k n < INFINITE)
sought-open k n o = search rules

not-settled : (k : Kind) (n : Numbers) → 0 < sought k n → sought k n < INFINITE → is_settled n ≡ true → ⊥
not-settled k n a b s = search rules

pub open-unsettled : (n : Numbers) → IsOpen n → is_settled n ≡ false
open-unsettled n o = by (is_settled n) refl where
  by : (r : Bool) → is_settled n ≡ r → is_settled n ≡ false
  by false e = e
  by true e = absurd (not-settled Attack n o.proof_above o.proof_below e)

open-again : (k : Kind) (n : Numbers) → AreNumbers n → 0 < sought k n → sought k n < INFINITE → IsOpen n
open-again k n h a b = search (rules, not-settled)

-- the child that is chosen at an open node
pub record IsChosen (t : Tree) (i : ℕ) : Type 0 where
  pub child : IsChild (link_at t.links i) (chosen t i)
  pub after : i < chosen t i
  pub inside : chosen t i < length t.links
  pub open_child : IsOpen (numbers_at t.numbers (chosen t i))

pub chosen-child : (t : Tree) (i : ℕ) → IsTree t → i < length t.links → 0 < (link_at t.links i).count → IsOpen (numbers_at t.numbers i)
    → IsChosen t i
chosen-child t i w h b o =
    let link : Link = link_at t.links i in
    let ns : List Numbers = children_of link t.numbers in
    let m : ℕ = sought link.kind (numbers_at t.numbers i) in
    let p : Numbers → Bool = λ n. nat_eq (sought link.kind n) m in
    let above : (0 < m) × (m < INFINITE) = sought-open link.kind (numbers_at t.numbers i) o in
    let minimum : least (map (sought link.kind) ns) ≡ m =
    sym (ap (sought link.kind) (w.numbered.combined_at i h b) ∙ sought-combined link.kind ns) in
    let some : position_or_len p ns < length ns = least-place (sought link.kind) ns m minimum above.1 in
    let size : length ns ≡ link.count =
    length-take-le link.count (drop link.first t.numbers)
    (omega (arith, length-drop link.first t.numbers, w.numbered.count, w.linked.within i h)) in
    let inside : chosen t i < length t.links = omega (arith, some, size, w.linked.within i h) in
    let same : sought link.kind (numbers_at t.numbers (chosen t i)) ≡ m =
    ap (sought link.kind) (sym (child-number link t.numbers (position_or_len p ns) (omega (arith, some, size))))
    ∙ eqb-true _ m (place-passes p ns some) in
    record {
      child = record { from_first = omega arith; below_end = omega (arith, some, size) };
      after = omega (arith, w.linked.later i h b);
      inside = inside;
      open_child = open-again link.kind (numbers_at t.numbers (chosen t i)) (w.numbered.each (chosen t i) inside)
          (omega (arith, same, above.0)) (omega (arith, same, above.1));
    }

-- the walk from node i, which has steps enough, ends where the whole walk from the start ends
abbrev pub LeadsOn : Tree → ℕ → ℕ → Type 0
LeadsOn t start i = (steps : ℕ) × (length t.links ≤ steps + i) × (walk_end steps t i ≡ walk_end (length t.links) t start)

pub LeadsOn-chosen : (t : Tree) (start i : ℕ) → IsTree t → i < length t.links → 0 < (link_at t.links i).count
    → IsOpen (numbers_at t.numbers i) → LeadsOn t start i → LeadsOn t start (chosen t i)
LeadsOn-chosen t start i w h b o on = one on.0 on.1 on.2
  where
    one : (steps : ℕ) → length t.links ≤ steps + i → walk_end steps t i ≡ walk_end (length t.links) t start
        → LeadsOn t start (chosen t i)
    one zero few e = absurd (omega arith)
    one (suc steps) few e = (
      steps,
      omega (arith, few, (chosen-child t i w h b o).after),
      rw (ne_eqb (link_at t.links i).count 0 (λ q. omega arith)) at e,
    )

pub LeadsOn-leaf : (t : Tree) (start i : ℕ) → (link_at t.links i).count ≡ 0 → LeadsOn t start i → i ≡ walk_end (length t.links) t start
LeadsOn-leaf t start i z on = search (rules, eq-eqb)

-- an element that is read is the one that stands there
pub read-at : {X : Type 0} (xs : List X) (i : ℕ) (d x : X) → i < length xs → x ≡ get_or xs i x → get_or xs i d ≡ x
read-at {X = X} xs i d x h e = any xs i h ∙ sym e
  where
    any : (xs : List X) (i : ℕ) → i < length xs → get_or xs i d ≡ get_or xs i x
    any [] i h = absurd (omega arith)
    any (y ∷ ys) zero h = refl
    any (y ∷ ys) (suc i) h = any ys i (omega arith)

-- the first child of a node with this link whose number is m, where the children stand as a slice of these numbers
abbrev pub sliced_place : Link → ℕ → List Numbers → ℕ
sliced_place link m numbers = position_or_len (λ n. nat_eq (sought link.kind n) m)
    (take (link.first + link.count - link.first) (drop link.first numbers))

-- the next node of the walk after node i
pub record IsNext (t : Tree) (start i next : ℕ) : Type 0 where
  pub after : i < next
  pub inside : next < length t.links
  pub open_node : IsOpen (numbers_at t.numbers next)
  pub leads : LeadsOn t start next

pub next-child : (t : Tree) (start i : ℕ) (link : Link) (m : ℕ) (n : Numbers) (xs : List Numbers) (place : ℕ) → IsTree t
    → i < length t.links
    → IsOpen (numbers_at t.numbers i) → LeadsOn t start i → link_at t.links i ≡ link → link.count ≢ 0 → numbers_at t.numbers i ≡ n
    → m ≡ sought link.kind n → xs ≡ t.numbers → place ≡ sliced_place link m xs → IsNext t start i (link.first + place)
next-child t start i link m n xs place w h o on l b q m-is x place-is =
    let some : 0 < (link_at t.links i).count = omega (arith, ap (λ k. k.count) l) in
    let m-here : m ≡ sought link.kind (numbers_at t.numbers i) = m-is ∙ ap (sought link.kind) (sym q) in
    let one : link.first + place ≡ link.first + position_or_len
    (λ k. nat_eq (sought link.kind k) (sought link.kind (numbers_at t.numbers i))) (children_of link t.numbers) =
    ap (λ k. link.first + k) (place-is
    ∙ (ap (sliced_place link m) x
    ∙ (ap (λ k. sliced_place link k t.numbers) m-here
    ∙ ap (position_or_len (λ k. nat_eq (sought link.kind k) (sought link.kind (numbers_at t.numbers i))))
    (slice-children link t.numbers)))) in
    let two : link.first + position_or_len (λ k. nat_eq (sought link.kind k) (sought link.kind (numbers_at t.numbers i)))
    (children_of link t.numbers) ≡ chosen t i =
    ap (λ k. k.first + position_or_len (λ j. nat_eq (sought k.kind j) (sought k.kind (numbers_at t.numbers i))) (children_of k t.numbers))
    (sym l) in
    let is : link.first + place ≡ chosen t i = one ∙ two in
    let child : IsChosen t i = chosen-child t i w h some o in
    let P : ℕ → Type 0 = λ k. IsNext t start i k in
    subst P (sym is) (record {
      after = child.after;
      inside = child.inside;
      open_node = child.open_child;
      leads = LeadsOn-chosen t start i w h some o on;
    })
