-- Nodes that are alive: none up to the root is settled. A walk from one ends at one.
use Rattle.std.proofs.Common.{◌≡◌, ◌⊎◌, inl, inr, ℕ, zero, suc, ◌<◌, true, false, refl, sym, ap, subst, ◌∙◌, arith, length}
use Rattle.std.proofs.lemmas.Bool.{cases_eq, eq-eqb, ne_eqb}
use Rattle.proof_tree.proofs.Common.{IsAlive, IsOpen, is_settled, IsOnWayUp, IsTree, Tree, ancestor, chosen, link_at, most_proving}
use Rattle.proof_tree.proofs.Common.{numbers_at}
use Rattle.proof_tree.proofs.Common.{walk_end}
use Rattle.proof_tree.proofs.Settled.{ancestor-inside, ancestor-up}
use Rattle.proof_tree.proofs.Walks.{chosen-child, open-unsettled}

-- the nodes from the start up to node i are not settled, and node i is on the way up
pub record IsSoFar (t : Tree) (start i : ℕ) : Type 0 where
  pub inside : i < length t.links
  pub above : IsOnWayUp t.links start i
  pub passed : (j : ℕ) → IsOnWayUp t.links start j → IsOnWayUp t.links i j ⊎ (is_settled (numbers_at t.numbers j) ≡ false)

module _ (t : Tree) (w : IsTree t) where
  -- a node from the end of a walk up is open, or on the way up from the open node where the walk begins
  walk-open : (steps i : ℕ) → i < length t.links → IsOpen (numbers_at t.numbers i) → (above j : ℕ)
      → ancestor t.links above (walk_end steps t i) ≡ j → IsOnWayUp t.links i j ⊎ IsOpen (numbers_at t.numbers j)
  walk-open zero i inside own above j e = inl (above, e)
  walk-open (suc steps) i inside own above j e = by_count (cases_eq (link_at t.links i).count 0)
      (λ k low child up. walk-open steps k low child above j up) where
        climb : (k : ℕ) → (link_at t.links k).parent ≡ i → IsOpen (numbers_at t.numbers k) → (n : ℕ) → ancestor t.links n k ≡ j
            → IsOnWayUp t.links i j ⊎ IsOpen (numbers_at t.numbers j)
        climb k parent child zero up = inr (subst (λ (m : ℕ). IsOpen (numbers_at t.numbers m)) up child)
        climb k parent child (suc n) up =
            inl (n, ap (λ (m : ℕ). ancestor t.links n m) (sym parent) ∙ sym (ancestor-up t.links n k) ∙ up)

        by_count : ((link_at t.links i).count ≡ 0) ⊎ ((link_at t.links i).count ≡ 0 → ⊥)
            → ((k : ℕ) → k < length t.links → IsOpen (numbers_at t.numbers k) → ancestor t.links above (walk_end steps t k) ≡ j
            → IsOnWayUp t.links k j ⊎ IsOpen (numbers_at t.numbers j))
            → IsOnWayUp t.links i j ⊎ IsOpen (numbers_at t.numbers j)
        by_count (inl none) later = inl (above, (rw (eq-eqb (link_at t.links i).count 0 none) at e))
        by_count (inr some) later =
            let next = chosen-child t i w inside (omega (arith, some)) own in
            let parent : (link_at t.links (chosen t i)).parent ≡ i = w.linked.parents i (chosen t i) inside next.child in
            elim (later (chosen t i) next.inside next.open_child (rw (ne_eqb (link_at t.links i).count 0 some) at e)) [
              | inl way ↦ climb (chosen t i) parent next.open_child way.0 way.1
              | inr is ↦ inr is
            ]

  is-open : (i : ℕ) → i < length t.links → is_settled (numbers_at t.numbers i) ≡ false → IsOpen (numbers_at t.numbers i)
  is-open i inside unsettled = elim (w.numbered.each i inside) [
    | inl settled ↦ absurd (let bad : true ≡ false = sym settled ∙ unsettled in cc)
    | inr is ↦ is
  ]

  -- each node up to the root from one that is alive is open
  pub alive-open : (i : ℕ) → i < length t.links → IsAlive t i → (j : ℕ) → IsOnWayUp t.links i j → IsOpen (numbers_at t.numbers j)
  alive-open i inside alive j way =
      is-open j (subst (λ (m : ℕ). m < length t.links) way.1 (ancestor-inside t.links w.linked way.0 i inside)) (alive j way)

  -- a walk from a node that is alive ends at one
  pub walk-alive : (start : ℕ) → start < length t.links → IsAlive t start → IsAlive t (walk_end (length t.links) t start)
  walk-alive start inside alive j way =
      elim (walk-open (length t.links) start inside (is-open start inside (alive start (0, refl))) way.0 j way.1) [
        | inl above ↦ alive j above
        | inr is ↦ open-unsettled (numbers_at t.numbers j) is
      ]

  root-stays : (steps : ℕ) → ancestor t.links steps 0 ≡ 0
  root-stays zero = refl
  root-stays (suc n) = ap (λ (m : ℕ). (link_at t.links m).parent) (root-stays n) ∙ w.linked.root_parent

  -- a root that is open is alive
  pub root-alive : is_settled (numbers_at t.numbers 0) ≡ false → IsAlive t 0
  root-alive unsettled j way = subst (λ (m : ℕ). is_settled (numbers_at t.numbers m) ≡ false) (sym (root-stays way.0) ∙ way.1) unsettled

  pub so-far-first : (start : ℕ) → start < length t.links → IsSoFar t start start
  so-far-first start low = record { inside = low; above = (0, refl); passed = λ j way. inl way }

  pub so-far-next : (start i : ℕ) → IsSoFar t start i → 0 < i → is_settled (numbers_at t.numbers i) ≡ false
      → IsSoFar t start (link_at t.links i).parent
  so-far-next start i far some unsettled = record {
    inside = omega (arith, w.linked.parent_first i some far.inside, far.inside);
    above = (suc far.above.0, ap (λ (m : ℕ). (link_at t.links m).parent) far.above.1);
    passed = λ j way. elim (far.passed j way) [
      | inl on ↦ split on.0 j on.1
      | inr is ↦ inr is
    ];
  } where
    split : (steps j : ℕ) → ancestor t.links steps i ≡ j
        → IsOnWayUp t.links (link_at t.links i).parent j ⊎ (is_settled (numbers_at t.numbers j) ≡ false)
    split zero j e = inr (subst (λ (m : ℕ). is_settled (numbers_at t.numbers m) ≡ false) e unsettled)
    split (suc n) j e = inl (n, sym (ancestor-up t.links n i) ∙ e)

  pub so-far-alive : (start : ℕ) → IsSoFar t start 0 → is_settled (numbers_at t.numbers 0) ≡ false → IsAlive t start
  so-far-alive start far unsettled j way = elim (far.passed j way) [
    | inl on ↦ root-alive unsettled j on
    | inr is ↦ is
  ]

-- from the most-proving leaf of an open root
pub way-open : (t : Tree) → IsTree t → is_settled (numbers_at t.numbers 0) ≡ false → IsAlive t (most_proving t)
way-open t w unsettled = walk-alive t w 0 w.linked.some (root-alive t w unsettled)
