-- What is settled where a leaf gets other numbers: a node is proved or disproved as before, if the leaf is.
use Rattle.std.proofs.Common.{◌≡◌, ◌⊎◌, ℕ, zero, suc, ◌+◌, ◌<◌, ◌≤◌, List, [], ◌∷◌, map, length, drop, get_or, inl, inr, refl, sym}
use Rattle.std.proofs.Common.{ap, subst, ◌∙◌, arith, Bool, true, false}
use Rattle.std.proofs.lemmas.Bool.{cases_eq}
use Rattle.std.proofs.lemmas.List.{length-take-le, length-drop}
use Rattle.proof_tree.specs.declared.Kind.{Kind}
use Rattle.proof_tree.specs.declared.Kind.TheVariants.{Attack, Defend}
use Rattle.proof_tree.specs.declared.Link.{Link}
use Rattle.proof_tree.specs.declared.Numbers.{Numbers}
use Rattle.proof_tree.proofs.Common.{IsAlive, IsOpen, is_settled, settled_numbers}
use Rattle.proof_tree.proofs.Common.{IsTree, OthersStay, Tree, children_of, combined, least, link_at, no_numbers, numbers_at, total}
use Rattle.proof_tree.proofs.Settled.{ancestor-inside, leaf-beside, least-zero, settled-disproved, settled-one, settled-proved, total-zero}
use Rattle.proof_tree.proofs.Updated.{child-number}

-- these numbers are 0 where the others are
pub record Carries (n m : Numbers) : Type 0 where
  pub proof : n.proof ≡ 0 → m.proof ≡ 0
  pub disproof : n.disproof ≡ 0 → m.disproof ≡ 0

zero-least : (f : Numbers → ℕ) (ns : List Numbers) (k : ℕ) → k < length ns → f (get_or ns k no_numbers) ≡ 0 → least (map f ns) ≡ 0
zero-least f [] k inside e = absurd (omega arith)
zero-least f (n ∷ ns) zero inside e = omega (arith, e)
zero-least f (n ∷ ns) (suc k) inside e = omega (arith, zero-least f ns k (omega arith) e)

zero-total : (f : Numbers → ℕ) (ns : List Numbers) → ((k : ℕ) → k < length ns → f (get_or ns k no_numbers) ≡ 0) → total (map f ns) ≡ 0
zero-total f [] each = refl
zero-total f (n ∷ ns) each =
    let first : f n ≡ 0 = each 0 (omega arith) in
    let rest : total (map f ns) ≡ 0 = zero-total f ns (λ k inside. each (suc k) (omega arith)) in
    rw (first, rest) refl

module _ (ns ms : List Numbers) (same : length ns ≡ length ms)
    (each : (k : ℕ) → k < length ns → Carries (get_or ns k no_numbers) (get_or ms k no_numbers)) where
  least-carried : (f : Numbers → ℕ) → ((n m : Numbers) → Carries n m → f n ≡ 0 → f m ≡ 0) → least (map f ns) ≡ 0 → least (map f ms) ≡ 0
  least-carried f one e =
      let is = least-zero f ns e in
      zero-least f ms is.0 (let low = is.1 in omega (arith, low, same)) (one _ _ (each is.0 is.1) is.2)

  total-carried : (f : Numbers → ℕ) → ((n m : Numbers) → Carries n m → f n ≡ 0 → f m ≡ 0) → total (map f ns) ≡ 0 → total (map f ms) ≡ 0
  total-carried f one e = zero-total f ms (λ k inside.
      let low : k < length ns = omega (arith, inside, same) in one _ _ (each k low) (total-zero f ns e k low))

  combined-carried : (kind : Kind) → Carries (combined kind ns) (combined kind ms)
  combined-carried Attack = record {
    proof = least-carried (λ n. n.proof) (λ n m c. c.proof);
    disproof = total-carried (λ n. n.disproof) (λ n m c. c.disproof);
  }
  combined-carried Defend = record {
    proof = total-carried (λ n. n.proof) (λ n m c. c.proof);
    disproof = least-carried (λ n. n.disproof) (λ n m c. c.disproof);
  }

children-long : (t : Tree) (i : ℕ) → IsTree t → i < length t.links
    → length (children_of (link_at t.links i) t.numbers) ≡ (link_at t.links i).count
children-long t i ok low =
    length-take-le (link_at t.links i).count (drop (link_at t.links i).first t.numbers)
    (omega (arith, length-drop (link_at t.links i).first t.numbers, ok.numbered.count, ok.linked.within i low))

-- where a leaf gets other numbers, each node is proved or disproved if it was and the leaf, if it was one, is
pub carried : (t : Tree) (numbers : List Numbers) (leaf : ℕ) → IsTree t → IsTree (record { links = t.links; numbers = numbers })
    → leaf < length t.links → OthersStay t.links leaf t.numbers numbers → Carries (numbers_at t.numbers leaf) (numbers_at numbers leaf)
    → (fuel j : ℕ) → length t.links ≤ fuel + j → j < length t.links → Carries (numbers_at t.numbers j) (numbers_at numbers j)
carried t numbers leaf ok now inside others here zero j few low = absurd (omega arith)
carried t numbers leaf ok now inside others here (suc fuel) j few low = by_count (cases_eq (link_at t.links j).count 0)
    (λ k after. carried t numbers leaf ok now inside others here fuel k (omega (arith, few, after))) where
      u : Tree
      u = record { links = t.links; numbers = numbers }

      by_leaf : (link_at t.links j).count ≡ 0 → (j ≡ leaf) ⊎ (j ≡ leaf → ⊥) → Carries (numbers_at t.numbers j) (numbers_at numbers j)
      by_leaf none (inl same) = subst (λ (k : ℕ). Carries (numbers_at t.numbers k) (numbers_at numbers k)) (sym same) here
      by_leaf none (inr other) =
          let same : numbers_at numbers j ≡ numbers_at t.numbers j = others j (leaf-beside t.links ok.linked leaf j inside none other) in
          record { proof = λ e. ap (λ (n : Numbers). n.proof) same ∙ e; disproof = λ e. ap (λ (n : Numbers). n.disproof) same ∙ e }

      by_count : ((link_at t.links j).count ≡ 0) ⊎ ((link_at t.links j).count ≡ 0 → ⊥)
          → ((k : ℕ) → j < k → k < length t.links → Carries (numbers_at t.numbers k) (numbers_at numbers k))
          → Carries (numbers_at t.numbers j) (numbers_at numbers j)
      by_count (inl none) later = by_leaf none (cases_eq j leaf)
      by_count (inr more) later =
          let link : Link = link_at t.links j in
          let some : 0 < link.count = omega (arith, more) in
          let long = children-long t j ok low in
          let long_now = children-long u j now low in
          let each : (k : ℕ) → k < length (children_of link t.numbers)
          → Carries (get_or (children_of link t.numbers) k no_numbers) (get_or (children_of link numbers) k no_numbers) =
          λ k small.
          let below : k < link.count = omega (arith, small, long) in
          rw (child-number link t.numbers k below, child-number link numbers k below)
          (later (link.first + k) (omega (arith, ok.linked.later j low some)) (omega (arith, ok.linked.within j low, below))) in
          rw (ok.numbered.combined_at j low some, now.numbered.combined_at j low some)
          (combined-carried (children_of link t.numbers) (children_of link numbers) (long ∙ sym long_now) each link.kind)

-- ---- where an open leaf stays open

both : (a b : Bool) → (a ≡ true → b ≡ true) → (b ≡ true → a ≡ true) → a ≡ b
both true b to from = sym (to refl)
both false true to from = from refl
both false false to from = refl

module _ (t : Tree) (numbers : List Numbers) (leaf : ℕ) (ok : IsTree t) (now : IsTree (record { links = t.links; numbers = numbers }))
    (inside : leaf < length t.links) (others : OthersStay t.links leaf t.numbers numbers) (was : IsOpen (numbers_at t.numbers leaf))
    (is : IsOpen (numbers_at numbers leaf)) where
  forth : (j : ℕ) → j < length t.links → Carries (numbers_at t.numbers j) (numbers_at numbers j)
  forth j low = carried t numbers leaf ok now inside others (record {
    proof = λ e. let some = was.proof_above in absurd (omega (arith, e, some));
    disproof = λ e. let some = was.disproof_above in absurd (omega (arith, e, some));
  }) (length t.links) j (omega arith) low

  back : (j : ℕ) → j < length t.links → Carries (numbers_at numbers j) (numbers_at t.numbers j)
  back j low = carried (record { links = t.links; numbers = numbers }) t.numbers leaf now ok inside (λ i beside. sym (others i beside))
      (record {
        proof = λ e. let some = is.proof_above in absurd (omega (arith, e, some));
        disproof = λ e. let some = is.disproof_above in absurd (omega (arith, e, some));
      }) (length t.links) j (omega arith) low

  -- a node is settled as it was, and no other is
  pub settled-forth : (p : Bool) (j : ℕ) → j < length t.links → numbers_at t.numbers j ≡ settled_numbers p
      → numbers_at numbers j ≡ settled_numbers p
  settled-forth true j low e = settled-proved _ (now.numbered.each j low) ((forth j low).proof (ap (λ (n : Numbers). n.proof) e))
  settled-forth false j low e = settled-disproved _ (now.numbered.each j low) ((forth j low).disproof (ap (λ (n : Numbers). n.disproof) e))

  pub settled-back : (p : Bool) (j : ℕ) → j < length t.links → numbers_at numbers j ≡ settled_numbers p
      → numbers_at t.numbers j ≡ settled_numbers p
  settled-back true j low e = settled-proved _ (ok.numbered.each j low) ((back j low).proof (ap (λ (n : Numbers). n.proof) e))
  settled-back false j low e = settled-disproved _ (ok.numbered.each j low) ((back j low).disproof (ap (λ (n : Numbers). n.disproof) e))

  pub proved-same : (j : ℕ) → j < length t.links → (numbers_at t.numbers j).proof ≡ 0 → numbers_at numbers j ≡ numbers_at t.numbers j
  proved-same j low none =
      let was_proved = settled-proved _ (ok.numbered.each j low) none in settled-forth true j low was_proved ∙ sym was_proved

  pub same-settled : (j : ℕ) → j < length t.links → is_settled (numbers_at numbers j) ≡ is_settled (numbers_at t.numbers j)
  same-settled j low = both _ _
      (λ e. elim (settled-one _ e) [
        | inl proved ↦ ap is_settled (settled-back true j low proved)
        | inr lost ↦ ap is_settled (settled-back false j low lost)
      ])
      (λ e. elim (settled-one _ e) [
        | inl proved ↦ ap is_settled (settled-forth true j low proved)
        | inr lost ↦ ap is_settled (settled-forth false j low lost)
      ])

  pub alive-stays : (i : ℕ) → i < length t.links → IsAlive t i → IsAlive (record { links = t.links; numbers = numbers }) i
  alive-stays i low alive j way =
      same-settled j (subst (λ (k : ℕ). k < length t.links) way.1 (ancestor-inside t.links ok.linked way.0 i low)) ∙ alive j way
