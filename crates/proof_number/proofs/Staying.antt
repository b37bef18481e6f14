-- A proved or disproved node stays so where a leaf that is alive is settled or gets children.
use Rattle.std.proofs.Common.{◌≡◌, ◌∙◌, ℕ, zero, suc, ◌<◌, false, refl, sym, ap, arith, List, ◌++◌, length}
use Rattle.std.proofs.lemmas.List.{get_or_append_left}
use Rattle.proof_number.proofs.Common.{Link, Numbers, IsAlive, IsOnWayUp, IsTree, OthersStay, Tree, ancestor, link_at}
use Rattle.proof_number.proofs.Common.{no_numbers, numbers_at, settled_numbers}
use Rattle.proof_tree.proofs.OpenWays.{alive-open}
use Rattle.proof_tree.proofs.Settled.{ancestor-inside}

module _ (t : Tree) (ok : IsTree t) (leaf : ℕ) (inside : leaf < length t.links) (alive : IsAlive t leaf) where
  -- it is not on the way up from the leaf
  beside-way : (j : ℕ) → numbers_at t.numbers j ≡ settled_numbers false → IsOnWayUp t.links leaf j → ⊥
  beside-way j lost way =
      let some = (alive-open t ok leaf inside alive j way).disproof_above in
      let none = ap (λ (n : Numbers). n.disproof) lost in
      omega (arith, some, none)

  -- nor is a proved one
  pub beside-proved : (j : ℕ) → (numbers_at t.numbers j).proof ≡ 0 → IsOnWayUp t.links leaf j → ⊥
  beside-proved j none way = let some = (alive-open t ok leaf inside alive j way).proof_above in omega (arith, some, none)

  pub settled-stays : (numbers : List Numbers) → OthersStay t.links leaf t.numbers numbers → (j : ℕ)
      → numbers_at t.numbers j ≡ settled_numbers false → numbers_at numbers j ≡ settled_numbers false
  settled-stays numbers others j lost = others j (beside-way j lost) ∙ lost

  -- a node that is not on the way up keeps its numbers where the leaf gets children
  expanded-same : (links : List Link) (numbers more : List Numbers)
      → ((j : ℕ) → j < length t.links → (link_at links j).parent ≡ (link_at t.links j).parent)
      → OthersStay links leaf (t.numbers ++ more) numbers → (j : ℕ) → j < length t.links
      → (IsOnWayUp t.links leaf j → ⊥) → numbers_at numbers j ≡ numbers_at t.numbers j
  expanded-same links numbers more parents others j low beside =
      others j (λ way. beside (way.0, sym (same way.0) ∙ way.1))
      ∙ get_or_append_left t.numbers more no_numbers j (let e = ok.numbered.count in omega (arith, e, low)) where
        same : (steps : ℕ) → ancestor links steps leaf ≡ ancestor t.links steps leaf
        same zero = refl
        same (suc n) = ap (λ (m : ℕ). (link_at links m).parent) (same n)
            ∙ parents (ancestor t.links n leaf) (ancestor-inside t.links ok.linked n leaf inside)

  module _ (links : List Link) (numbers more : List Numbers)
      (parents : (j : ℕ) → j < length t.links → (link_at links j).parent ≡ (link_at t.links j).parent)
      (others : OthersStay links leaf (t.numbers ++ more) numbers) (j : ℕ) (low : j < length t.links) where
    pub expanded-stays : numbers_at t.numbers j ≡ settled_numbers false → numbers_at numbers j ≡ settled_numbers false
    expanded-stays lost = expanded-same links numbers more parents others j low (beside-way j lost) ∙ lost

    pub expanded-proved : (numbers_at t.numbers j).proof ≡ 0 → numbers_at numbers j ≡ numbers_at t.numbers j
    expanded-proved none = expanded-same links numbers more parents others j low (beside-proved j none)
