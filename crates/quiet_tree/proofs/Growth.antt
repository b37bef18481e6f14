-- A tree stays small where its leaf is settled or gets children.
use Rattle.std.proofs.Common.{◌≡◌, ℕ, ◌+◌, ◌*◌, ◌<◌, ◌≤◌, ◌++◌, List, [], ◌∷◌, length, map, true, sym, ap, subst, inr, arith, rules, All}
use Rattle.std.specs.List.{list_all}
use Rattle.std.proofs.lemmas.Bool.Decides.{nat_tests}
use Rattle.std.proofs.lemmas.List.Elements.{All-head, All-tail, All-weaker}
use Rattle.std.proofs.lemmas.List.Sums.{AllPass-from_list_all}
use Rattle.proof_tree.specs.declared.Kind.{Kind}
use Rattle.proof_tree.specs.declared.Link.{Link}
use Rattle.proof_tree.specs.declared.Numbers.{Numbers}
use Rattle.proof_tree.specs.declared.TheConstants.{INFINITE}
use Rattle.proof_tree.proofs.Common.{AreNumbers, IsTree, Tree, finite, finite_sum, grown_links, leaf_sum, link_at, most_proving, sought}
use Rattle.proof_tree.proofs.Changed.{grown}
use Rattle.proof_tree.proofs.SumLaws.{leaf_sum-grown}
use Rattle.quiet_tree.specs.Trees.{IsSmall, is_small}
use Rattle.quiet_tree.specs.declared.TheConstants.{MOST_NUMBER}

-- what the test of a number that a node begins with tells
record AreSmall (n : Numbers) : Type 0 where
  proof_above : 1 ≤ n.proof
  proof_below : n.proof ≤ MOST_NUMBER
  disproof_above : 1 ≤ n.disproof
  disproof_below : n.disproof ≤ MOST_NUMBER

small-facts : (n : Numbers) → is_small n ≡ true → AreSmall n
small-facts n h = record {
  proof_above = grind (arith, nat_tests);
  proof_below = grind (arith, nat_tests);
  disproof_above = grind (arith, nat_tests);
  disproof_below = grind (arith, nat_tests);
}

small-sought : (kind : Kind) (n : Numbers) → AreSmall n → finite (sought kind n) ≤ MOST_NUMBER
small-sought kind n s = search rules

small-sum : (kind : Kind) (more : List Numbers) → All AreSmall more → finite_sum (map (sought kind) more) ≤ MOST_NUMBER * length more
small-sum kind [] h = omega arith
small-sum kind (n ∷ more) h = omega
    (arith, small-sought kind n (All-head AreSmall n more h), small-sum kind more (All-tail AreSmall n more h))

small-number : (n : Numbers) → AreSmall n → AreNumbers n
small-number n s = inr (record {
  proof_above = s.proof_above;
  proof_below = omega (arith, s.proof_below);
  disproof_above = s.disproof_above;
  disproof_below = omega (arith, s.disproof_below);
})

all-small : (more : List Numbers) → list_all is_small more ≡ true → All AreSmall more
all-small more h = All-weaker (λ n. is_small n ≡ true) AreSmall small-facts more (AllPass-from_list_all is_small more h)

pub small-numbers : (more : List Numbers) → list_all is_small more ≡ true → All AreNumbers more
small-numbers more h = All-weaker AreSmall AreNumbers small-number more (all-small more h)

-- a small tree whose most-proving leaf gets children with small numbers, as many as there is room for
module _ (t : Tree) (most leaf : ℕ) (more : List Numbers) (s : IsSmall t most) (ok : IsTree t) (is : leaf ≡ most_proving t)
    (inside : leaf < length t.links) (childless : (link_at t.links leaf).count ≡ 0) (some : 0 < length more)
    (room : length t.links + length more ≤ most) (each : list_all is_small more ≡ true) where
  below : most_proving t < length t.links
  below = subst (λ i. i < length t.links) is inside

  sum-grown : (kind : Kind) → leaf_sum kind (grown_links t.links (most_proving t) (length more)) (t.numbers ++ more)
      ≤ MOST_NUMBER * (length t.links + length more)
  sum-grown kind = omega (
    arith,
    s.sums kind,
    small-sum kind more (all-small more each),
    leaf_sum-grown kind t.links t.numbers more (most_proving t) ok.numbered.count below
        (subst (λ i. (link_at t.links i).count ≡ 0) is childless) some,
  )

  pub sums-below : (kind : Kind) → leaf_sum kind (grown_links t.links (most_proving t) (length more)) (t.numbers ++ more) < INFINITE
  sums-below kind = omega (arith, sum-grown kind, s.most_fits)

  pub small-grown : (u : Tree) → u.links ≡ grown_links t.links (most_proving t) (length more)
      → ((kind : Kind) → leaf_sum kind u.links u.numbers ≤ leaf_sum kind u.links (t.numbers ++ more)) → IsSmall u most
  small-grown u links less =
      let size = (grown t.links (most_proving t) (length more) below).sized in
      record {
        most_fits = s.most_fits;
        few = omega (arith, size, ap length links);
        sums = λ kind.
            let bound : leaf_sum kind u.links (t.numbers ++ more) ≤ MOST_NUMBER * (length t.links + length more) =
            subst (λ (l : List Link). leaf_sum kind l (t.numbers ++ more) ≤ MOST_NUMBER * (length t.links + length more)) (sym links)
            (sum-grown kind) in
            omega (arith, size, ap length links, less kind, bound);
      }
