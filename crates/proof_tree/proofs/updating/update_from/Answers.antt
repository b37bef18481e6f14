use Rattle.std.proofs.Common.{◌≡◌, ◌<◌, ℕ, List, map, set, inl, sym, ◌∙◌, ap, subst, arith}
use Rattle.proof_tree.proofs.Common.{combined, finite_sum, sought, IsNumbered, children_of, link_at}
use Rattle.proof_tree.specs.declared.Link.{Link}
use Rattle.proof_tree.specs.declared.Numbers.{Numbers}
use Rattle.proof_tree.specs.declared.TheConstants.{INFINITE}
use Rattle.proof_tree.proofs.LeafSums.{leaf_sum-set}
use Rattle.proof_tree.proofs.Updated.{IsRightBut, children-sums, others-written, parent-above, right-above, right-at_root, slice-children}
use Rattle.proof_tree.proofs.updating.update_from.Goals as goal

pub combined-found-requires : goal.combined-found-requires
combined-found-requires c =
    let link : Link = link_at c.args.links.now c.loop-link.number in
    record {
      sums = λ k.
          let P : List Numbers → Type 0 = λ ns. finite_sum (map (sought k) ns) < INFINITE in
          subst P (sym (slice-children link c.loop-link.numbers))
          (children-sums c.args.links.now c.loop-link.numbers c.loop-link.number c.requires.linked c.loop-link.invariant.inside
          c.loop-link.invariant.right k);
    }

pub returns-then-number-eq0-clause-numbered : goal.returns-then-number-eq0-clause-numbered
returns-then-number-eq0-clause-numbered c =
    let links : List Link = c.args.links.now in
    let numbers : List Numbers = c.loop-link.numbers in
    let P : ℕ → Type 0 = λ i. IsRightBut links numbers i in
    let found : c.combined-found.result ≡ combined (link_at links c.loop-link.number).kind
    (children_of (link_at links c.loop-link.number) numbers) =
    c.combined-found.ensures.combined ∙ ap (combined (link_at links c.loop-link.number).kind)
    (slice-children (link_at links c.loop-link.number) numbers) in
    let root : IsNumbered links (set numbers 0 (combined (link_at links 0).kind (children_of (link_at links 0) numbers))) =
    right-at_root links numbers c.requires.linked (subst P c.if-number-eq0.true c.loop-link.invariant.right) in
    let Q : ℕ → Type 0 = λ i. IsNumbered links (set numbers i (combined (link_at links i).kind (children_of (link_at links i) numbers))) in
    let R : Numbers → Type 0 = λ x. IsNumbered links (set numbers c.loop-link.number x) in
    subst R (sym found) (subst Q (sym c.if-number-eq0.true) root)

pub loop-link-preserved : goal.loop-link-preserved
loop-link-preserved c =
    let links : List Link = c.args.links.now in
    let numbers : List Numbers = c.loop-link.numbers in
    let i : ℕ = c.loop-link.number in
    let found : c.combined-found.result ≡ combined (link_at links i).kind (children_of (link_at links i) numbers) =
    c.combined-found.ensures.combined ∙ ap (combined (link_at links i).kind) (slice-children (link_at links i) numbers) in
    let some : 0 < i = omega (arith, c.if-number-eq0.false) in
    let R : Numbers → Type 0 = λ x. IsRightBut links (set numbers i x) (link_at links i).parent in
    record {
      inside = omega (arith, c.requires.linked.parent_first i some c.loop-link.invariant.inside);
      right = subst R (sym found)
          (right-above links numbers i c.requires.linked c.loop-link.invariant.inside some c.loop-link.invariant.right);
      above = parent-above links c.args.start i c.loop-link.invariant.above;
      others = others-written links c.args.start i c.args.numbers.now numbers c.combined-found.result c.loop-link.invariant.above
          c.loop-link.invariant.others;
      leaves = λ kind. omega (
        arith,
        c.loop-link.invariant.leaves kind,
        leaf_sum-set kind links numbers i c.combined-found.result (inl c.loop-link.invariant.right.has_children),
      );
    }

pub returns-then-number-eq0-clause-leaves : goal.returns-then-number-eq0-clause-leaves
returns-then-number-eq0-clause-leaves c = λ kind. omega (
  arith,
  c.loop-link.invariant.leaves kind,
  leaf_sum-set kind c.args.links.now c.loop-link.numbers c.loop-link.number
      c.combined-found.result (inl c.loop-link.invariant.right.has_children),
)
