-- What becomes of a tree when its leaf is settled or given children.
use Rattle.std.proofs.Common.{◌≡◌, ◌≢◌, ℕ, zero, suc, ◌+◌, ◌-◌, ◌<◌, ◌≤◌, Bool, List, ◌++◌, length, take, drop, set, replicate, get_or}
use Rattle.std.proofs.Common.{inl, inr, refl, sym, ◌∙◌, ap, subst, arith, All, rules}
use Rattle.std.proofs.lemmas.Bool.{cases_eq, cases_lt}
use Rattle.std.proofs.lemmas.List.{drop-append-le, get_or-append_right, get_or-replicate, get_or-set_other, get_or-set_same}
use Rattle.std.proofs.lemmas.List.{get_or_append_left, length-append, length-drop, length-replicate, length-set, set-append_left}
use Rattle.std.proofs.lemmas.List.{take-append-le}
use Rattle.std.proofs.Math.Seq.{take-append_seam}
use Rattle.proof_tree.specs.declared.TheConstants.{INFINITE}
use Rattle.proof_tree.specs.declared.Kind.{Kind}
use Rattle.proof_tree.specs.declared.Kind.TheVariants.{Attack}
use Rattle.proof_tree.specs.declared.Numbers.{Numbers}
use Rattle.proof_tree.specs.declared.Link.{Link}
use Rattle.proof_tree.proofs.Common.{AreNumbers, combined, finite, no_numbers, other_kind, sought, IsChild, IsCombinedAt}
use Rattle.proof_tree.proofs.Common.{IsLinked, IsNumbered, IsOnWayUp, IsTree, OthersStay, Tree, ancestor, children_of, grown_links}
use Rattle.proof_tree.proofs.Common.{leaf_link, leaf_sum, link_at, numbers_at, settled_numbers}
use Rattle.proof_tree.proofs.Combined.{finite-infinite, finite-le}
use Rattle.proof_tree.proofs.Updated.{IsRightBut, stays-combined, written-each}
use Rattle.proof_tree.proofs.Walks.{read-at}

-- a leaf has no children's numbers
leaf-combined : (links : List Link) (numbers : List Numbers) (i : ℕ) → (link_at links i).count ≡ 0 → IsCombinedAt links numbers i
leaf-combined links numbers i z b = absurd (omega arith)

-- where the root is a leaf and gets other numbers, all are right
pub renumbered-root : (links : List Link) (numbers : List Numbers) (x : Numbers) → IsLinked links → IsNumbered links numbers
    → (link_at links 0).count ≡ 0 → AreNumbers x → ((kind : Kind) → leaf_sum kind links (set numbers 0 x) < INFINITE)
    → IsNumbered links (set numbers 0 x)
renumbered-root links numbers x w r z good sums = grind (arith, length-set, written-each, cases_eq, leaf-combined, stays-combined)

-- where another leaf gets other numbers, its parent alone is left
pub renumbered-leaf : (links : List Link) (numbers : List Numbers) (i : ℕ) (x : Numbers) → IsLinked links → IsNumbered links numbers → 0 < i
    → i < length links → (link_at links i).count ≡ 0 → AreNumbers x → ((kind : Kind) → leaf_sum kind links (set numbers i x) < INFINITE)
    → IsRightBut links (set numbers i x) (link_at links i).parent
renumbered-leaf links numbers i x w r b h z good sums = record {
  count = length-set numbers i x ∙ r.count;
  has_children = omega (arith, (w.children i b h).from_first, (w.children i b h).below_end);
  each = written-each links numbers i x (omega (arith, r.count)) good r.each;
  combined_at = λ j k other. elim (cases_eq j i) [
    | inl q ↦ let P : ℕ → Type 0 = λ m. IsCombinedAt links (set numbers i x) m in
        subst P (sym q) (leaf-combined links (set numbers i x) i z)
    | inr n ↦ stays-combined links numbers i j x n (λ child. other (sym (w.parents j i k child))) (r.combined_at j k)
  ];
  sums = sums;
}

-- the links of a tree whose leaf i is given children
pub record IsGrown (links : List Link) (i count : ℕ) (new : List Link) : Type 0 where
  pub sized : length new ≡ length links + count
  pub here : link_at new i ≡ record {
    kind = (link_at links i).kind;
    parent = (link_at links i).parent;
    first = length links;
    count = count;
  }
  pub others : (j : ℕ) → j < length links → j ≢ i → link_at new j ≡ link_at links j
  pub leaves : (j : ℕ) → length links ≤ j → j < length links + count → link_at new j ≡ leaf_link (other_kind (link_at links i).kind) i

pub grown : (links : List Link) (i count : ℕ) → i < length links → IsGrown links i count (grown_links links i count)
grown links i count h =
    let own : Link = record { kind = (link_at links i).kind; parent = (link_at links i).parent; first = length links; count = count } in
    let child : Link = leaf_link (other_kind (link_at links i).kind) i in
    let none : Link = leaf_link Attack 0 in
    record {
      sized = length-append (set links i own) (replicate count child) ∙ omega (arith, length-set links i own, length-replicate count child);
      here = get_or_append_left (set links i own) (replicate count child) none i (omega (arith, length-set links i own))
          ∙ get_or-set_same links i own none h;
      others = λ j k n. get_or_append_left (set links i own) (replicate count child) none j (omega (arith, length-set links i own))
          ∙ get_or-set_other links i j own none n;
      leaves = λ j from to. get_or-append_right (set links i own) (replicate count child) (length links) j none (length-set links i own)
          from ∙ get_or-replicate count (j - length links) child none (omega arith);
    }

-- what the leaf keeps as it is given children, each node of the old tree keeps
old-same : {X : Type 0} (f : Link → X) (links : List Link) (i count : ℕ) (new : List Link) (j : ℕ) → IsGrown links i count new
    → f (link_at new i) ≡ f (link_at links i) → j < length links → f (link_at new j) ≡ f (link_at links j)
old-same f links i count new j g kept h = search (rules, cases_eq)

module _ (links : List Link) (i count : ℕ) (new : List Link) (j : ℕ) (g : IsGrown links i count new) (old : j < length links) where
  old-parent : (link_at new j).parent ≡ (link_at links j).parent
  old-parent = old-same (λ l. l.parent) links i count new j g (ap (λ l. l.parent) g.here) old

  old-kind : (link_at new j).kind ≡ (link_at links j).kind
  old-kind = old-same (λ l. l.kind) links i count new j g (ap (λ l. l.kind) g.here) old

-- what a node of the grown tree is: the leaf, another node of the old tree, or one of its leaves
data Place (links : List Link) (i count : ℕ) (new : List Link) (j : ℕ) : Type 0 where
  at_leaf : j ≡ i → (link_at new j).first ≡ length links → (link_at new j).count ≡ count → Place links i count new j
  at_other : j < length links → j ≢ i → link_at new j ≡ link_at links j → Place links i count new j
  at_child : length links ≤ j → (link_at new j).count ≡ 0 → (link_at new j).first ≡ 0 → (link_at new j).parent ≡ i
      → (link_at new j).kind ≡ other_kind (link_at links i).kind → Place links i count new j

place : (links : List Link) (i count : ℕ) (new : List Link) (j : ℕ) → IsGrown links i count new → j < length new → Place links i count new j
place links i count new j g h = elim (cases_eq j i) [
  | inl q ↦ at_leaf q (ap (λ k. (link_at new k).first) q ∙ ap (λ l. l.first) g.here)
      (ap (λ k. (link_at new k).count) q ∙ ap (λ l. l.count) g.here)
  | inr n ↦ elim (cases_lt j (length links)) [
    | inl old ↦ at_other old n (g.others j old n)
    | inr from ↦
        let l : link_at new j ≡ leaf_link (other_kind (link_at links i).kind) i = g.leaves j from (omega (arith, g.sized)) in
        at_child from (ap (λ k. k.count) l) (ap (λ k. k.first) l) (ap (λ k. k.parent) l) (ap (λ k. k.kind) l)
  ]
]

later-grown : (links : List Link) (i count : ℕ) (new : List Link) → IsLinked links → i < length links → IsGrown links i count new → (j : ℕ)
    → j < length new → 0 < (link_at new j).count → j < (link_at new j).first
later-grown links i count new w h g j k b = search rules

within-grown : (links : List Link) (i count : ℕ) (new : List Link) → IsLinked links → IsGrown links i count new → (j : ℕ) → j < length new
    → (link_at new j).first + (link_at new j).count ≤ length new
within-grown links i count new w g j k = search rules

-- a child of another node of the old tree was its child there
old-child : (links : List Link) (new : List Link) (j m : ℕ) → link_at new j ≡ link_at links j → IsChild (link_at new j) m
    → IsChild (link_at links j) m
old-child links new j m l child = let P : Link → Type 0 = λ k. IsChild k m in subst P l child

-- the kinds and the parents of a node's children in the grown tree
record ChildSays (new : List Link) (j m : ℕ) : Type 0 where
  parent : (link_at new m).parent ≡ j
  kind : (link_at new m).kind ≡ other_kind (link_at new j).kind

child-says : (links : List Link) (i count : ℕ) (new : List Link) → IsLinked links → i < length links → IsGrown links i count new → (j m : ℕ)
    → j < length new → IsChild (link_at new j) m → ChildSays new j m
child-says links i count new w h g j m k child = search (rules, old-child, old-parent, old-kind)

children-grown : (links : List Link) (i count : ℕ) (new : List Link) → IsLinked links → i < length links → (link_at links i).count ≡ 0
    → IsGrown links i count new → (j : ℕ) → 0 < j → j < length new → IsChild (link_at new (link_at new j).parent) j
children-grown links i count new w h z g j b k = search (rules, cases_lt, old-parent)

first-grown : (links : List Link) (i count : ℕ) (new : List Link) → IsLinked links → i < length links → IsGrown links i count new → (j : ℕ)
    → 0 < j → j < length new → (link_at new j).parent < j
first-grown links i count new w h g j b k = search (rules, cases_lt, old-parent)

pub linked-grown : (links : List Link) (i count : ℕ) → IsLinked links → i < length links → (link_at links i).count ≡ 0
    → IsLinked (grown_links links i count)
linked-grown links i count w h z =
    let new : List Link = grown_links links i count in
    let g : IsGrown links i count new = grown links i count h in
    record {
      some = omega (arith, g.sized, w.some);
      root_attacks = old-kind links i count new 0 g w.some ∙ w.root_attacks;
      root_parent = old-parent links i count new 0 g w.some ∙ w.root_parent;
      later = later-grown links i count new w h g;
      within = within-grown links i count new w g;
      parents = λ j m k child. (child-says links i count new w h g j m k child).parent;
      kinds = λ j m k child. (child-says links i count new w h g j m k child).kind;
      children = children-grown links i count new w h z g;
      parent_first = first-grown links i count new w h g;
    }

-- the children of an old node stand among the old numbers
old-children : (link : Link) (numbers more : List Numbers) → link.first + link.count ≤ length numbers
    → children_of link (numbers ++ more) ≡ children_of link numbers
old-children link numbers more h = search (rules, drop-append-le, take-append-le, length-drop)

each-grown : (links : List Link) (numbers more : List Numbers) → length numbers ≡ length links
    → ((j : ℕ) → j < length links → AreNumbers (numbers_at numbers j)) → All AreNumbers more → (j : ℕ) → j < length links + length more
    → AreNumbers (numbers_at (numbers ++ more) j)
each-grown links numbers more s each good j h = elim (cases_lt j (length links)) [
  | inl old ↦ subst AreNumbers (sym (get_or_append_left numbers more no_numbers j (omega (arith, s)))) (each j old)
  | inr from ↦ subst AreNumbers (sym (get_or-append_right numbers more (length links) j no_numbers s from))
      (good (j - length links) no_numbers (omega arith))
]

-- once leaf i has children, its own numbers alone are left
pub right-grown : (links : List Link) (numbers more : List Numbers) (i : ℕ) → IsLinked links → IsNumbered links numbers → i < length links
    → (link_at links i).count ≡ 0 → 0 < length more → All AreNumbers more
    → ((kind : Kind) → leaf_sum kind (grown_links links i (length more)) (numbers ++ more) < INFINITE)
    → IsRightBut (grown_links links i (length more)) (numbers ++ more) i
right-grown links numbers more i w r h z some good sums =
    let count : ℕ = length more in
    let new : List Link = grown_links links i count in
    let g : IsGrown links i count new = grown links i count h in
    record {
      count = omega (arith, length-append numbers more, g.sized, r.count);
      has_children = omega (arith, ap (λ l. l.count) g.here);
      each = λ j k. each-grown links numbers more r.count r.each good j (omega (arith, g.sized));
      combined_at = λ j k n. elim (place links i count new j g k) [
        | at_leaf q f c ↦ absurd (n q)
        | at_other old m l ↦ λ b.
            get_or_append_left numbers more no_numbers j (omega (arith, r.count))
            ∙ (r.combined_at j old (omega (arith, ap (λ v. v.count) l))
            ∙ (ap (combined (link_at links j).kind)
            (sym (old-children (link_at links j) numbers more (omega (arith, r.count, w.within j old))))
            ∙ ap (λ v. combined v.kind (children_of v (numbers ++ more))) (sym l)))
        | at_child from c f p t ↦ λ b. absurd (omega (arith, b, c))
      ];
      sums = sums;
    }

pub grown-length : (links : List Link) (i count : ℕ) → i < length links → length (grown_links links i count) ≡ length links + count
grown-length links i count h = (grown links i count h).sized

-- a settled leaf counts nothing in a sum over leaves
pub settled-nothing : (kind : Kind) (p : Bool) → finite (sought kind (settled_numbers p)) ≡ 0
settled-nothing kind p = search (rules, finite-le, finite-infinite)

-- the way up

ancestor-le : (links : List Link) (i steps : ℕ) → IsLinked links → i < length links → ancestor links steps i ≤ i
ancestor-le links i zero w h = omega arith
ancestor-le links i (suc steps) w h = search (rules, cases_eq, ancestor-le links i steps w h)

ancestor-parent : (links : List Link) (i steps : ℕ) → ancestor links steps (link_at links i).parent ≡ ancestor links (suc steps) i
ancestor-parent links i zero = refl
ancestor-parent links i (suc steps) = ap (λ k. (link_at links k).parent) (ancestor-parent links i steps)

pub not-above : (links : List Link) (i : ℕ) → IsLinked links → 0 < i → i < length links → IsOnWayUp links (link_at links i).parent i → ⊥
not-above links i w b h on = search (rules, ancestor-le)

pub above-parent : (links : List Link) (i j : ℕ) → IsOnWayUp links (link_at links i).parent j → IsOnWayUp links i j
above-parent links i j on = (suc on.0, sym (ancestor-parent links i on.0) ∙ on.1)

-- the numbers of the other nodes, named in other words
pub others-moved : (links links' : List Link) (i i' : ℕ) (old old' new new' : List Numbers) → links ≡ links' → i ≡ i' → old ≡ old'
    → new ≡ new' → OthersStay links i old new → OthersStay links' i' old' new'
others-moved links links' i i' old old' new new' a b c d stay = search rules

-- a slice of the whole list, written back
pub written-back : (n : ℕ) (new old : List Numbers) → length new ≡ n → take n (new ++ drop (length new) old) ≡ new
written-back n new old e = ap (λ k. take k (new ++ drop (length new) old)) (sym e) ∙ take-append_seam new (drop (length new) old)

-- the links after the leaf is written and its children are there
grown-by : (links longer : List Link) (i n len : ℕ) (link child : Link) → longer ≡ links ++ replicate n child → len ≡ length links
    → i < length links → link_at links i ≡ link → child ≡ leaf_link (other_kind link.kind) i
    → set longer i (record { kind = link.kind; parent = link.parent; first = len; count = n }) ≡ grown_links links i n
grown-by links longer i n len link child a l h here c = search (rules, set-append_left)

-- a tree after its leaf is given children, before the numbers are brought up to date
pub record IsExpanded (t : Tree) (more : List Numbers) (links : List Link) (numbers : List Numbers) (leaf : ℕ) : Type 0 where
  pub linked : IsLinked links
  pub right : IsRightBut links numbers leaf
  pub inside : leaf < length links
  pub sized : length links ≡ length t.links + length more
  pub links_are : links ≡ grown_links t.links leaf (length more)
  pub numbers_are : numbers ≡ t.numbers ++ more

expanded : (t : Tree) (more : List Numbers) (links : List Link) (numbers : List Numbers) (leaf : ℕ) → IsTree t → leaf < length t.links
    → (link_at t.links leaf).count ≡ 0 → 0 < length more → All AreNumbers more
    → ((kind : Kind) → leaf_sum kind (grown_links t.links leaf (length more)) (t.numbers ++ more) < INFINITE)
    → links ≡ grown_links t.links leaf (length more) → numbers ≡ t.numbers ++ more → IsExpanded t more links numbers leaf
expanded t more links numbers leaf w h z some good sums l n =
    let new : List Link = grown_links t.links leaf (length more) in
    let size : length new ≡ length t.links + length more = grown-length t.links leaf (length more) h in
    let here : IsExpanded t more new (t.numbers ++ more) leaf =
    record {
      linked = linked-grown t.links leaf (length more) w.linked h z;
      right = right-grown t.links t.numbers more leaf w.linked w.numbered h z some good sums;
      inside = omega (arith, size, h);
      sized = size;
      links_are = refl;
      numbers_are = refl;
    } in
    let A : List Link → Type 0 = λ v. IsExpanded t more v (t.numbers ++ more) leaf in
    let B : List Numbers → Type 0 = λ v. IsExpanded t more links v leaf in
    subst B (sym n) (subst A (sym l) here)

-- the same by the steps of the code: the leaf's link is read, leaves are added to both lists, and the link is written
pub expanded-by : (t inside : Tree) (leaf len : ℕ) (link : Link) (kind : Kind) (more : List Numbers) (longer links : List Link)
    (numbers : List Numbers) → inside ≡ t → IsTree inside → leaf < length t.links → (link_at t.links leaf).count ≡ 0
    → 0 < length more → All AreNumbers more
    → ((k : Kind) → leaf_sum k (grown_links t.links leaf (length more)) (t.numbers ++ more) < INFINITE)
    → link ≡ get_or inside.links leaf link → len ≡ length inside.links → kind ≡ other_kind link.kind
    → longer ≡ inside.links ++ replicate (length more) (leaf_link kind leaf)
    → links ≡ set longer leaf (record { kind = link.kind; parent = link.parent; first = len; count = length more })
    → numbers ≡ inside.numbers ++ more → IsExpanded t more links numbers leaf
expanded-by t inside leaf len link kind more longer links numbers view tree h z some good sums read len-is kind-is longer-is
    links-is numbers-is =
    let child : Link = leaf_link kind leaf in
    let L : inside.links ≡ t.links = ap (λ v. v.links) view in
    let N : inside.numbers ≡ t.numbers = ap (λ v. v.numbers) view in
    let here : link_at t.links leaf ≡ link = ap (λ v. link_at v leaf) (sym L)
    ∙ read-at inside.links leaf (leaf_link Attack 0) link (omega (arith, ap length L, h)) read in
    expanded t more links numbers leaf (subst IsTree view tree) h z some good sums
    (links-is ∙ grown-by t.links longer leaf (length more) len link child (longer-is ∙ ap (λ v. v ++ replicate (length more) child) L)
    (len-is ∙ ap length L) h here (ap (λ v. leaf_link v leaf) kind-is))
    (numbers-is ∙ ap (λ v. v ++ more) N)

-- the children of a leaf are not above it, so they have the numbers that they were given
pub child-stays : (links : List Link) (leaf len j : ℕ) (numbers more new : List Numbers) → IsLinked links → leaf < len → len ≤ length links
    → length numbers ≡ len → OthersStay links leaf (numbers ++ more) new → numbers_at new (len + j) ≡ numbers_at more j
child-stays links leaf len j numbers more new w h k s stay = search (rules, ancestor-le, get_or-append_right)
