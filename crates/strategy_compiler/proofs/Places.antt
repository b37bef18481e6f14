-- The places of numbers in an order, and nodes with these in place of the numbers. The table that is made of the nodes that some roots
-- reach, in the order in which walks complete them.
use Rattle.std.proofs.Common.{◌≡◌, ℕ, zero, suc, ◌+◌, ◌<◌, ◌≤◌, Bool, true, false, cond, not, ◌||◌, ◌==◌, List, [], ◌∷◌, ◌++◌, length}
use Rattle.std.proofs.Common.{rules, take, get_or, refl, sym, ap, subst, ◌∙◌, ◌⊎◌, inl, inr, arith, length-append, one-add, Some, slice_get}
use Rattle.std.proofs.Common.{replicate, Contains, map, fold, All, ltb-true, ltb-false}
use Rattle.std.specs.List.{list_all, range_with_len}
use Rattle.std.proofs.Math.ListN.{set, length-set}
use Rattle.std.proofs.lemmas.List.{get_or-set_same, get_or-set_other, length-replicate, ext_get_or, get_or-map, length-map}
use Rattle.std.proofs.lemmas.Option.{slice_get_within, slice_get_read, slice_get-get_or, get_or_from_slice_get, same_Some}
use Rattle.std.proofs.lemmas.Bool.Decides.{Decides-eqb}
use Rattle.std.proofs.lemmas.List.FromFn.{length-range_with_len, get_or-range_with_len}
use Rattle.strategy_compiler.proofs.Common.{Point, Node, Reply, answers_of, named, names_below, IsNode, IsTable, renumbered_node, Answers}
use Rattle.strategy_compiler.proofs.Common.{NamesLower, SaysSame, StartSaysSame, renumbered_answers, is_in_list, place_in, Renumbers}
use Rattle.strategy_compiler.proofs.Common.{ArePlaces, IsOrder, Tree, StandsFor, AreDifferent, IsNumberedByWalk, IsTableOf, NamesPointsFrom}
use Rattle.strategy_compiler.proofs.Common.{NamesPointsReached, ReachedFrom, Reaches, completed, completed_after, completed_from, last}
use Rattle.strategy_compiler.proofs.Common.{visits_at, IsMadeFrom, IsMadeOf, AnswersBriefly, Branches, StandsForAll}
use Rattle.strategy_graph.proofs.Filling.{names_below-more, last_node, IsTable-lower, list_all-weaker}
use Rattle.strategy_graph.proofs.Renumbering.{renumbered-agree, IsNode-renumbered, copies-same, copies-same-start, points-renumbered}
use Rattle.strategy_graph.proofs.Renumbering.{IsOneToOne, nodes-renumbered}
use Rattle.strategy_graph.proofs.Naming.{slice_get-longer}
use Rattle.strategy_graph.proofs.Copies.{Copies}
use Rattle.strategy_compiler.proofs.Walking.{among-at, walked-step, walks-itself, visited-above, within-enough, contains-map}
use Rattle.strategy_compiler.proofs.Copying.{brief-renumbered, fold-copied, within-copied, reaches-copied, stands-copied, stands_all-copied}
use Rattle.strategy_compiler.proofs.Standing.{completed-reached}

-- ---- places

-- a number of the list is at its place
pub among-place : (order : List ℕ) (i : ℕ) → is_in_list i order ≡ true → slice_get order (place_in order i) ≡ Some i
among-place [] i h = cc
among-place (x ∷ xs) i h = search (rules, Decides-eqb, one-add, among-place xs i)

-- a number that comes once is at that place alone
pub place-at : (order : List ℕ) → ((k l i : ℕ) → slice_get order k ≡ Some i → slice_get order l ≡ Some i → k ≡ l) → (k i : ℕ)
    → slice_get order k ≡ Some i → place_in order i ≡ k
place-at order once k i e = once (place_in order i) k i (among-place order i (among-at order k i e)) e

-- what is among the first k is at a place below k
pub among-take : (order : List ℕ) (k i : ℕ) → is_in_list i (take k order) ≡ true → (m : ℕ) × (m < k) × (slice_get order m ≡ Some i)
among-take order zero i h = cc
among-take [] (suc k) i h = cc
among-take (x ∷ xs) (suc k) i h = by_test (x == i) refl h (among-take xs k i) where
  by_test : (b : Bool) → (x == i) ≡ b → (b || is_in_list i (take k xs)) ≡ true
      → (is_in_list i (take k xs) ≡ true → (m : ℕ) × (m < k) × (slice_get xs m ≡ Some i))
      → (m : ℕ) × (m < suc k) × (slice_get (x ∷ xs) m ≡ Some i)
  by_test true e h next = (0, omega arith, ap Some ((Decides-eqb x i).0 e))
  by_test false e h next = let later = next h in (suc later.0, omega arith, later.2)

-- the places of the first p numbers, in a list of this length
pub record PlacesUpTo (order : List ℕ) (len : ℕ) (places : List ℕ) (p : ℕ) : Type 0 where
  pub sized : length places ≡ len
  pub up_to : (k i : ℕ) → k < p → slice_get order k ≡ Some i → get_or places i 0 ≡ k

below_more_cases : (k p : ℕ) → k < p + 1 → (k ≡ p) ⊎ (k < p)
below_more_cases k p m = search (rules, ltb-true, ltb-false)

not_same : (k p : ℕ) → k < p → k ≡ p → ⊥
not_same k p low e = omega arith

pub places-none : (order : List ℕ) (len : ℕ) (places : List ℕ) → places ≡ replicate len 0 → PlacesUpTo order len places 0
places-none order len places zeros = record { sized = ap length zeros ∙ length-replicate len 0; up_to = λ k i l e. absurd (omega arith) }

pub places-more : (order : List ℕ) (len : ℕ) (places : List ℕ) (p : ℕ)
    → ((k l i : ℕ) → slice_get order k ≡ Some i → slice_get order l ≡ Some i → k ≡ l) → p < length order → get_or order p 0 < len
    → PlacesUpTo order len places p → PlacesUpTo order len (set places (get_or order p 0) p) (p + 1)
places-more order len places p once l low h =
    search (rules, length-set, below_more_cases, get_or_from_slice_get, get_or-set_same, not_same, slice_get-get_or, get_or-set_other)

pub places-all : (order : List ℕ) (len : ℕ) (places : List ℕ) (p : ℕ) → length order ≤ p → PlacesUpTo order len places p
    → ArePlaces order places
places-all order len places p l h = record { placed = λ k i e. let inside = slice_get_within order k i e in h.up_to k i (omega arith) e }

-- ---- nodes with places for numbers

-- ---- the table, node by node

pub all_by : (p : ℕ → Bool) (js : List ℕ) → ((j : ℕ) → Contains js j → p j ≡ true) → list_all p js ≡ true
all_by p [] f = refl
all_by p (j ∷ js) f = rw (f j (0, omega arith, refl)) (all_by p js (λ l c. f l (suc c.0, omega arith, c.2)))

-- each number that node i names is among the first k of the order, where node i is at place k
pub named-among : (t : List Node) (order : List ℕ) (k i : ℕ) (n : Node) → IsOrder t order → slice_get order k ≡ Some i
    → slice_get t i ≡ Some n → list_all (λ j. is_in_list j (take k order)) (named (answers_of n)) ≡ true
named-among t order k i n h e at = all_by (λ j. is_in_list j (take k order)) (named (answers_of n)) (λ j c. h.after_named k i j n e at c)

pub record RenumbersUpTo (t : List Node) (order : List ℕ) (u : List Node) (p : ℕ) : Type 0 where
  pub count : length u ≡ p
  pub each : (k i : ℕ) → k < p → slice_get order k ≡ Some i
      → (n : Node) × (slice_get t i ≡ Some n) × (slice_get u k ≡ Some (renumbered_node (place_in order) n))

pub from-renumbers : (t : List Node) (order : List ℕ) (u : List Node) → Renumbers t order u → RenumbersUpTo t order u (length order)
from-renumbers t order u re = search rules

pub renumbers-none : (t : List Node) (order : List ℕ) (u : List Node) → u ≡ [] → RenumbersUpTo t order u 0
renumbers-none t order u e = record { count = ap length e; each = λ k i l at. absurd (omega arith) }

module _ (t : List Node) (order : List ℕ) (table : IsTable t) (is_order : IsOrder t order) where
  -- the place of each of them
  pub place-is : (k i : ℕ) → slice_get order k ≡ Some i → place_in order i ≡ k
  place-is k i e = place-at order is_order.once k i e

  module _ (k i : ℕ) (n : Node) (e : slice_get order k ≡ Some i) (at : slice_get t i ≡ Some n) where
    all-among : list_all (λ j. is_in_list j (take k order)) (named (answers_of n)) ≡ true
    all-among = named-among t order k i n is_order e at

    low-place : (j : ℕ) → is_in_list j (take k order) ≡ true → place_in order j < k
    low-place j h = let m = among-take order k j h in let is = place-is m.0 j m.2 in let low = m.1 in omega (arith, is, low)

    -- what takes its place is a node of a table there
    pub renumbered-node : IsNode (renumbered_node (place_in order) n) k
    renumbered-node = IsNode-renumbered (place_in order) (λ j. is_in_list j (take k order)) n i k (table.nodes i n at) low-place all-among

    -- and it is the node with the places that are kept
    pub renumbered-places : (f : ℕ → ℕ) → ((k i : ℕ) → slice_get order k ≡ Some i → f i ≡ k)
        → renumbered_node f n ≡ renumbered_node (place_in order) n
    renumbered-places f places = search (rules, renumbered-agree, among-take, place-is, all-among)

  -- one node more
  pub renumbers-more : (u : List Node) (p i : ℕ) (n m : Node) (f : ℕ → ℕ) → RenumbersUpTo t order u p → slice_get order p ≡ Some i
      → slice_get t i ≡ Some n → ((k i : ℕ) → slice_get order k ≡ Some i → f i ≡ k) → m ≡ renumbered_node f n
      → RenumbersUpTo t order (u ++ m ∷ []) (p + 1)
  renumbers-more u p i n m f h e at places is = record {
    count = let longer = length-append u (m ∷ []) in let count = h.count in omega (arith, longer, count);
    each = λ k j l d. elim (below_more_cases k p l) [ inl same ↦ here k j same d | inr low ↦ before k j low d ];
  } where
    before : (k j : ℕ) → k < p → slice_get order k ≡ Some j
        → (n : Node) × (slice_get t j ≡ Some n) × (slice_get (u ++ m ∷ []) k ≡ Some (renumbered_node (place_in order) n))
    before k j low d = let old = h.each k j low d in
        (old.0, old.1, slice_get-longer u (m ∷ []) k (renumbered_node (place_in order) old.0) old.2)

    here : (k j : ℕ) → k ≡ p → slice_get order k ≡ Some j
        → (n : Node) × (slice_get t j ≡ Some n) × (slice_get (u ++ m ∷ []) k ≡ Some (renumbered_node (place_in order) n))
    here k j same d =
        let number : i ≡ j = same_Some i j (sym e ∙ ap (slice_get order) (sym same) ∙ d) in (
          n,
          subst (λ (x : ℕ). slice_get t x ≡ Some n) number at,
          ap (slice_get (u ++ m ∷ [])) (same ∙ sym h.count) ∙ last_node u m ∙ ap Some (is ∙ renumbered-places p i n e at f places),
        )

  pub renumbers-all : (u : List Node) (p : ℕ) → p ≤ length order → length order ≤ p → RenumbersUpTo t order u p → Renumbers t order u
  renumbers-all u p l m h = search (rules, slice_get_within)

-- ---- the same, as the loop reads it

module _ (t : List Node) (order : List ℕ) (table : IsTable t) (is_order : IsOrder t order) (p : ℕ) (l : p < length order) (d : Node)
    (read : d ≡ get_or t (get_or order p 0) d) (n : Node) (same : n ≡ d) where
  number-here : slice_get order p ≡ Some (get_or order p 0)
  number-here = slice_get-get_or order p 0 l

  node-at : slice_get t (get_or order p 0) ≡ Some n
  node-at = slice_get_read t (length t) (get_or order p 0) d refl (is_order.within p (get_or order p 0) number-here) read
      ∙ ap Some (sym same)

  pub names-places : (k : ℕ) → k ≡ length t → names_below (answers_of n) k ≡ true
  names-places k e =
      let inside = is_order.within p (get_or order p 0) number-here in
      names_below-more (answers_of n) (get_or order p 0) k (omega (arith, inside, e)) ((table.nodes (get_or order p 0) n node-at).below)

  module _ (places : List ℕ) (are_places : ArePlaces order places) (m : Node) (is : m ≡ renumbered_node (λ j. get_or places j 0) n)
      (u : List Node) (so_far : RenumbersUpTo t order u p) where
    pub node-next : IsNode m (length u)
    node-next = subst (λ (k : ℕ). IsNode m k) (sym so_far.count) (subst (λ (x : Node). IsNode x p)
        (sym (is ∙ renumbered-places t order table is_order p (get_or order p 0) n number-here node-at (λ j. get_or places j 0)
        are_places.placed)) (renumbered-node t order table is_order p (get_or order p 0) n number-here node-at))

    pub renumbers-next : (v : List Node) → v ≡ u ++ m ∷ [] → RenumbersUpTo t order v (p + 1)
    renumbers-next v e = subst (λ (w : List Node). RenumbersUpTo t order w (p + 1))
        (sym e) (renumbers-more t order table is_order u p (get_or order p 0) n m (λ j. get_or places j 0) so_far number-here node-at
        are_places.placed (is))

-- a number that is not in the list has its length for a place
place-absent : (order : List ℕ) (i : ℕ) → is_in_list i order ≡ false → place_in order i ≡ length order
place-absent [] i h = refl
place-absent (x ∷ xs) i h = search (rules, place-absent xs i)

-- no number of the list has the place of another number
module _ (order : List ℕ) where
  place-within : (i : ℕ) → is_in_list i order ≡ true → place_in order i < length order
  place-within i h = slice_get_within order (place_in order i) i (among-place order i h)

  same_place : (j i : ℕ) → is_in_list i order ≡ true → place_in order j ≡ place_in order i → j ≡ i
  same_place j i h e = by_test (is_in_list j order) refl where
    by_test : (b : Bool) → is_in_list j order ≡ b → j ≡ i
    by_test true k = same_Some j i (sym (among-place order j k) ∙ ap (slice_get order) e ∙ among-place order i h)
    by_test false k = let past = place-absent order j k in let low = place-within i h in absurd (omega (arith, past, low, e))

  pub places-apart : IsOneToOne (place_in order) (λ i. is_in_list i order)
  places-apart = search (rules, Decides-eqb, same_place)

module _ (t : List Node) (roots order : List ℕ) (u : List Node) (table : IsTable t) (different : AreDifferent t)
    (is_order : IsOrder t order) (walked : order ≡ completed_from t roots) (re : RenumbersUpTo t order u (length order)) where
  each : (k i : ℕ) → slice_get order k ≡ Some i → (n : Node) × (slice_get t i ≡ Some n)
      × (slice_get u k ≡ Some (renumbered_node (place_in order) n))
  each k i e = re.each k i (slice_get_within order k i e) e

  lower : NamesLower t
  lower = IsTable-lower t table

  -- ---- the copies

  copied-node : (i : ℕ) → is_in_list i order ≡ true → (n : Node) × (slice_get t i ≡ Some n)
      × (slice_get u (place_in order i) ≡ Some (renumbered_node (place_in order) n))
      × (list_all (λ i. is_in_list i order) (named (answers_of n)) ≡ true)
  copied-node i p =
      let at = among-place order i p in
      let r = each (place_in order i) i at in (
        r.0,
        r.1,
        r.2,
        list_all-weaker (λ j. is_in_list j (take (place_in order i) order)) (λ j. is_in_list j order)
            (λ j h. let m = among-take order (place_in order i) j h in among-at order m.0 j m.2)
            (named (answers_of r.0)) (named-among t order (place_in order i) i r.0 is_order at r.1),
      )

  copies : Copies (place_in order) (λ i. is_in_list i order) t u
  copies = record { copied = copied-node }

  number-at : (k : ℕ) → k < length u → slice_get order k ≡ Some (get_or order k 0)
  number-at k l = let count = re.count in slice_get-get_or order k 0 (omega (arith, count, l))

  -- ---- a table

  pub made-table : IsTable u
  made-table = record {
    nodes = node_at;
    size = let count = re.count in let short = is_order.short in let size = table.size in omega (arith, count, short, size);
  } where
    node_at : (k : ℕ) (m : Node) → slice_get u k ≡ Some m → IsNode m k
    node_at k m at =
        let e = number-at k (slice_get_within u k m at) in
        let r = each k (get_or order k 0) e in
        subst (λ (x : Node). IsNode x k) (same_Some _ m (sym r.2 ∙ at))
        (renumbered-node t order table is_order k (get_or order k 0) r.0 e r.1)

  -- ---- the roots

  root-among : (i : ℕ) → Contains roots i → is_in_list i order ≡ true
  root-among i c = ap (is_in_list i) walked ∙ walks-itself t lower roots [] i c

  roots-among : list_all (λ i. is_in_list i order) roots ≡ true
  roots-among = all_by (λ i. is_in_list i order) roots root-among

  pub made-root : (i : ℕ) → Contains roots i → IsMadeOf t i u (place_in order i)
  made-root i c =
      let among = root-among i c in
      record {
        inside = let low = place-within order i among in let count = re.count in omega (arith, low, count);
        same = copies-same (place_in order) (λ i. is_in_list i order) t u copies lower (IsTable-lower u made-table) i among;
        trees = λ tree h. stands-copied (place_in order) (λ i. is_in_list i order) (places-apart order) t u copies i tree among h;
      }

  named-among_roots : (a : Answers) → ((j : ℕ) → Contains (named a) j → Contains roots j)
      → list_all (λ i. is_in_list i order) (named a) ≡ true
  named-among_roots a named_by = all_by (λ i. is_in_list i order) (named a) (λ j c. root-among j (named_by j c))

  pub made-start : (a : Answers) → ((j : ℕ) → Contains (named a) j → Contains roots j)
      → StartSaysSame t a u (renumbered_answers (place_in order) a)
  made-start a named_by = copies-same-start (place_in order) (λ i. is_in_list i order) t u copies lower (IsTable-lower u made-table) a
      (named-among_roots a named_by)

  pub made-branches : (a : Answers) (bs : Branches) → ((j : ℕ) → Contains (named a) j → Contains roots j) → StandsForAll t a bs
      → StandsForAll u (renumbered_answers (place_in order) a) bs
  made-branches a bs named_by = stands_all-copied (place_in order) (λ i. is_in_list i order) (places-apart order) t u copies a bs
      (named-among_roots a named_by)

  pub made-brief : (a : Answers) (qs : List Point) → ((j : ℕ) → Contains (named a) j → Contains roots j) → AnswersBriefly a qs
      → AnswersBriefly (renumbered_answers (place_in order) a) qs
  made-brief a qs named_by = brief-renumbered (place_in order) (λ i. is_in_list i order) (places-apart order) a
      (named-among_roots a named_by) qs

  -- ---- they are numbered as walks complete them

  in-order : map (place_in order) order ≡ range_with_len 0 (length u)
  in-order = ext_get_or 0 (map (place_in order) order)
      (range_with_len 0 (length u)) (length-map order (place_in order) ∙ sym re.count ∙ sym (length-range_with_len 0 (length u)))
      (λ k l. let inside : k < length order = let long = length-map order (place_in order) in omega (arith, long, l) in
      let count = re.count in
      get_or-map (place_in order) order k 0 0 inside
      ∙ place-is t order table is_order k (get_or order k 0) (slice_get-get_or order k 0 inside)
      ∙ sym (get_or-range_with_len 0 (length u) k 0 (omega (arith, inside, count)) ∙ zero_plus k)) where
        zero_plus : (k : ℕ) → 0 + k ≡ k
        zero_plus k = omega arith

  step-copied : (done : List ℕ) (i : ℕ) → is_in_list i order ≡ true
      → completed_after u (map (place_in order) done) (place_in order i) ≡ map (place_in order) (completed_after t done i)
  unfolding completed_after
  step-copied done i among =
      let most : ℕ = suc (i + place_in order i) in
      within-enough u (IsTable-lower u made-table) (suc (place_in order i)) most (place_in order i) (map (place_in order) done)
      (omega arith) (omega arith)
      ∙ within-copied (place_in order) (λ i. is_in_list i order) (places-apart order) t u copies most done i among
      ∙ ap (map (place_in order)) (within-enough t lower most (suc i) i done (omega arith) (omega arith))

  pub made-numbered : completed_from u (map (place_in order) roots) ≡ range_with_len 0 (length u)
  made-numbered = fold-copied (place_in order) (λ i. is_in_list i order) (places-apart order) t u copies
      (completed_after t) (completed_after u) step-copied roots [] roots-among ∙ ap (map (place_in order)) (sym walked) ∙ in-order

  pub made-different : AreDifferent u
  made-different = record { different = λ a b m at at'. equal a b m at at' } where
    equal : (a b : ℕ) (m : Node) → slice_get u a ≡ Some m → slice_get u b ≡ Some m → a ≡ b
    equal a b m at at' =
        let e = number-at a (slice_get_within u a m at) in
        let e' = number-at b (slice_get_within u b m at') in
        let i : ℕ = get_or order a 0 in
        let j : ℕ = get_or order b 0 in
        let c = copied-node i (among-at order a i e) in
        let c' = copied-node j (among-at order b j e') in
        let place : place_in order i ≡ a = place-is t order table is_order a i e in
        let place' : place_in order j ≡ b = place-is t order table is_order b j e' in
        let here : renumbered_node (place_in order) c.0 ≡ m = same_Some _ m (sym c.2 ∙ ap (slice_get u) place ∙ at) in
        let there : renumbered_node (place_in order) c'.0 ≡ m = same_Some _ m (sym c'.2 ∙ ap (slice_get u) place' ∙ at') in
        let same : c.0 ≡ c'.0 = nodes-renumbered (place_in order) (λ i. is_in_list i order) (places-apart order) c.0 c'.0 c.3 c'.3
        (here ∙ sym there) in
        let number : i ≡ j = different.different i j c'.0 (c.1 ∙ ap Some same) c'.1 in
        sym place ∙ ap (place_in order) number ∙ place'

  pub made-reached : (k : ℕ) → k < length u → ReachedFrom u (map (place_in order) roots) k
  made-reached k l =
      let e = number-at k l in
      let i : ℕ = get_or order k 0 in
      let r = completed-reached t roots i (ap (is_in_list i) (sym walked) ∙ among-at order k i e) in (
        place_in order r.0,
        contains-map (place_in order) roots r.0 r.1,
        subst (Reaches u (place_in order r.0)) (place-is t order table is_order k i e)
            (reaches-copied (place_in order) (λ i. is_in_list i order) (places-apart order) t u copies r.0 i (root-among r.0 r.1) r.2),
      )

  pub made-points : All (NamesPointsFrom t roots) u
  made-points = λ k d l. point_at k (get_or u k d) (slice_get-get_or u k d l) where
    point_at : (k : ℕ) (m : Node) → slice_get u k ≡ Some m → NamesPointsFrom t roots m
    point_at k m at =
        let e = number-at k (slice_get_within u k m at) in
        let r = each k (get_or order k 0) e in
        let is : renumbered_node (place_in order) r.0 ≡ m = same_Some _ m (sym r.2 ∙ at) in (
          get_or order k 0,
          r.0,
          completed-reached t roots (get_or order k 0)
              (ap (is_in_list (get_or order k 0)) (sym walked) ∙ among-at order k (get_or order k 0) e),
          r.1,
          sym (ap (λ (x : Node). x.attack) is),
          ap (λ (x : Node). map (λ (y : Reply). y.at) x.replies) (sym is) ∙ points-renumbered (place_in order) r.0.replies,
        )

pub made-from : (t : List Node) (roots order : List ℕ) (u : List Node) → IsTable t → AreDifferent t → IsOrder t order
    → order ≡ completed_from t roots → Renumbers t order u → IsMadeFrom t roots (completed_from t roots) u
made-from t roots order u table different is_order walked re = subst (λ (o : List ℕ). IsMadeFrom t roots o u) walked (record {
  table = made-table t roots order u table different is_order walked (from-renumbers t order u re);
  nodes = re;
  few = let count = re.count in let short = is_order.short in omega (arith, count, short);
  different = made-different t roots order u table different is_order walked (from-renumbers t order u re);
  each_root = made-root t roots order u table different is_order walked (from-renumbers t order u re);
  each_start = made-start t roots order u table different is_order walked (from-renumbers t order u re);
  branches = made-branches t roots order u table different is_order walked (from-renumbers t order u re);
  brief = made-brief t roots order u table different is_order walked (from-renumbers t order u re);
  reached = made-reached t roots order u table different is_order walked (from-renumbers t order u re);
  numbered = made-numbered t roots order u table different is_order walked (from-renumbers t order u re);
  points = made-points t roots order u table different is_order walked (from-renumbers t order u re);
})

-- ---- one root

-- the place of the last number, which is nowhere before
place-last : (js : List ℕ) (i : ℕ) → is_in_list i js ≡ false → place_in (js ++ i ∷ []) i ≡ length js
place-last [] i h = ap (λ (b : Bool). cond (not b) 1 0) ((Decides-eqb i i).1 refl)
place-last (x ∷ xs) i h = search (rules, place-last xs i)

module _ (t : List Node) (root : ℕ) (u : List Node) (lower : NamesLower t)
    (made : IsMadeFrom t (root ∷ []) (completed_from t (root ∷ [])) u) where
  -- walks from one root are a walk from it
  walk-is : completed_from t (root ∷ []) ≡ completed t root
  unfolding completed_after
  walk-is = refl

  before-root : List ℕ
  before-root = fold (completed_after t) [] (visits_at t root)

  order-is : completed_from t (root ∷ []) ≡ before-root ++ root ∷ []
  unfolding before-root
  order-is = walked-step t lower [] root refl

  -- the root is the last node
  root-last : place_in (completed_from t (root ∷ [])) root ≡ last u
  unfolding before-root
  root-last = search (rules, before-root, order-is, place-last, visited-above, length-append)

  root-made : IsMadeOf t root u (last u)
  root-made = subst (IsMadeOf t root u) root-last (made.each_root root (0, omega arith, refl))

  only : (i : ℕ) → Contains (root ∷ []) i → root ≡ i
  only i h = search rules

  pub one-nodes : Renumbers t (completed t root) u
  one-nodes = subst (λ (o : List ℕ). Renumbers t o u) walk-is made.nodes

  pub one-some : 0 < length u
  one-some = let low = root-made.inside in omega (arith, low)

  pub one-same : SaysSame t root u (last u)
  one-same = root-made.same

  pub one-numbered : IsNumberedByWalk u
  unfolding completed_after
  one-numbered = ap (λ (i : ℕ). completed u i) (sym root-last) ∙ made.numbered

  pub one-reached : (k : ℕ) → k < length u → Reaches u (last u) k
  one-reached k l =
      let r = made.reached k l in
      subst (λ (i : ℕ). Reaches u i k) (sym (only_place r.0 r.1) ∙ root-last) r.2 where
        only_place : (i : ℕ) → Contains (map (place_in (completed_from t (root ∷ []))) (root ∷ [])) i
            → place_in (completed_from t (root ∷ [])) root ≡ i
        only_place i (zero, l, e) = e
        only_place i (suc k, l, e) = absurd (omega arith)

  pub one-trees : (tree : Tree) → StandsFor t root tree → IsTableOf tree u
  one-trees tree h = record { table = made.table; stands = root-made.trees tree h; different = made.different; numbered = one-numbered }

  pub one-points : All (NamesPointsReached t root) u
  one-points = λ k d l. let p = made.points k d l in
      (p.0, p.1, subst (λ (i : ℕ). Reaches t i p.0) (sym (only p.2.0 p.2.1)) p.2.2, p.3, p.4, p.5)

-- what a compiler says of the table of one root
pub record IsFinished (t : List Node) (root : ℕ) (u : List Node) : Type 0 where
  pub nodes : Renumbers t (completed t root) u
  pub some : 0 < length u
  pub few : length u ≤ length t
  pub trees : (tree : Tree) → StandsFor t root tree → IsTableOf tree u
  pub reached : (i : ℕ) → i < length u → Reaches u (last u) i
  pub numbered : IsNumberedByWalk u
  pub same : SaysSame t root u (last u)
  pub points : All (NamesPointsReached t root) u

pub finished : (t s : List Node) (root : ℕ) (u : List Node) → s ≡ t → IsTable s → IsMadeFrom s (root ∷ []) (completed_from s (root ∷ [])) u
    → IsFinished t root u
finished t s root u e table made = subst (λ (x : List Node). IsFinished x root u) e (record {
  nodes = one-nodes s root u (IsTable-lower s table) made;
  some = one-some s root u (IsTable-lower s table) made;
  few = made.few;
  trees = one-trees s root u (IsTable-lower s table) made;
  reached = one-reached s root u (IsTable-lower s table) made;
  numbered = one-numbered s root u (IsTable-lower s table) made;
  same = one-same s root u (IsTable-lower s table) made;
  points = one-points s root u (IsTable-lower s table) made;
})
