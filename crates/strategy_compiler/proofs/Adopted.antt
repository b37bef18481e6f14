-- The nodes of a table, adopted one after the other: each is a copy under its new number, is the same node and says the same. So what is
-- held is what was held before, and the nodes of the table.
use Rattle.std.proofs.Common.{◌≡◌, ◌⊎◌, inl, inr, ℕ, suc, ◌<◌, ◌≤◌, ◌+◌, true, List, [], ◌∷◌, ◌++◌, append-nil, length, refl, sym, ap}
use Rattle.std.proofs.Common.{subst, ◌∙◌, arith, Some, nat_lt, slice_get, slice_index, Contains, length-append, rules, ltb-true, lt-ltb}
use Rattle.std.proofs.lemmas.Bool.{cases_lt}
use Rattle.std.proofs.lemmas.List.{get_or_append_left, get_or_push}
use Rattle.std.proofs.lemmas.Option.{slice_get_within, same_Some}
use Rattle.strategy_compiler.proofs.Common.{Grid, Node, MAX_NODES, IsNode, IsTable, NamesLower, NamesOnBoard, SaysSame, TableOnBoard}
use Rattle.strategy_compiler.proofs.Common.{answers_of, renumbered_node, Adopts, AreNumbers, GrowsBy, IsCompiled, PutsIn, Unfolded, IsHeld}
use Rattle.strategy_compiler.proofs.Common.{HoldMore, unfolded}
use Rattle.game_rules.proofs.Tests.{all_get, all_push}
use Rattle.strategy_graph.proofs.Answering.{replies-on}
use Rattle.strategy_graph.proofs.Copies.{Copies}
use Rattle.strategy_graph.proofs.Filling.{IsTable-lower, last_node, names_below-more}
use Rattle.strategy_graph.proofs.Naming.{slice_get-longer}
use Rattle.strategy_graph.proofs.Renumbering.{IsNode-renumbered, copies-same, points-renumbered, renumbered-agree}
use Rattle.strategy_compiler.proofs.Growing.{grows-more, grows-not, grows-then}
use Rattle.strategy_compiler.proofs.Unfolding.{node-inside, unfolded-copied, unfolded-longer, held-one_more, held-within}

-- what is known once the first i nodes of t are adopted
pub record AdoptedUpTo (old t new : List Node) (numbers : List ℕ) (i : ℕ) : Type 0 where
  pub count : length numbers ≡ i
  pub copied : (j : ℕ) (n : Node) → j < i → slice_get t j ≡ Some n
      → slice_get new (slice_index numbers j) ≡ Some (renumbered_node (λ j. slice_index numbers j) n)
  pub compiled : IsCompiled new
  pub grows : GrowsBy old new i
  pub held : (k : ℕ) → k < length new → IsHeld (old ∷ t ∷ []) (unfolded new k)
  pub on_board : (b : Grid) → TableOnBoard b old → TableOnBoard b t → TableOnBoard b new
  pub covered : (k : ℕ) → length old ≤ k → k < length new → (p : ℕ) × (p < i) × (slice_index numbers p ≡ k)
  pub in_order : (k q : ℕ) → length old ≤ k → q < i → slice_index numbers q ≡ suc k → (p : ℕ) × (p < q) × (slice_index numbers p ≡ k)

-- ---- tables among one or two

pub among-one : (u v : List Node) → Contains (u ∷ []) v → u ≡ v
among-one u v x2 = search rules

pub among-two : (t u v : List Node) → Contains (t ∷ u ∷ []) v → (t ≡ v) ⊎ (u ≡ v)
among-two t u v x3 = search rules

held-first : (t u : List Node) (k : ℕ) → k < length t → IsHeld (t ∷ u ∷ []) (unfolded t k)
held-first t u k l = (t, k, (0, omega arith, refl), l, refl)

held-second : (t u : List Node) (k : ℕ) (w : Unfolded) → k < length u → unfolded u k ≡ w → IsHeld (t ∷ u ∷ []) w
held-second t u k w l e = (u, k, (1, omega arith, refl), l, e)

-- ---- copies

module _ (t u : List Node) (numbers : List ℕ) (i : ℕ) (table : IsTable t) (few : i ≤ length t)
    (copied : (j : ℕ) (n : Node) → j < i → slice_get t j ≡ Some n
    → slice_get u (slice_index numbers j) ≡ Some (renumbered_node (λ j. slice_index numbers j) n)) where
  copies-by : Copies (λ j. slice_index numbers j) (λ j. nat_lt j i) t u
  copies-by = record {
    copied = λ j p.
        let low : j < i = ltb-true _ _ p in
        let n = node-inside t j (omega arith) in
        (n.0, n.1, copied j n.0 low n.1, names_below-more (answers_of n.0) j i (omega arith) (table.nodes j n.0 n.1).below);
  }

  inside-by : (j : ℕ) → nat_lt j i ≡ true → slice_index numbers j < length u
  inside-by j p =
      let low : j < i = ltb-true _ _ p in
      let n = node-inside t j (omega arith) in
      slice_get_within u (slice_index numbers j) _ (copied j n.0 low n.1)

-- the copy of each node is there, is the same, and says the same
module _ (old t new : List Node) (numbers : List ℕ) (table : IsTable t) (are : AreNumbers old t new numbers) where
  pub copies : Copies (λ j. slice_index numbers j) (λ j. nat_lt j (length t)) t new
  copies = copies-by t new numbers (length t) table (omega arith) (λ j n low at. are.each j n at)

  pub number-inside : (j : ℕ) → nat_lt j (length t) ≡ true → slice_index numbers j < length new
  number-inside = inside-by t new numbers (length t) table (omega arith) (λ j n low at. are.each j n at)

  pub number-is : NamesLower new → (j : ℕ) → j < length t → (slice_index numbers j < length new)
      × (unfolded new (slice_index numbers j) ≡ unfolded t j) × SaysSame t j new (slice_index numbers j)
  number-is lower j l =
      let p : nat_lt j (length t) ≡ true = lt-ltb j (length t) l in (
        number-inside j p,
        unfolded-copied (λ j. slice_index numbers j) (λ j. nat_lt j (length t)) t new copies (IsTable-lower t table) lower j p,
        copies-same (λ j. slice_index numbers j) (λ j. nat_lt j (length t)) t new copies (IsTable-lower t table) lower j p,
      )

-- ---- one node more

-- before the first
pub adopted-none : (old t new : List Node) (numbers : List ℕ) → IsCompiled old → new ≡ old → numbers ≡ [] → AdoptedUpTo old t new numbers 0
adopted-none old t new numbers compiled e none = search (rules, grows-not, held-first)

module _ (old t new : List Node) (numbers : List ℕ) (i : ℕ) (n m : Node) (h : AdoptedUpTo old t new numbers i) (table : IsTable t)
    (at : slice_get t i ≡ Some n) (is : m ≡ renumbered_node (λ j. slice_index numbers j) n) where
  i-inside : i < length t
  i-inside = slice_get_within t i n at

  -- it names nodes that are there
  pub adopt-node : IsNode m (length new)
  adopt-node = subst (λ (v : Node). IsNode v (length new))
      (sym is) (IsNode-renumbered (λ j. slice_index numbers j) (λ j. nat_lt j i) n i (length new) (table.nodes i n at)
      (inside-by t new numbers i table (let l = i-inside in omega arith) h.copied) (table.nodes i n at).below)

  module _ (x : ℕ) (numbers' : List ℕ) (pushed : numbers' ≡ numbers ++ x ∷ []) where
    number-before : (j : ℕ) → j < i → slice_index numbers' j ≡ slice_index numbers j
    number-before j l = search (rules, get_or_append_left)

    number-last : slice_index numbers' i ≡ x
    number-last = ap (λ (xs : List ℕ). slice_index xs i) pushed ∙ get_or_push numbers x 0 i h.count

    same-before : (j : ℕ) (v : Node) → j ≤ i → slice_get t j ≡ Some v
        → renumbered_node (λ j. slice_index numbers j) v ≡ renumbered_node (λ j. slice_index numbers' j) v
    same-before j v l e = renumbered-agree (λ j. slice_index numbers j) (λ j. slice_index numbers' j)
        (λ k. nat_lt k j) (λ k p. sym (number-before k (let low : k < j = ltb-true _ _ p in omega arith))) v (table.nodes j v e).below

    -- the copies so far, and the new one, in nodes that have them
    module _ (new' : List Node) (stay : (k : ℕ) (v : Node) → slice_get new k ≡ Some v → slice_get new' k ≡ Some v)
        (there : slice_get new' x ≡ Some m) where
      copied-more : (j : ℕ) (v : Node) → j < i + 1 → slice_get t j ≡ Some v
          → slice_get new' (slice_index numbers' j) ≡ Some (renumbered_node (λ j. slice_index numbers' j) v)
      copied-more j v l e = by_place (cases_lt j i) where
        by_place : (j < i) ⊎ (i ≤ j) → slice_get new' (slice_index numbers' j) ≡ Some (renumbered_node (λ j. slice_index numbers' j) v)
        by_place (inl low) = ap (slice_get new') (number-before j low)
            ∙ stay (slice_index numbers j) _ (h.copied j v low e) ∙ ap Some (same-before j v (omega arith) e)
        by_place (inr high) =
            let last : i ≡ j = omega arith in
            let same : n ≡ v = same_Some n v (sym at ∙ ap (slice_get t) last ∙ e) in
            ap (λ (k : ℕ). slice_get new' (slice_index numbers' k)) (sym last) ∙ ap (slice_get new') number-last ∙ there
            ∙ ap Some (is ∙ ap (renumbered_node (λ j. slice_index numbers j)) same ∙ same-before j v (omega arith) e)

      -- the new one is node i of the table
      copy-is : NamesLower new' → unfolded new' x ≡ unfolded t i
      copy-is lower' = ap (unfolded new') (sym number-last) ∙ unfolded-copied (λ j. slice_index numbers' j)
          (λ j. nat_lt j (i + 1)) t new' (copies-by t new' numbers' (i + 1) table (let l = i-inside in omega arith) copied-more)
          (IsTable-lower t table) lower' i (lt-more i) where
            lt-more : (i : ℕ) → nat_lt i (i + 1) ≡ true
            lt-more i = lt-ltb i (i + 1) (omega arith)

  new-lower : NamesLower new
  new-lower = IsTable-lower new h.compiled.table

  stays-by : (new' more' : List Node) → new' ≡ new ++ more' → (k : ℕ) (v : Node) → slice_get new k ≡ Some v → slice_get new' k ≡ Some v
  stays-by new' more' e k v a = ap (λ (u : List Node). slice_get u k) e ∙ slice_get-longer new more' k v a

  -- its points are those of the node
  moved-on : (b : Grid) → NamesOnBoard b n → NamesOnBoard b m
  moved-on b on = subst (NamesOnBoard b) (sym is) (record {
    attack = on.attack;
    replies = replies-on b (renumbered_node (λ j. slice_index numbers j) n).replies n.replies
        (points-renumbered (λ j. slice_index numbers j) n.replies) on.replies;
  })

  module _ (x : ℕ) (numbers' : List ℕ) (pushed : numbers' ≡ numbers ++ x ∷ []) (new' : List Node) (put : PutsIn new m new')
      (there : slice_get new' x ≡ Some m) (compiled : IsCompiled new') where
    grows-by : GrowsBy new new' 1
    grows-by = by_put put where
      by_put : PutsIn new m new' → GrowsBy new new' 1
      by_put (inl e) = record { added = []; is = e.1 ∙ sym (append-nil new); few = omega arith }
      by_put (inr e) = record { added = m ∷ []; is = e.1; few = omega arith }

    -- a new node is the last, and its number is x
    last-is : (k : ℕ) → new' ≡ new ++ m ∷ [] → length new ≤ k → k < length new' → x ≡ k
    last-is k grown high l =
        let count : length new' ≡ length new + 1 = ap length grown ∙ length-append new (m ∷ []) in
        let last : length new ≡ k = omega arith in
        compiled.different.different x k m there
        (ap (slice_get new') (sym last) ∙ ap (λ (u : List Node). slice_get u (length new)) grown ∙ last_node new m)

    held-by : (k : ℕ) → k < length new' → IsHeld (old ∷ t ∷ []) (unfolded new' k)
    held-by k l = by_put put where
      by_place : (grown : new' ≡ new ++ m ∷ []) → (k < length new) ⊎ (length new ≤ k) → IsHeld (old ∷ t ∷ []) (unfolded new' k)
      by_place grown (inl low) = subst (IsHeld (old ∷ t ∷ []))
          (sym (ap (λ (u : List Node). unfolded u k) grown ∙ unfolded-longer new (m ∷ []) new-lower k low)) (h.held k low)
      by_place grown (inr high) =
          let is_new = copy-is x numbers' pushed new' (stays-by new' (m ∷ []) grown) there (IsTable-lower new' compiled.table) in
          held-second old t i (unfolded new' k) i-inside (sym is_new ∙ ap (unfolded new') (last-is k grown high l))

      by_put : PutsIn new m new' → IsHeld (old ∷ t ∷ []) (unfolded new' k)
      by_put (inl e) = subst (λ (u : List Node). (k : ℕ) → k < length u → IsHeld (old ∷ t ∷ []) (unfolded u k)) (sym e.1) h.held k l
      by_put (inr e) = by_place e.1 (cases_lt k (length new))

    on-more : (b : Grid) → TableOnBoard b old → TableOnBoard b t → TableOnBoard b new'
    on-more b before on = by_put put where
      by_put : PutsIn new m new' → TableOnBoard b new'
      by_put (inl e) = subst (TableOnBoard b) (sym e.1) (h.on_board b before on)
      by_put (inr e) = subst (TableOnBoard b) (sym e.1)
          (all_push (NamesOnBoard b) new m (h.on_board b before on) (moved-on b (all_get (NamesOnBoard b) t i n at on)))

    -- each of the new nodes has its place
    covered-by : (k : ℕ) → length old ≤ k → k < length new' → (p : ℕ) × (p < i + 1) × (slice_index numbers' p ≡ k)
    covered-by k low high = by_put put where
      before : k < length new → (p : ℕ) × (p < i + 1) × (slice_index numbers' p ≡ k)
      before l =
          let place = h.covered k low l in
          (place.0, (let less = place.1 in omega arith), number-before x numbers' pushed place.0 place.1 ∙ place.2)

      by_place : (grown : new' ≡ new ++ m ∷ []) → (k < length new) ⊎ (length new ≤ k) → (p : ℕ) × (p < i + 1) × (slice_index numbers' p ≡ k)
      by_place grown (inl l) = before l
      by_place grown (inr l) = (i, omega arith, number-last x numbers' pushed ∙ last-is k grown l high)

      by_put : PutsIn new m new' → (p : ℕ) × (p < i + 1) × (slice_index numbers' p ≡ k)
      by_put (inl e) = before (subst (λ (u : List Node). k < length u) e.1 high)
      by_put (inr e) = by_place e.1 (cases_lt k (length new))

    in_order-by : (k q : ℕ) → length old ≤ k → q < i + 1 → slice_index numbers' q ≡ suc k → (p : ℕ) × (p < q) × (slice_index numbers' p ≡ k)
    in_order-by k q low high is = by_place (cases_lt q i) where
      by_place : (q < i) ⊎ (i ≤ q) → (p : ℕ) × (p < q) × (slice_index numbers' p ≡ k)
      by_place (inl l) =
          let place = h.in_order k q low l (sym (number-before x numbers' pushed q l) ∙ is) in
          (place.0, place.1, number-before x numbers' pushed place.0 (let less = place.1 in omega arith) ∙ place.2)
      by_place (inr l) =
          let last : i ≡ q = omega arith in
          let next : x ≡ suc k = sym (number-last x numbers' pushed) ∙ ap (λ (j : ℕ). slice_index numbers' j) last ∙ is in
          let more = grows-by in
          let few = more.few in
          let count : length new' ≡ length new + length more.added = ap length more.is ∙ length-append new more.added in
          let inside = slice_get_within new' x m there in
          let place = h.covered k low (omega arith) in
          (place.0, (let less = place.1 in omega arith), number-before x numbers' pushed place.0 place.1 ∙ place.2)

    -- once the node is adopted
    pub adopted-more : AdoptedUpTo old t new' numbers' (i + 1)
    adopted-more = record {
      count = ap length pushed ∙ length-append numbers (x ∷ []) ∙ ap (λ (k : ℕ). k + 1) h.count;
      copied = copied-more x numbers' pushed new' (stays-by new' grows-by.added grows-by.is) there;
      compiled = compiled;
      grows = grows-then old new new' i 1 (i + 1) h.grows grows-by (omega arith);
      held = held-by;
      on_board = on-more;
      covered = covered-by;
      in_order = in_order-by;
    }

  -- where there is no room for it, there are too many different nodes
  pub adopt-full : (Contains new m → ⊥) → length new ≡ MAX_NODES → HoldMore (old ∷ t ∷ []) MAX_NODES
  adopt-full none full =
      held-one_more (old ∷ t ∷ []) MAX_NODES new m h.compiled adopt-node none full h.held (λ lower'. held-second old t i _ i-inside
      (sym (copy-is (length new) (numbers ++ length new ∷ []) refl (new ++ m ∷ []) (stays-by (new ++ m ∷ []) (m ∷ []) refl)
      (last_node new m) lower')))

-- ---- at the end

module _ (old t new : List Node) (numbers : List ℕ) (i : ℕ) (h : AdoptedUpTo old t new numbers i) (few : i ≤ length t) where
  pub adopted-leaves : (new' : List Node) → new' ≡ new → Adopts old t new'
  adopted-leaves new' e = subst (Adopts old t) (sym e) (record {
    compiled = h.compiled;
    grows = grows-more old new i (length t) h.grows few;
    held = λ w is. by_one w is.0 is.1 (among-one new is.0 is.2) is.3 is.4;
    on_board = h.on_board;
  }) where
    by_one : (w : Unfolded) (u : List Node) (k : ℕ) → new ≡ u → k < length u → unfolded u k ≡ w → IsHeld (old ∷ t ∷ []) w
    by_one w u k same l is = subst (IsHeld (old ∷ t ∷ []))
        (ap (λ (v : List Node). unfolded v k) same ∙ is) (h.held k (subst (λ (v : List Node). k < length v) (sym same) l))

  pub adopted-numbers : length t ≤ i → AreNumbers old t new numbers
  adopted-numbers whole = search (rules, slice_get_within)

-- each node that is held by the old nodes, or by a table that is adopted, is one of the new nodes
pub adopted-holds : (old t new : List Node) (numbers : List ℕ) → IsTable t → NamesLower old → Adopts old t new → AreNumbers old t new numbers
    → (w : Unfolded) → IsHeld (old ∷ t ∷ []) w → (x : ℕ) × (x < length new) × (unfolded new x ≡ w)
adopted-holds old t new numbers table lower adopts are w is = by_two (among-two old t is.0 is.2) where
  count : length new ≡ length old + length adopts.grows.added
  count = ap length adopts.grows.is ∙ length-append old adopts.grows.added

  by_two : (old ≡ is.0) ⊎ (t ≡ is.0) → (x : ℕ) × (x < length new) × (unfolded new x ≡ w)
  by_two (inl same) =
      let l : is.1 < length old = subst (λ (v : List Node). is.1 < length v) (sym same) is.3 in (
        is.1,
        (let c = count in omega arith),
        ap (λ (v : List Node). unfolded v is.1) adopts.grows.is ∙ unfolded-longer old adopts.grows.added lower is.1 l
            ∙ ap (λ (v : List Node). unfolded v is.1) same ∙ is.4,
      )
  by_two (inr same) =
      let l : is.1 < length t = subst (λ (v : List Node). is.1 < length v) (sym same) is.3 in
      let there = number-is old t new numbers table are (IsTable-lower new adopts.compiled.table) is.1 l in
      (slice_index numbers is.1, there.0, there.1 ∙ ap (λ (v : List Node). unfolded v is.1) same ∙ is.4)

-- so they are not too many
pub adopted-few : (old t new : List Node) (numbers : List ℕ) → IsTable t → NamesLower old → Adopts old t new → AreNumbers old t new numbers
    → HoldMore (old ∷ t ∷ []) MAX_NODES → ⊥
adopted-few old t new numbers table lower adopts are more =
    let over = held-within (old ∷ t ∷ []) MAX_NODES new (adopted-holds old t new numbers table lower adopts are) more in
    let size = adopts.compiled.table.size in
    absurd (omega arith)
