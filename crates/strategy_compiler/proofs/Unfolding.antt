-- Nodes unfolded: copies are the same nodes, and in a table with no two equal nodes no two are the same. So such a table holds as
-- many different nodes as it has.
use Rattle.std.proofs.Common.{rules, ◌≡◌, ℕ, zero, suc, ◌<◌, ◌≤◌, ◌+◌, Bool, true, false, ◌==◌, List, [], ◌∷◌, length, refl, sym, ap, subst}
use Rattle.std.proofs.Common.{◌∙◌, arith, Option, Some, None, nat_lt, slice_get, map, All, Contains, ◌++◌, ◌⊎◌, inl, inr, length-append}
use Rattle.std.proofs.Common.{ltb-true}
use Rattle.std.specs.List.{list_all, list_any, range_with_len, AllByRecursion, IsDistinct}
use Rattle.std.proofs.lemmas.Bool.{cases_lt}
use Rattle.std.proofs.lemmas.Option.{same_Some}
use Rattle.std.proofs.lemmas.Bool.Decides.{Decides-eqb}
use Rattle.std.proofs.lemmas.List.Folds.{list_all-append}
use Rattle.std.proofs.lemmas.List.Elements.{All-from_recursion}
use Rattle.std.proofs.lemmas.Map.Steps.{length-le_from_distinct_below}
use Rattle.game_rules.proofs.Boards.{and_left, and_right}
use Rattle.strategy_compiler.proofs.Common.{Node, Reply, Rest, Answers, NamesLower, answers_of, named, names_below, rest_nodes}
use Rattle.strategy_compiler.proofs.Common.{renumbered_node, renumbered_reply, renumbered_rest, IsNode, AreDifferent, IsCompiled, Unfolded}
use Rattle.strategy_compiler.proofs.Common.{HoldMore, IsHeld, unfolded, unfolded_node, unfolded_nodes, unfolded_replies, unfolded_rest}
use Rattle.strategy_graph.proofs.Naming.{slice_get-longer}
use Rattle.strategy_graph.proofs.Filling.{IsTable-lower, names_below-more}
use Rattle.strategy_graph.proofs.Copies.{Copies, renumbered-same}
unfoldable use Rattle.strategy_compiler.specs.Unfolded.{unfolded_within}

-- the replies that are listed, and the rest, pass where all that is named does
listed-pass : (p : ℕ → Bool) (a : Answers) → list_all p (named a) ≡ true → list_all p (map (λ r. r.next) a.replies) ≡ true
listed-pass p a h = search (rules, and_left, list_all-append)

rest-passes : (p : ℕ → Bool) (a : Answers) → list_all p (named a) ≡ true → list_all p (rest_nodes a.rest) ≡ true
rest-passes p a h = search (rules, and_right, list_all-append)

-- ---- other numbers for the same nodes

module _ (f : ℕ → ℕ) (passes : ℕ → Bool) (at at' : ℕ → Unfolded) (same : (j : ℕ) → passes j ≡ true → at' (f j) ≡ at j) where
  replies-copied : (rs : List Reply) → list_all passes (map (λ r. r.next) rs) ≡ true
      → unfolded_replies at' (map (renumbered_reply f) rs) ≡ unfolded_replies at rs
  replies-copied [] h = refl
  replies-copied (r ∷ rs) h = search (rules, and_left, and_right, replies-copied rs (and_right (passes r.next) _ h))

  rest-copied : (r : Rest) → list_all passes (rest_nodes r) ≡ true → unfolded_rest at' (renumbered_rest f r) ≡ unfolded_rest at r
  rest-copied r h = search (rules, and_left)

  node-copied : (n : Node) → list_all passes (named (answers_of n)) ≡ true
      → unfolded_node at' (Some (renumbered_node f n)) ≡ unfolded_node at (Some n)
  node-copied n all = search (rules, replies-copied, listed-pass, rest-copied, rest-passes)

module _ (f : ℕ → ℕ) (passes : ℕ → Bool) (t u : List Node) (copies : Copies f passes t u) where
  within-copied : (k i : ℕ) → passes i ≡ true → unfolded_within k u (f i) ≡ unfolded_within k t i
  unfolding unfolded_within
  within-copied zero i p = refl
  within-copied (suc k) i p =
      let c = copies.copied i p in
      ap (unfolded_node (unfolded_within k u)) c.2 ∙ node-copied f passes
      (unfolded_within k t) (unfolded_within k u) (λ j q. within-copied k j q) c.0 c.3 ∙ sym (ap (unfolded_node (unfolded_within k t)) c.1)

-- ---- the bound on the nodes that follow one another plays no part, and nor do the nodes after them

pub node-inside : (t : List Node) (i : ℕ) → i < length t → (n : Node) × (slice_get t i ≡ Some n)
node-inside [] i l = absurd (omega arith)
node-inside (n ∷ t) zero l = (n, refl)
node-inside (n ∷ t) (suc i) l = node-inside t i (omega arith)

node-agree : (at at' : ℕ → Unfolded) (i : ℕ) (n : Node) → names_below (answers_of n) i ≡ true → ((j : ℕ) → j < i → at' j ≡ at j)
    → unfolded_node at' (Some n) ≡ unfolded_node at (Some n)
node-agree at at' i n below same = ap (λ (m : Node). unfolded_node at' (Some m)) (sym (renumbered-same n))
    ∙ node-copied (λ j. j) (λ j. nat_lt j i) at at' (λ j e. same j (ltb-true _ _ e)) n below

module _ (t : List Node) (lower : NamesLower t) where
  by_node : (at at' : ℕ → Unfolded) (i : ℕ) → ((j : ℕ) → j < i → at' j ≡ at j)
      → unfolded_node at' (slice_get t i) ≡ unfolded_node at (slice_get t i)
  by_node at at' i same = by_cases (slice_get t i) (lower.lower i) where
    by_cases : (o : Option Node) → ((n : Node) → o ≡ Some n → names_below (answers_of n) i ≡ true)
        → unfolded_node at' o ≡ unfolded_node at o
    by_cases None below = refl
    by_cases (Some n) below = node-agree at at' i n (below n refl) same

  within-longer : (more : List Node) (k i : ℕ) → i < length t → unfolded_within k (t ++ more) i ≡ unfolded_within k t i
  unfolding unfolded_within
  within-longer more zero i l = refl
  within-longer more (suc k) i l =
      let n = node-inside t i l in
      ap (unfolded_node (unfolded_within k (t ++ more))) (slice_get-longer t more i n.0 n.1)
      ∙ node-agree (unfolded_within k t) (unfolded_within k (t ++ more)) i n.0
      (lower.lower i n.0 n.1) (λ j low. within-longer more k j (omega arith)) ∙ ap (unfolded_node (unfolded_within k t)) (sym n.1)

  within-enough : (k m i : ℕ) → i < k → i < m → unfolded_within m t i ≡ unfolded_within k t i
  unfolding unfolded_within
  within-enough zero m i l h = absurd (omega arith)
  within-enough (suc k) zero i l h = absurd (omega arith)
  within-enough (suc k) (suc m) i l h =
      by_node (unfolded_within k t) (unfolded_within m t) i (λ j e. within-enough k m j (omega arith) (omega arith))

  unfolded-step : (i : ℕ) → unfolded t i ≡ unfolded_node (unfolded t) (slice_get t i)
  unfolding unfolded_within
  unfolded-step i = by_node (unfolded t) (unfolded_within i t) i (λ j e. within-enough (suc j) i j (omega arith) e)

-- a node is the same however the table grows
pub unfolded-longer : (t more : List Node) → NamesLower t → (i : ℕ) → i < length t → unfolded (t ++ more) i ≡ unfolded t i
unfolded-longer t more lower i l = within-longer t lower more (suc i) i l

-- a copy is the same node
pub unfolded-copied : (f : ℕ → ℕ) (passes : ℕ → Bool) (t u : List Node) → Copies f passes t u → NamesLower t → NamesLower u → (i : ℕ)
    → passes i ≡ true → unfolded u (f i) ≡ unfolded t i
unfolded-copied f passes t u copies lower lower' i p =
    let most : ℕ = suc (i + f i) in
    within-enough u lower' most (suc (f i)) (f i) (omega arith) (omega arith)
    ∙ within-copied f passes t u copies most i p ∙ within-enough t lower (suc i) most i (omega arith) (omega arith)

-- answers that name copies, or name nodes of a table that grows, have the same nodes
pub answers-copied : (f : ℕ → ℕ) (passes : ℕ → Bool) (t u : List Node) → Copies f passes t u → NamesLower t → NamesLower u → (a : Answers)
    → list_all passes (named a) ≡ true
    → (unfolded_replies (unfolded u) (map (renumbered_reply f) a.replies) ≡ unfolded_replies (unfolded t) a.replies)
    × (unfolded_rest (unfolded u) (renumbered_rest f a.rest) ≡ unfolded_rest (unfolded t) a.rest)
answers-copied f passes t u copies lower lower' a all =
    let same : (j : ℕ) → passes j ≡ true → unfolded u (f j) ≡ unfolded t j =
    λ j p. unfolded-copied f passes t u copies lower lower' j p in (
      replies-copied f passes (unfolded t) (unfolded u) same a.replies (listed-pass passes a all),
      rest-copied f passes (unfolded t) (unfolded u) same a.rest (rest-passes passes a all),
    )

pub answers-longer : (t more : List Node) → NamesLower t → (a : Answers) → names_below a (length t) ≡ true
    → (unfolded_replies (unfolded (t ++ more)) a.replies ≡ unfolded_replies (unfolded t) a.replies)
    × (unfolded_rest (unfolded (t ++ more)) a.rest ≡ unfolded_rest (unfolded t) a.rest)
answers-longer t more lower a below =
    let n : Node = record { attack = record { x = 0; y = 0 }; replies = a.replies; rest = a.rest } in
    let same = node-agree (unfolded t) (unfolded (t ++ more)) (length t) n below (λ j l. unfolded-longer t more lower j l) in
    (cc, cc)

-- ---- no two are the same

module _ (at : ℕ → Unfolded) (p : ℕ → Bool) (one : (j k : ℕ) → p j ≡ true → p k ≡ true → at j ≡ at k → j ≡ k) where
  replies-apart : (rs ss : List Reply) → list_all p (map (λ r. r.next) rs) ≡ true → list_all p (map (λ r. r.next) ss) ≡ true
      → unfolded_replies at rs ≡ unfolded_replies at ss → rs ≡ ss
  replies-apart [] [] h k e = refl
  replies-apart [] (s ∷ ss) h k e = cc
  replies-apart (r ∷ rs) [] h k e = cc
  replies-apart (r ∷ rs) (s ∷ ss) h k e =
      let point : r.at ≡ s.at = cc in
      let node : at r.next ≡ at s.next = cc in
      let others : unfolded_replies at rs ≡ unfolded_replies at ss = cc in
      let next = one r.next s.next (and_left (p r.next) _ h) (and_left (p s.next) _ k) node in
      let later = replies-apart rs ss (and_right (p r.next) _ h) (and_right (p s.next) _ k) others in
      λ i. record { at = point i; next = next i } ∷ later i

  rests-apart : (r s : Rest) → list_all p (rest_nodes r) ≡ true → list_all p (rest_nodes s) ≡ true
      → unfolded_rest at r ≡ unfolded_rest at s → r ≡ s
  rests-apart r s h k e = search (rules, and_left)

  nodes-apart : (n m : Node) → list_all p (named (answers_of n)) ≡ true → list_all p (named (answers_of m)) ≡ true
      → unfolded_node at (Some n) ≡ unfolded_node at (Some m) → n ≡ m
  nodes-apart n m h k e =
      let attack : n.attack ≡ m.attack = cc in
      let listed : unfolded_replies at n.replies ≡ unfolded_replies at m.replies = cc in
      let others : unfolded_rest at n.rest ≡ unfolded_rest at m.rest = cc in
      let replies = replies-apart n.replies m.replies (listed-pass p (answers_of n) h) (listed-pass p (answers_of m) k) listed in
      let rest = rests-apart n.rest m.rest (rest-passes p (answers_of n) h) (rest-passes p (answers_of m) k) others in
      λ i. record { attack = attack i; replies = replies i; rest = rest i }

module _ (t : List Node) (lower : NamesLower t) (different : AreDifferent t) where
  apart-below : (k i j : ℕ) → k ≤ length t → i < k → j < k → unfolded t i ≡ unfolded t j → i ≡ j
  apart-below zero i j room l h e = absurd (omega arith)
  apart-below (suc k) i j room l h e =
      let n = node-inside t i (omega arith) in
      let m = node-inside t j (omega arith) in
      let at : unfolded_node (unfolded t) (Some n.0) ≡ unfolded_node (unfolded t) (Some m.0) = ap (unfolded_node (unfolded t)) (sym n.1)
      ∙ sym (unfolded-step t lower i) ∙ e ∙ unfolded-step t lower j ∙ ap (unfolded_node (unfolded t)) m.1 in
      let same : n.0 ≡ m.0 =
      nodes-apart (unfolded t) (λ x. nat_lt x k) (λ x y p q f. apart-below k x y (omega arith) (ltb-true _ _ p) (ltb-true _ _ q) f) n.0 m.0
      (names_below-more (answers_of n.0) i k (omega arith) (lower.lower i n.0 n.1))
      (names_below-more (answers_of m.0) j k (omega arith) (lower.lower j m.0 m.1)) at in
      different.different i j m.0 (n.1 ∙ ap Some same) m.1

  -- different numbers of a table with no two equal nodes are different nodes
  pub unfolded-apart : (i j : ℕ) → i < length t → j < length t → unfolded t i ≡ unfolded t j → i ≡ j
  unfolded-apart i j a b e = apart-below (length t) i j (omega arith) a b e

-- ---- how many different nodes there are

-- the nodes have these numbers
data AreAt (u : List Node) : List Unfolded → List ℕ → Type 0 where
  NoneAt : AreAt u [] []
  OneAt : (w : Unfolded) (ws : List Unfolded) (x : ℕ) (xs : List ℕ) → x < length u → unfolded u x ≡ w → AreAt u ws xs
      → AreAt u (w ∷ ws) (x ∷ xs)

module _ (u : List Node) where
  numbered : (ws : List Unfolded) → ((w : Unfolded) → Contains ws w → (x : ℕ) × (x < length u) × (unfolded u x ≡ w))
      → (xs : List ℕ) × AreAt u ws xs
  numbered [] find = ([], NoneAt)
  numbered (w ∷ ws) find =
      let here = find w (0, omega arith, refl) in
      let later = numbered ws (λ v c. find v (suc c.0, (let inside = c.1 in omega arith), c.2)) in
      (here.0 ∷ later.0, OneAt w ws here.0 later.0 here.1 here.2 later.1)

  count-at : (ws : List Unfolded) (xs : List ℕ) → AreAt u ws xs → length ws ≡ length xs
  count-at _ _ NoneAt = refl
  count-at _ _ (OneAt w ws x xs l e at) = ap suc (count-at ws xs at)

  below-at : (ws : List Unfolded) (xs : List ℕ) → AreAt u ws xs → (q : ℕ) → list_any (λ x. q == x) xs ≡ true → q < length u
  below-at _ _ NoneAt q h = cc
  below-at _ _ (OneAt w ws x xs l e at) q h = search (rules, Decides-eqb, below-at ws xs at q)

  -- a number that is there is that of a node that is there
  other-at : (ws : List Unfolded) (xs : List ℕ) → AreAt u ws xs → (w : Unfolded) (x : ℕ) → unfolded u x ≡ w
      → ((i : ℕ) → slice_get ws i ≡ Some w → ⊥) → AllByRecursion (λ y. (x == y) ≡ false) xs
  other-at _ _ NoneAt w x e none = tt
  other-at _ _ (OneAt v ws y ys l at rest) w x e none = (by_test (x == y) refl, other-at ws ys rest w x e (λ i h. none (suc i) h)) where
    by_test : (b : Bool) → (x == y) ≡ b → b ≡ false
    by_test true same = absurd (none 0 (ap Some (sym at ∙ ap (unfolded u) (sym ((Decides-eqb x y).0 same)) ∙ e)))
    by_test false same = refl

  distinct-at : (ws : List Unfolded) (xs : List ℕ) → AreAt u ws xs
      → ((i j : ℕ) (w : Unfolded) → slice_get ws i ≡ Some w → slice_get ws j ≡ Some w → i ≡ j) → IsDistinct (λ x y. x == y) xs
  unfolding IsDistinct
  distinct-at _ _ NoneAt one = tt
  distinct-at _ _ (OneAt w ws x xs l e at) one = (
    other-at ws xs at w x e (λ i h. let same = one 0 (suc i) w refl h in absurd (omega (arith, same))),
    distinct-at ws xs at (λ i j v h k. let same = one (suc i) (suc j) v h k in omega (arith, same)),
  )

-- a table that has each node of the tables has as many nodes as they hold different ones, or more
pub held-within : (tables : List (List Node)) (most : ℕ) (u : List Node)
    → ((w : Unfolded) → IsHeld tables w → (x : ℕ) × (x < length u) × (unfolded u x ≡ w)) → HoldMore tables most → most < length u
held-within tables most u find h =
    let found = numbered u h.nodes (λ w c. find w (all-at h.nodes (IsHeld tables) h.held w c)) in
    let count = count-at u h.nodes found.0 found.1 in
    let few = length-le_from_distinct_below found.0
    (length u) (distinct-at u h.nodes found.0 found.1 h.different) (below-at u h.nodes found.0 found.1) in
    let more = h.more in
    omega arith where
      all-at : (ws : List Unfolded) (P : Unfolded → Type 0) → All P ws → (w : Unfolded) → Contains ws w → P w
      all-at ws P all w (k, l, e) = subst P e (all k w l)

module _ (at : ℕ → Unfolded) where
  nodes-count : (a n : ℕ) → length (map at (range_with_len a n)) ≡ n
  nodes-count a zero = refl
  nodes-count a (suc n) = ap suc (nodes-count (a + 1) n)

  nodes-at : (a n k : ℕ) (w : Unfolded) → slice_get (map at (range_with_len a n)) k ≡ Some w → (k < n) × (at (k + a) ≡ w)
  nodes-at a zero k w e = cc
  nodes-at a (suc n) zero w e = search rules
  nodes-at a (suc n) (suc k) w e = search (rules, nodes-at (a + 1) n k w e)

  nodes-there : (a n k : ℕ) → k < n → slice_get (map at (range_with_len a n)) k ≡ Some (at (k + a))
  nodes-there a zero k l = absurd (omega arith)
  nodes-there a (suc n) zero l = search rules
  nodes-there a (suc n) (suc k) l = search (rules, nodes-there (a + 1) n k (omega arith))

  nodes-all : (P : Unfolded → Type 0) (a n : ℕ) → ((k : ℕ) → k < a + n → P (at k)) → AllByRecursion P (map at (range_with_len a n))
  nodes-all P a zero all = tt
  nodes-all P a (suc n) all = (all a (omega arith), nodes-all P (a + 1) n (λ k l. all k (omega arith)))

-- the nodes of a table by their places
pub unfolded_nodes-count : (t : List Node) → length (unfolded_nodes t) ≡ length t
unfolded_nodes-count t = nodes-count (unfolded t) 0 (length t)

pub unfolded_nodes-at : (t : List Node) (k : ℕ) (w : Unfolded) → slice_get (unfolded_nodes t) k ≡ Some w
    → (k < length t) × (unfolded t k ≡ w)
unfolded_nodes-at t k w e = search (rules, nodes-at)

pub unfolded_nodes-there : (t : List Node) (k : ℕ) → k < length t → slice_get (unfolded_nodes t) k ≡ Some (unfolded t k)
unfolded_nodes-there t k l = search (rules, nodes-there)

-- tables that have each node of a table with no two equal ones hold as many different nodes as it has
pub held-more : (tables : List (List Node)) (most : ℕ) (u : List Node) → NamesLower u → AreDifferent u → most < length u
    → ((i : ℕ) → i < length u → IsHeld tables (unfolded u i)) → HoldMore tables most
held-more tables most u lower different more held = record {
  nodes = unfolded_nodes u;
  more = let count = unfolded_nodes-count u in omega arith;
  different = λ i j w h k.
      let here = unfolded_nodes-at u i w h in
      let there = unfolded_nodes-at u j w k in
      unfolded-apart u lower different i j here.0 there.0 (here.1 ∙ sym there.1);
  held = All-from_recursion (IsHeld tables) _ (nodes-all (unfolded u) (IsHeld tables) 0 (length u) (λ k l. held k (omega arith)));
}

-- ---- one node more

pushed-node : (t : List Node) (n : Node) (i : ℕ) (m : Node) → slice_get (t ++ n ∷ []) i ≡ Some m
    → (slice_get t i ≡ Some m) ⊎ ((i ≡ length t) × (n ≡ m))
pushed-node [] n zero m h = inr (refl, same_Some n m h)
pushed-node [] n (suc i) m h = cc
pushed-node (x ∷ t) n zero m h = inl h
pushed-node (x ∷ t) n (suc i) m h = elim (pushed-node t n i m h) [ inl e ↦ inl e | inr p ↦ inr (ap suc p.0, p.1) ]

there-contains : (t : List Node) (i : ℕ) (n : Node) → slice_get t i ≡ Some n → Contains t n
there-contains [] i n e = cc
there-contains (m ∷ t) zero n e = (0, omega arith, same_Some m n e)
there-contains (m ∷ t) (suc i) n e = let later = there-contains t i n e in (suc later.0, (let inside = later.1 in omega arith), later.2)

different-push : (t : List Node) (n : Node) → AreDifferent t → (Contains t n → ⊥) → AreDifferent (t ++ n ∷ [])
different-push t n ok new = search (rules, pushed-node, there-contains)

lower-push : (t : List Node) (n : Node) → NamesLower t → names_below (answers_of n) (length t) ≡ true → NamesLower (t ++ n ∷ [])
lower-push t n lower below = search (rules, pushed-node)

-- the nodes of a compiler and one that is new to it, all of them held by the tables, are so many different nodes
pub held-one_more : (tables : List (List Node)) (most : ℕ) (t : List Node) (n : Node)
    → IsCompiled t → IsNode n (length t) → (Contains t n → ⊥) → length t ≡ most → ((i : ℕ) → i < length t → IsHeld tables (unfolded t i))
    → (NamesLower (t ++ n ∷ []) → IsHeld tables (unfolded (t ++ n ∷ []) (length t))) → HoldMore tables most
held-one_more tables most t n compiled node new full held last =
    let lower = IsTable-lower t compiled.table in
    let lower' = lower-push t n lower node.below in
    let count : length (t ++ n ∷ []) ≡ length t + 1 = length-append t (n ∷ []) in
    held-more tables most (t ++ n ∷ []) lower' (different-push t n compiled.different new) (omega arith)
    (λ i l. by_place i (less_or i (length t) (omega arith)) lower lower') where
      less_or : (i k : ℕ) → i < k + 1 → (i < k) ⊎ (i ≡ k)
      less_or i k l = elim (cases_lt i k) [ inl a ↦ inl a | inr b ↦ inr (omega arith) ]

      by_place : (i : ℕ) → (i < length t) ⊎ (i ≡ length t) → NamesLower t → NamesLower (t ++ n ∷ [])
          → IsHeld tables (unfolded (t ++ n ∷ []) i)
      by_place i (inl l) lower lower' = subst (IsHeld tables) (sym (unfolded-longer t (n ∷ []) lower i l)) (held i l)
      by_place i (inr e) lower lower' = subst (λ (j : ℕ). IsHeld tables (unfolded (t ++ n ∷ []) j)) (sym e) (last lower')
