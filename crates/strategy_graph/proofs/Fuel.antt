-- Depth, acceptance and arrivals of a node by those of the nodes that it names. The bound on the nodes that follow
-- one another changes nothing once it is above the number of the node.
use Rattle.std.proofs.Common.{◌≡◌, ℕ, zero, suc, ◌<◌, true, List, refl, sym, ap, ◌∙◌, arith, ◌≤◌, false, Option, Some, None, slice_get}
use Rattle.std.proofs.Common.{nat_lt, rules, ltb-true}
use Rattle.std.specs.List.{list_all}
use Rattle.strategy_graph.proofs.Common.{Grid, outcome, after, WinsOr, RuleKind, Point, Node, answers_of, named, names_below, NamesLower}
use Rattle.strategy_graph.proofs.Common.{node_depth, depth_within, depth, is_winning, answer, AcceptedNode, AcceptedWithin, Accepted, Meets}
use Rattle.strategy_graph.proofs.Common.{arrivals_behind, arrivals_within, arrivals, renumbered_node}
use Rattle.strategy_graph.proofs.Copies.{renumbered-same, depths-copied, accepted_node-copied, arrivals_behind-copied}
use Rattle.strategy_graph.proofs.Answering.{answer-greatest}

module _ (t : List Node) (lower : NamesLower t) where
  -- what is computed of node i agrees where it agrees wherever the values at lower nodes do
  by_node {ℓ} : (X : Type ℓ) (g g' : Option Node → X) (i : ℕ) → g' None ≡ g None
      → ((n : Node) → list_all (λ j. nat_lt j i) (named (answers_of n)) ≡ true → g' (Some (renumbered_node (λ j. j) n)) ≡ g (Some n))
      → g' (slice_get t i) ≡ g (slice_get t i)
  by_node X g g' i none some = at (slice_get t i) (lower.lower i) where
    at : (o : Option Node) → ((n : Node) → o ≡ Some n → names_below (answers_of n) i ≡ true) → g' o ≡ g o
    at None below = none
    at (Some n) below = ap (λ (m : Node). g' (Some m)) (sym (renumbered-same n)) ∙ some n (below n refl)

  pub depth_within-enough : (k m i : ℕ) → i < k → i < m → depth_within m t i ≡ depth_within k t i
  unfolding depth_within
  depth_within-enough zero m i l h = absurd (omega arith)
  depth_within-enough (suc k) zero i l h = absurd (omega arith)
  depth_within-enough (suc k) (suc m) i l h = by_node ℕ (λ o. node_depth o (depth_within k t)) (λ o. node_depth o (depth_within m t)) i refl
      (λ n all. ap suc (depths-copied (λ j. j) _ (answers_of n) all (depth_within k t) (depth_within m t)
      (λ j e. let low : j < i = ltb-true _ _ e in depth_within-enough k m j (omega (arith, low, l)) (omega (arith, low, h)))))

  pub accepted_within-enough : (rule : RuleKind) (k m i : ℕ) (b : Grid) → i < k → i < m
      → AcceptedWithin m rule t i b ≡ AcceptedWithin k rule t i b
  unfolding AcceptedWithin
  accepted_within-enough rule zero m i b l h = absurd (omega arith)
  accepted_within-enough rule (suc k) zero i b l h = absurd (omega arith)
  accepted_within-enough rule (suc k) (suc m) i b l h =
      by_node (Type 0) (λ o. AcceptedNode rule o (AcceptedWithin k rule t) b) (λ o. AcceptedNode rule o (AcceptedWithin m rule t) b) i refl
      (λ n all. accepted_node-copied (λ j. j) _ n all rule (AcceptedWithin k rule t) (AcceptedWithin m rule t)
      (λ j e c. let low : j < i = ltb-true _ _ e in accepted_within-enough rule k m j c (omega (arith, low, l)) (omega (arith, low, h))) b)

  pub arrivals_within-enough : (rule : RuleKind) (k m i : ℕ) (b : Grid) → i < k → i < m
      → arrivals_within m rule t i b ≡ arrivals_within k rule t i b
  unfolding arrivals_within
  arrivals_within-enough rule zero m i b l h = absurd (omega arith)
  arrivals_within-enough rule (suc k) zero i b l h = absurd (omega arith)
  arrivals_within-enough rule (suc k) (suc m) i b l h = by_node ℕ (λ o. suc (arrivals_behind rule o (arrivals_within k rule t) b))
      (λ o. suc (arrivals_behind rule o (arrivals_within m rule t) b)) i refl
      (λ n all. ap suc (arrivals_behind-copied (λ j. j) _ n all rule (arrivals_within k rule t) (arrivals_within m rule t)
      (λ j e c. let low : j < i = ltb-true _ _ e in arrivals_within-enough rule k m j c (omega (arith, low, l)) (omega (arith, low, h))) b))

  -- ---- each by the nodes that are named

  pub depth-step : (i : ℕ) → depth t i ≡ node_depth (slice_get t i) (depth t)
  unfolding depth_within
  depth-step i = by_node ℕ (λ o. node_depth o (depth t)) (λ o. node_depth o (depth_within i t)) i refl
      (λ n all. ap suc (depths-copied (λ j. j) _ (answers_of n) all (depth t) (depth_within i t)
      (λ j e. depth_within-enough (suc j) i j (omega arith) (ltb-true _ _ e))))

  pub accepted-step : (rule : RuleKind) (i : ℕ) (b : Grid) → Accepted rule t i b ≡ AcceptedNode rule (slice_get t i) (Accepted rule t) b
  unfolding AcceptedWithin
  accepted-step rule i b =
      by_node (Type 0) (λ o. AcceptedNode rule o (Accepted rule t) b) (λ o. AcceptedNode rule o (AcceptedWithin i rule t) b) i refl
      (λ n all. accepted_node-copied (λ j. j) _ n all rule (Accepted rule t) (AcceptedWithin i rule t)
      (λ j e c. accepted_within-enough rule (suc j) i j c (omega arith) (ltb-true _ _ e)) b)

  pub arrivals-step : (rule : RuleKind) (i : ℕ) (b : Grid)
      → arrivals rule t i b ≡ suc (arrivals_behind rule (slice_get t i) (arrivals rule t) b)
  unfolding arrivals_within
  arrivals-step rule i b =
      by_node ℕ (λ o. suc (arrivals_behind rule o (arrivals rule t) b)) (λ o. suc (arrivals_behind rule o (arrivals_within i rule t) b)) i
      refl (λ n all. ap suc (arrivals_behind-copied (λ j. j) _ n all rule (arrivals rule t) (arrivals_within i rule t)
      (λ j e c. arrivals_within-enough rule (suc j) i j c (omega arith) (ltb-true _ _ e)) b))

-- a node that is accepted is there, and so has a depth of 1 or more
pub accepted-deep : (rule : RuleKind) (t : List Node) (i : ℕ) (b : Grid) → Accepted rule t i b → 1 ≤ depth t i
unfolding AcceptedWithin depth_within
accepted-deep rule t i b h = search rules

pub depth_some : (t : List Node) (i : ℕ) (n : Node) (k : ℕ) → slice_get t i ≡ Some n → 1 ≤ depth_within (suc k) t i
unfolding depth_within
depth_some t i n k e = rw e (omega arith)

-- the answer to a reply is less deep than the node
pub deeper : (t : List Node) (i : ℕ) (n : Node) (k : ℕ) (q : Point) (j : ℕ) → slice_get t i ≡ Some n → answer (answers_of n) q ≡ Some j
    → depth_within k t j < depth_within (suc k) t i
unfolding depth_within
deeper t i n k q j e w = let low = answer-greatest (depth_within k t) (answers_of n) q j w in rw e (omega (arith, low))

-- an accepted node is one of the table
pub accepted_node : (rule : RuleKind) (t : List Node) (j : ℕ) (b : Grid) (f : ℕ)
    → AcceptedWithin f rule t j b → (k : ℕ) × (n : Node) × (f ≡ suc k) × (slice_get t j ≡ Some n) × WinsOr (outcome rule b n.attack)
    ((is_winning n.rest ≡ false) × ((q : Point) → Meets rule (answers_of n) (AcceptedWithin k rule t) (after b n.attack) q))
unfolding AcceptedWithin
accepted_node rule t j b f h = search rules
