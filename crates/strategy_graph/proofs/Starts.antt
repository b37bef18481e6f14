-- What holds of a node and of a start holds of a root: where it is accepted it wins, and a line to a fault refutes it. A start whose nodes
-- are copies, under other numbers, says the same.
use Rattle.std.proofs.Common.{List, ◌≡◌, ℕ, suc, Bool, true, [], ◌∷◌, refl, ap, rules}
use Rattle.std.specs.List.{list_all}
use Rattle.strategy_graph.proofs.Common.{RuleKind, Point, Grid, outcome, after, Node, Why, Root, AcceptedRoot, LeadsRoot, RootWins}
use Rattle.strategy_graph.proofs.Common.{root_depth, Answers, named, depth, renumbered_answers, Accepted, AcceptedStart, arrivals}
use Rattle.strategy_graph.proofs.Common.{start_arrivals, Leads, LeadsStart, StartSaysSame}
use Rattle.strategy_graph.proofs.Soundness.{accepted-wins, accepted-start-wins}
use Rattle.strategy_graph.proofs.Refutation.{leads-refutes, leads-refutes-start}
use Rattle.strategy_graph.proofs.Copies.{iff_by, Meets-copied, arrivals_after-copied, reply_leads-answer, depths-copied}

pub accepted-root-wins : (rule : RuleKind) (t : List Node) (root : Root) (b : Grid) → AcceptedRoot rule t root b
    → RootWins rule root (root_depth t root) b
accepted-root-wins rule t root b h = search (rules, accepted-wins, accepted-start-wins)

pub leads-refutes-root : (rule : RuleKind) (t : List Node) (root : Root) (b : Grid) (line : List Point) (why : Why)
    → LeadsRoot rule t root b line why → AcceptedRoot rule t root b → ⊥
leads-refutes-root rule t root b line why h = search (rules, leads-refutes, leads-refutes-start)

-- node f j of table u says what node j of table t says, if j passes
pub record SameNodes (f : ℕ → ℕ) (passes : ℕ → Bool) (t u : List Node) : Type 1 where
  pub deep : (j : ℕ) → passes j ≡ true → depth u (f j) ≡ depth t j
  pub accepted : (rule : RuleKind) (j : ℕ) → passes j ≡ true → (b : Grid) → Accepted rule u (f j) b ≡ Accepted rule t j b
  pub count : (rule : RuleKind) (j : ℕ) → passes j ≡ true → (b : Grid) → arrivals rule u (f j) b ≡ arrivals rule t j b
  pub leads : (rule : RuleKind) (line : List Point) (why : Why) (j : ℕ) → passes j ≡ true → (b : Grid)
      → Leads rule u (f j) b line why ≡ Leads rule t j b line why

module _ (f : ℕ → ℕ) (passes : ℕ → Bool) (t u : List Node) (same : SameNodes f passes t u) (a : Answers)
    (all : list_all passes (named a) ≡ true) where
  accepted_start-same : (rule : RuleKind) (b : Grid) → AcceptedStart rule u (renumbered_answers f a) b ≡ AcceptedStart rule t a b
  accepted_start-same rule b = λ i. (q : Point) → Meets-copied f passes a all rule (Accepted rule t) (Accepted rule u) (same.accepted rule)
      b q i

  start_arrivals-same : (rule : RuleKind) (b : Grid) → start_arrivals rule u (renumbered_answers f a) b ≡ start_arrivals rule t a b
  start_arrivals-same rule b = ap suc (arrivals_after-copied f passes a all rule (arrivals rule t) (arrivals rule u) (same.count rule) b)

  leads_start-same : (rule : RuleKind) (b : Grid) (line : List Point) (why : Why)
      → LeadsStart rule u (renumbered_answers f a) b line why ≡ LeadsStart rule t a b line why
  leads_start-same rule b [] why = refl
  leads_start-same rule b (q ∷ line) why = reply_leads-answer f passes a all (λ j c. Leads rule t j c line why)
      (λ j c. Leads rule u j c line why) (same.leads rule line why) (outcome rule b q) line why (after b q) q

  pub starts-same : StartSaysSame t a u (renumbered_answers f a)
  starts-same = search (rules, depths-copied, iff_by, accepted_start-same, start_arrivals-same, leads_start-same)
