-- Zones of a node by those of the nodes that it names. The bound on the nodes that follow one another changes nothing once it is
-- above the number of the node.
use Rattle.std.proofs.Common.{◌≡◌, inl, inr, ℕ, zero, suc, ◌<◌, true, List, Option, Some, None, slice_get, refl, ap, arith}
use Rattle.relevance_zone.proofs.Common.{Grid, RuleKind, Side, Zone, Withstands, NodeHasZone, HasZoneWithin, HasZone}
use Rattle.strategy_graph.specs.declared.Node.{Node}
use Rattle.strategy_graph.proofs.Common.{Answers, answers_of, rest_node, names_below, NamesLower}
use Rattle.strategy_graph.proofs.Answering.{answer-below}
use Rattle.strategy_graph.proofs.Naming.{rest-below}

-- what holds of the nodes below k serves as well where the answers name only those
module _ (Has Also : ℕ → Grid → Zone → Type 0) (k : ℕ) (also : (j : ℕ) → j < k → (b : Grid) (z : Zone) → Has j b z → Also j b z)
    (s : Side) where
  pub withstands-also : (a : Answers) (b : Grid) (z : Zone) → names_below a k ≡ true → Withstands s a Has b z → Withstands s a Also b z
  withstands-also a b z below w = record {
    short = w.short;
    rest = w.rest;
    named = w.named;
    zone = w.zone;
    passed = also w.rest (rest-below a k w.rest below (ap rest_node w.named)) b w.zone w.passed;
    covered = w.covered;
    replies = λ q empty. elim (w.replies q empty) [
      | inl h ↦ inl h
      | inr h ↦ inr (h.0, h.1, h.2, also h.0 (answer-below a k q h.0 below h.2) _ h.1 h.3, h.4)
    ];
  }

  node-also : (rule : RuleKind) (o : Option Node) (b : Grid) (z : Zone)
      → ((n : Node) → o ≡ Some n → names_below (answers_of n) k ≡ true) → NodeHasZone rule s o Has b z → NodeHasZone rule s o Also b z
  node-also rule None b z below h = h
  node-also rule (Some n) b z below h =
      elim h.2 [ inl wins ↦ (h.0, h.1, inl wins) | inr w ↦ (h.0, h.1, inr (withstands-also (answers_of n) _ z (below n refl) w)) ]

module _ (rule : RuleKind) (t : List Node) (lower : NamesLower t) (s : Side) where
  within-enough : (f m i : ℕ) → i < f → i < m → (b : Grid) (z : Zone) → HasZoneWithin f rule t s i b z → HasZoneWithin m rule t s i b z
  unfolding HasZoneWithin
  within-enough zero m i l h b z k = absurd (omega arith)
  within-enough (suc f) zero i l h b z k = absurd (omega arith)
  within-enough (suc f) (suc m) i l h b z k = node-also (HasZoneWithin f rule t s) (HasZoneWithin m rule t s) i
      (λ j below c y has. within-enough f m j (omega (arith, below, l)) (omega (arith, below, h)) c y has) s rule
      (slice_get t i) b z (lower.lower i) k

  pub zone-to_node : (i : ℕ) (b : Grid) (z : Zone) → HasZone rule t s i b z → NodeHasZone rule s (slice_get t i) (HasZone rule t s) b z
  unfolding HasZoneWithin
  zone-to_node i b z h = node-also (HasZoneWithin i rule t s) (HasZone rule t s) i
      (λ j below c y has. within-enough i (suc j) j below (omega arith) c y has) s rule (slice_get t i) b z (lower.lower i) h

  pub zone-by_node : (i : ℕ) (b : Grid) (z : Zone) → NodeHasZone rule s (slice_get t i) (HasZone rule t s) b z → HasZone rule t s i b z
  unfolding HasZoneWithin
  zone-by_node i b z h = node-also (HasZone rule t s) (HasZoneWithin i rule t s) i
      (λ j below c y has. within-enough (suc j) i j (omega arith) below c y has) s rule (slice_get t i) b z (lower.lower i) h

-- what has a zone goes by the nodes that are named
pub zones-by_node : (t : List Node) → NamesLower t → (rule : RuleKind) (s : Side) (i : ℕ) (b : Grid) (z : Zone)
    → (HasZone rule t s i b z → NodeHasZone rule s (slice_get t i) (HasZone rule t s) b z)
    × (NodeHasZone rule s (slice_get t i) (HasZone rule t s) b z → HasZone rule t s i b z)
zones-by_node t lower rule s i b z = (zone-to_node rule t lower s i b z, zone-by_node rule t lower s i b z)
