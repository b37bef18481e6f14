-- The walk at a node: its greatest zone, or that it has none.
use Rattle.std.proofs.Common.{◌≡◌, inl, inr, ℕ, ◌<◌, true, false, sym, ap, subst, ◌∙◌, arith, ◌+◌, ◌-◌, List, length, slice_get, refl, Bool}
use Rattle.std.proofs.Common.{◌&&◌, not, cond, Some, None, length-set}
use Rattle.std.proofs.lemmas.Bool.{both_ways}
use Rattle.zone_checker.proofs.Common.{Grid, IsBoard, is_empty, five, place_of, put, RuleKind, Side, Point, Node, Reply, Rest, To, Answers}
use Rattle.zone_checker.proofs.Common.{NamesLower, answer, answers_of, names_below, rest_node, Zone, HasZone, NodeHasZone, Withstands, Mark}
use Rattle.zone_checker.proofs.Common.{Stop, HasPairs, AnswersHavePairsBy, asked_rest, IsWithstoodBy, Stopped, Took, asked_of, IsEntered}
use Rattle.zone_checker.proofs.Common.{IsGreatest, blank, mark_at, zone_of}
use Rattle.game_rules.proofs.Common.{lift, stone_of}
use Rattle.game_rules.proofs.Boards.{lift-put}
use Rattle.stone_board.specs.Steps.{holds_stone}
use Rattle.stone_board.proofs.Stones.{put-holds_stone}
use Rattle.strategy_graph.proofs.Answering.{answer-below}
use Rattle.relevance_zone.proofs.ByNode.{zone-to_node, zone-by_node}
use Rattle.zone_checker.proofs.Counting.{pairs-by_node, pairs-to_node, stopped-then}
use Rattle.zone_checker.proofs.Steps.{five-greatest, node-greatest}

module _ (rule : RuleKind) (t : List Node) (lower : NamesLower t) (s : Side) (i : ℕ) (b : Grid) (n : Node)
    (at : slice_get t i ≡ Some n) where
  has_node : (z : Zone) → HasZone rule t s i b z → NodeHasZone rule s (Some n) (HasZone rule t s) b z
  has_node z h = subst (λ o. NodeHasZone rule s o (HasZone rule t s) b z) at (zone-to_node rule t lower s i b z h)

  of_node : (marks : List Mark) → IsGreatest (NodeHasZone rule s (Some n) (HasZone rule t s) b) b marks
      → IsGreatest (HasZone rule t s i b) b marks
  of_node marks h = record {
    size = h.size;
    zones = λ k. zone-by_node rule t lower s i b (zone_of b marks k)
        (subst (λ o. NodeHasZone rule s o (HasZone rule t s) b (zone_of b marks k)) (sym at) (h.zones k));
    greatest = λ z g. h.greatest z (has_node z g);
  }

  pub taken-fails : is_empty b n.attack ≡ false → (z : Zone) → HasZone rule t s i b z → ⊥
  taken-fails taken z h = both_ways _ taken (has_node z h).1

  pub restless-fails : five rule b s n.attack ≡ false → ((r : ℕ) → n.rest ≡ To r → ⊥) → (z : Zone) → HasZone rule t s i b z → ⊥
  restless-fails quiet none z h = elim (has_node z h).2 [ inl wins ↦ both_ways _ quiet wins | inr w ↦ none w.rest w.named ]

  asked-by : is_empty b n.attack ≡ true → (e : Bool) → five rule b s n.attack ≡ e
      → asked_rest rule s b n ≡ cond (not e) (rest_node n.rest) None
  asked-by empty e h = ap (λ u. cond (u && not (five rule b s n.attack)) (rest_node n.rest) None) empty
      ∙ ap (λ u. cond (not u) (rest_node n.rest) None) h

  module _ (r : ℕ) (named : n.rest ≡ To r) (quiet : five rule b s n.attack ≡ false) where
    same : answers_of n ≡ record { replies = n.replies; rest = To r }
    same = ap (λ (e : Rest). let a : Answers = record { replies = n.replies; rest = e } in a) named

    pub replies-fail : ((z : Zone) → Withstands s (record { replies = n.replies; rest = To r }) (HasZone rule t s) (put b s n.attack) z → ⊥)
        → (z : Zone) → HasZone rule t s i b z → ⊥
    replies-fail none z h = elim (has_node z h).2 [
      | inl wins ↦ both_ways _ quiet wins
      | inr w ↦ none z (subst (λ a. Withstands s a (HasZone rule t s) (put b s n.attack) z) same w)
    ]

    pub left-greatest : is_empty b n.attack ≡ true → (ms marks : List Mark) → IsEntered b n.attack ms marks
        → IsGreatest (Withstands s (record { replies = n.replies; rest = To r }) (HasZone rule t s) (put b s n.attack)) (put b s n.attack)
        ms → length ms ≡ length b.cells → IsGreatest (HasZone rule t s i b) b marks
    left-greatest empty ms marks entered best size = of_node marks (node-greatest rule s (HasZone rule t s) n b ms marks entered empty quiet
        (subst (λ a. IsGreatest (Withstands s a (HasZone rule t s) (put b s n.attack)) (put b s n.attack) ms) (sym same) best) size)

    -- the board after the attack, on which the answers are asked
    module _ (c : Grid) (after : c ≡ put b s n.attack) (empty : is_empty b n.attack ≡ true) where
      asked : asked_rest rule s b n ≡ Some r
      asked = asked-by empty false quiet ∙ ap rest_node named

      -- behind the node there are the pairs behind its answers
      pub left-took : (left new : ℕ) → 0 < left → Took (AnswersHavePairsBy rule t s (asked_of n.replies r) c) (left - 1) new
          → Took (HasPairs rule t s i b) left new
      left-took left new some took =
          let there = subst (λ (d : Grid). AnswersHavePairsBy rule t s (asked_of n.replies r) d took.pairs) after took.paired in
          record {
            pairs = took.pairs + 1;
            paired = pairs-by_node rule t s lower i b took.pairs (rw (at, asked, same) there);
            all = omega arith;
          }

      behind : (m : ℕ) → HasPairs rule t s i b m → (k : ℕ) × AnswersHavePairsBy rule t s (asked_of n.replies r) c k × (m ≡ k + 1)
      behind m h =
          let g = pairs-to_node rule t s lower i b m h in
          let there = rw (at, asked, same) at g.1 in
          (g.0, subst (λ (d : Grid). AnswersHavePairsBy rule t s (asked_of n.replies r) d g.0) (sym after) there, g.2)

      pub left-stopped : (left : ℕ) (stop : Stop) → 0 < left
          → Stopped (IsWithstoodBy rule t s (asked_of n.replies r) c) (left - 1) (AnswersHavePairsBy rule t s (asked_of n.replies r) c) stop
          → Stopped (HasZone rule t s i b) left (HasPairs rule t s i b) stop
      left-stopped left stop some h = stopped-then (IsWithstoodBy rule t s (asked_of n.replies r) c) (HasZone rule t s i b) (left - 1) left
          (AnswersHavePairsBy rule t s (asked_of n.replies r) c) (HasPairs rule t s i b) stop
          (λ none. replies-fail (subst (λ (d : Grid). (z : Zone) → IsWithstoodBy rule t s (asked_of n.replies r) d z → ⊥) after none))
          (λ short m g. let few = behind m g in let less = short few.0 few.1 in omega arith) h

  -- an attack that makes a five leaves no pairs behind it
  pub won-took : five rule b s n.attack ≡ true → is_empty b n.attack ≡ true → (left : ℕ) → 0 < left
      → Took (HasPairs rule t s i b) left (left - 1)
  won-took wins empty left some =
      record { pairs = 1; paired = pairs-by_node rule t s lower i b 0 (rw (at, asked-by empty true wins) refl); all = omega arith }

  pub won-greatest : five rule b s n.attack ≡ true → is_empty b n.attack ≡ true → (ms marks : List Mark) → IsEntered b n.attack ms marks
      → ((p : Point) → mark_at b ms p ≡ blank) → length ms ≡ length b.cells → IsGreatest (HasZone rule t s i b) b marks
  won-greatest wins empty ms marks entered blanks size =
      of_node marks (five-greatest rule s (HasZone rule t s) n b ms marks entered empty wins blanks size)

-- ---- which node answers

pub asked-below : (t : List Node) (i : ℕ) (n : Node) (r : ℕ) → NamesLower t → slice_get t i ≡ Some n → n.rest ≡ To r
    → names_below (record { replies = n.replies; rest = To r }) i ≡ true
asked-below t i n r lower at named =
    subst (λ (e : Rest). let a : Answers = record { replies = n.replies; rest = e } in names_below a i ≡ true) named (lower.lower i n at)

module _ (rs : List Reply) (r bound : ℕ) (q : Point) (below : names_below (record { replies = rs; rest = To r }) bound ≡ true) where
  pub answer-lower : (j : ℕ) → answer (record { replies = rs; rest = To r }) q ≡ Some j → j < bound
  answer-lower j h = answer-below (record { replies = rs; rest = To r }) bound q j below h

-- ---- the board with a stone more, and without it again

module _ (b c d : Grid) (s : Side) (p : Point) (empty : is_empty b p ≡ true) (after : c ≡ put b s p) (same : d ≡ c) where
  pub lifted-same : (e : Grid) → e ≡ lift d p → e ≡ b
  lifted-same e h = h ∙ ap (λ (g : Grid). lift g p) (same ∙ after) ∙ lift-put b s p empty

  pub stone-there : IsBoard b → holds_stone d p ≡ true
  stone-there ok = ap (λ (g : Grid). holds_stone g p) (same ∙ after) ∙ put-holds_stone b s p ok empty

  pub same_size : (ms : List Mark) → length ms ≡ length c.cells → length ms ≡ length b.cells
  same_size ms h = h ∙ ap (λ (g : Grid). length g.cells) after ∙ length-set b.cells (place_of b p) (stone_of s)
