-- The pairs of a walk: they go by the nodes that are named, there is one number of them, and what was taken of those that were left.
use Rattle.std.proofs.Common.{◌≡◌, inl, inr, ℕ, zero, suc, ◌+◌, ◌<◌, Bool, true, false, ◌&&◌, not, cond, List, [], ◌∷◌, ◌++◌, Option, Some}
use Rattle.std.proofs.Common.{None, slice_get, refl, sym, ap, subst, ◌∙◌, arith, ◌≤◌, length, take, drop, get_or}
use Rattle.std.specs.Option.{option_or}
use Rattle.std.proofs.lemmas.List.{drop_more, take-append-drop, take_all, take_more}
use Rattle.zone_checker.proofs.Common.{Grid, five, is_empty, other, points_of, put, RuleKind, Side, Point, Node, Reply, Root, Attack}
use Rattle.zone_checker.proofs.Common.{Defend, Answers, NamesLower, answer, answers_of, listed_node, names_below, rest_node, Zone, HasZone}
use Rattle.zone_checker.proofs.Common.{Stopped, Took, asked_of, Stop, AnswersHavePairsBy, ComesTo, HasPairs, ReplyHasPairsBy, RootHasPairs}
use Rattle.zone_checker.proofs.Common.{asked_rest}
use Rattle.strategy_graph.proofs.Answering.{answer-below}
use Rattle.strategy_graph.proofs.Naming.{rest-below}
use Rattle.zone_checker.specs.declared.walk.Stop.TheVariants.{Zoneless, Spent, Memory}
use Rattle.zone_checker.specs.Pairs.{AnswersHavePairs, NodeHasPairs, ReplyHasPairs}
use Rattle.zone_checker.proofs.Steps.{same_answer}
unfoldable use Rattle.zone_checker.specs.Pairs.{HasPairsWithin}

-- ---- numbers of points one after another

module _ (Has : Point → ℕ → Type 0) where
  comes-join : (ps qs : List Point) (m k : ℕ) → ComesTo Has ps m → ComesTo Has qs k → ComesTo Has (ps ++ qs) (m + k)
  comes-join [] qs m k h g = subst (ComesTo Has qs) (omega arith) g
  comes-join (p ∷ ps) qs m k h g = (h.0, h.1 + k, h.2, comes-join ps qs h.1 k h.3 g, omega arith)

  comes-split : (ps qs : List Point) (n : ℕ) → ComesTo Has (ps ++ qs) n → (m k : ℕ) × ComesTo Has ps m × ComesTo Has qs k × (n ≡ m + k)
  comes-split [] qs n h = (0, n, refl, h, omega arith)
  comes-split (p ∷ ps) qs n h =
      let g = comes-split ps qs h.1 h.3 in
      (h.0 + g.0, g.1, (h.0, g.0, h.2, g.2, refl), g.3, omega arith)

  -- where each point has one number, they come to one
  comes-same : ((p : Point) (n m : ℕ) → Has p n → Has p m → n ≡ m) → (ps : List Point) (n m : ℕ) → ComesTo Has ps n → ComesTo Has ps m
      → n ≡ m
  comes-same one [] n m h g = h ∙ sym g
  comes-same one (p ∷ ps) n m h g =
      let first = one p h.0 g.0 h.2 g.2 in
      let others = comes-same one ps h.1 g.1 h.3 g.3 in
      omega arith

  -- and to some, where each has one
  comes-some : ((p : Point) → ((n : ℕ) → Has p n → ⊥) → ⊥) → (ps : List Point) → ((n : ℕ) → ComesTo Has ps n → ⊥) → ⊥
  comes-some some [] none = none 0 refl
  comes-some some (p ∷ ps) none = some p (λ k has. comes-some some ps (λ m others. none (k + m) (k, m, has, others, refl)))

comes-also : (Has Also : Point → ℕ → Type 0) → ((p : Point) (n : ℕ) → Has p n → Also p n) → (ps : List Point) (n : ℕ) → ComesTo Has ps n
    → ComesTo Also ps n
comes-also Has Also also [] n h = h
comes-also Has Also also (p ∷ ps) n h = (h.0, h.1, also p h.0 h.2, comes-also Has Also also ps h.1 h.3, h.4)

-- ---- by the nodes that are named

asked-named : (rule : RuleKind) (s : Side) (b : Grid) (d : Node) (j : ℕ) → asked_rest rule s b d ≡ Some j → rest_node d.rest ≡ Some j
asked-named rule s b d j = by_test (is_empty b d.attack && not (five rule b s d.attack)) where
  by_test : (e : Bool) → cond e (rest_node d.rest) None ≡ Some j → rest_node d.rest ≡ Some j
  by_test true h = h
  by_test false h = cc

-- what is said of the nodes below k serves as well where the answers name only those
module _ (Zoned : ℕ → Grid → Zone → Type 0) (Paired Also : ℕ → Grid → ℕ → Type 0) (k : ℕ)
    (also : (j : ℕ) → j < k → (b : Grid) (n : ℕ) → Paired j b n → Also j b n) (rule : RuleKind) (s : Side) where
  reply-also : (a : Answers) → names_below a k ≡ true → (r : ℕ) (b : Grid) (q : Point) (n : ℕ)
      → ReplyHasPairs s a Zoned Paired r b q n → ReplyHasPairs s a Zoned Also r b q n
  reply-also a below r b q n h = elim h [
    | inl idle ↦ inl idle
    | inr walk ↦ inr (walk.0, walk.1, walk.2, also walk.0 (answer-below a k q walk.0 below walk.1) _ n walk.3)
  ]

  answers-also : (a : Answers) → names_below a k ≡ true → (o : Option ℕ) → ((j : ℕ) → o ≡ Some j → rest_node a.rest ≡ Some j)
      → (b : Grid) (n : ℕ) → AnswersHavePairs o s a Zoned Paired b n → AnswersHavePairs o s a Zoned Also b n
  answers-also a below None named b n h = h
  answers-also a below (Some r) named b n h =
      (h.0, h.1, also r (rest-below a k r below (named r refl)) b h.0 h.2, comes-also _ _ (reply-also a below r b) _ h.1 h.3, h.4)

  node-also : (o : Option Node) (b : Grid) (n : ℕ) → ((d : Node) → o ≡ Some d → names_below (answers_of d) k ≡ true)
      → NodeHasPairs rule s o Zoned Paired b n → NodeHasPairs rule s o Zoned Also b n
  node-also None b n below h = h
  node-also (Some d) b n below h = answers-also (answers_of d) (below d refl) (asked_rest rule s b d) (asked-named rule s b d) _ n h

module _ (rule : RuleKind) (t : List Node) (s : Side) where
  module _ (lower : NamesLower t) where
    within-enough : (f m i : ℕ) → i < f → i < m → (b : Grid) (n : ℕ) → HasPairsWithin f rule t s i b n → HasPairsWithin m rule t s i b n
    unfolding HasPairsWithin
    within-enough zero m i l h b n k = absurd (omega arith)
    within-enough (suc f) zero i l h b n k = absurd (omega arith)
    within-enough (suc f) (suc m) i l h b n k = (
      k.0,
      node-also (HasZone rule t s) (HasPairsWithin f rule t s) (HasPairsWithin m rule t s) i
          (λ j below c n has. within-enough f m j (omega (arith, below, l)) (omega (arith, below, h)) c n has) rule s (slice_get t i) b k.0
          (lower.lower i) k.1,
      k.2,
    )

    pub pairs-to_node : (i : ℕ) (b : Grid) (n : ℕ) → HasPairs rule t s i b n
        → (m : ℕ) × NodeHasPairs rule s (slice_get t i) (HasZone rule t s) (HasPairs rule t s) b m × (n ≡ m + 1)
    unfolding HasPairsWithin
    pairs-to_node i b n h = (
      h.0,
      node-also (HasZone rule t s) (HasPairsWithin i rule t s) (HasPairs rule t s) i
          (λ j below c n has. within-enough i (suc j) j below (omega arith) c n has) rule s (slice_get t i) b h.0 (lower.lower i) h.1,
      h.2,
    )

    pub pairs-by_node : (i : ℕ) (b : Grid) (m : ℕ)
        → NodeHasPairs rule s (slice_get t i) (HasZone rule t s) (HasPairs rule t s) b m → HasPairs rule t s i b (m + 1)
    unfolding HasPairsWithin
    pairs-by_node i b m h = (
      m,
      node-also (HasZone rule t s) (HasPairs rule t s) (HasPairsWithin i rule t s) i
          (λ j below c n has. within-enough (suc j) i j (omega arith) below c n has) rule s (slice_get t i) b m (lower.lower i) h,
      refl,
    )

  pub pairs-some : (i : ℕ) (b : Grid) (n : ℕ) → HasPairs rule t s i b n → 0 < n
  unfolding HasPairsWithin
  pairs-some i b n h = omega arith

-- ---- there is one number of them

module _ (rule : RuleKind) (s : Side) (Zoned : ℕ → Grid → Zone → Type 0) (Paired : ℕ → Grid → ℕ → Type 0)
    (one : (j : ℕ) (b : Grid) (n m : ℕ) → Paired j b n → Paired j b m → n ≡ m) where
  reply-one : (a : Answers) (r : ℕ) (b : Grid) (q : Point) (n m : ℕ) → ReplyHasPairs s a Zoned Paired r b q n
      → ReplyHasPairs s a Zoned Paired r b q m → n ≡ m
  reply-one a r b q n m (inl h) (inl g) = h.1 ∙ sym g.1
  reply-one a r b q n m (inl h) (inr g) = absurd (g.2 h.0)
  reply-one a r b q n m (inr h) (inl g) = absurd (h.2 g.0)
  reply-one a r b q n m (inr h) (inr g) =
      one h.0 _ n m h.3 (subst (λ j. Paired j (put b (other s) q) m) (same_answer g.0 h.0 (answer a q) g.1 h.1) g.3)

  answers-one : (o : Option ℕ) (a : Answers) (b : Grid) (n m : ℕ) → AnswersHavePairs o s a Zoned Paired b n
      → AnswersHavePairs o s a Zoned Paired b m → n ≡ m
  answers-one None a b n m h g = h ∙ sym g
  answers-one (Some r) a b n m h g =
      let passed = one r b h.0 g.0 h.2 g.2 in
      let replied = comes-same (ReplyHasPairs s a Zoned Paired r b) (reply-one a r b) _ h.1 g.1 h.3 g.3 in
      omega arith

  node-one : (o : Option Node) (b : Grid) (n m : ℕ) → NodeHasPairs rule s o Zoned Paired b n → NodeHasPairs rule s o Zoned Paired b m
      → n ≡ m
  node-one None b n m h g = h ∙ sym g
  node-one (Some d) b n m h g = answers-one (asked_rest rule s b d) (answers_of d) _ n m h g

module _ (rule : RuleKind) (t : List Node) (s : Side) where
  within-one : (f i : ℕ) (b : Grid) (n m : ℕ) → HasPairsWithin f rule t s i b n → HasPairsWithin f rule t s i b m → n ≡ m
  unfolding HasPairsWithin
  within-one zero i b n m h g = h ∙ sym g
  within-one (suc f) i b n m h g =
      let same = node-one rule s (HasZone rule t s) (HasPairsWithin f rule t s) (within-one f) (slice_get t i) b h.0 g.0 h.1 g.1 in
      omega arith

  pub pairs-one : (i : ℕ) (b : Grid) (n m : ℕ) → HasPairs rule t s i b n → HasPairs rule t s i b m → n ≡ m
  pairs-one i = within-one (suc i) i

  pub replies-one : (a : Answers) (r : ℕ) (b : Grid) (q : Point) (n m : ℕ)
      → ReplyHasPairsBy rule t s a r b q n → ReplyHasPairsBy rule t s a r b q m → n ≡ m
  replies-one a r b q = reply-one rule s (HasZone rule t s) (HasPairs rule t s) pairs-one a r b q

  pub roots-one : (r : Root) (b : Grid) (n m : ℕ) → RootHasPairs rule t s r b n → RootHasPairs rule t s r b m → n ≡ m
  roots-one (Attack i) = pairs-one i
  roots-one (Defend a) = answers-one rule s (HasZone rule t s) (HasPairs rule t s) pairs-one (rest_node a.rest) a

-- ---- and there is one

module _ (rule : RuleKind) (s : Side) (Zoned : ℕ → Grid → Zone → Type 0) (Paired : ℕ → Grid → ℕ → Type 0)
    (some : (j : ℕ) (b : Grid) → ((n : ℕ) → Paired j b n → ⊥) → ⊥) where
  answers-some : (o : Option ℕ) (a : Answers) → ((j : ℕ) → o ≡ Some j → rest_node a.rest ≡ Some j) → (b : Grid)
      → ((n : ℕ) → AnswersHavePairs o s a Zoned Paired b n → ⊥) → ⊥
  answers-some None a named b none = none 0 refl
  answers-some (Some r) a named b none = some r b
      (λ k passed. comes-some (ReplyHasPairs s a Zoned Paired r b) replied _ (λ m others. none (k + m) (k, m, passed, others, refl))) where
        answered : (o : Option ℕ) → (j : ℕ) × (option_or o (rest_node a.rest) ≡ Some j)
        answered None = (r, named r refl)
        answered (Some j) = (j, refl)

        replied : (q : Point) → ((n : ℕ) → ReplyHasPairs s a Zoned Paired r b q n → ⊥) → ⊥
        replied q none =
            let by = answered (listed_node a.replies q) in
            some by.0 (put b (other s) q) (λ n paired. none n (inr (by.0, by.1, λ idle. none 0 (inl (idle, refl)), paired)))

  node-some : (o : Option Node) (b : Grid) → ((n : ℕ) → NodeHasPairs rule s o Zoned Paired b n → ⊥) → ⊥
  node-some None b none = none 0 refl
  node-some (Some d) b none = answers-some (asked_rest rule s b d) (answers_of d) (asked-named rule s b d) _ none

module _ (rule : RuleKind) (t : List Node) (s : Side) where
  within-some : (f i : ℕ) (b : Grid) → ((n : ℕ) → HasPairsWithin f rule t s i b n → ⊥) → ⊥
  unfolding HasPairsWithin
  within-some zero i b none = none 0 refl
  within-some (suc f) i b none = node-some rule s (HasZone rule t s) (HasPairsWithin f rule t s) (within-some f) (slice_get t i) b
      (λ m behind. none (m + 1) (m, behind, refl))

  pub roots-some : (r : Root) (b : Grid) → ((n : ℕ) → RootHasPairs rule t s r b n → ⊥) → ⊥
  roots-some (Attack i) = within-some (suc i) i
  roots-some (Defend a) =
      answers-some rule s (HasZone rule t s) (HasPairs rule t s) (λ i. within-some (suc i) i) (rest_node a.rest) a (λ j named. named)

-- ---- a stop that is handed on

pub stopped-then : (Has Also : Zone → Type 0) (left old : ℕ) (Few Many : ℕ → Type 0) (stop : Stop)
    → (((z : Zone) → Has z → ⊥) → (z : Zone) → Also z → ⊥)
    → (((n : ℕ) → Few n → left < n) → (n : ℕ) → Many n → old < n) → Stopped Has left Few stop → Stopped Also old Many stop
stopped-then Has Also left old Few Many Zoneless fails short h = fails h
stopped-then Has Also left old Few Many Spent fails short h = short h
stopped-then Has Also left old Few Many Memory fails short h = tt {0}

-- ---- pairs of points one after another

module _ (Has : Point → ℕ → Type 0) (ps : List Point) where
  -- at the first i of them, and at the next
  pub taken-more : (i : ℕ) (q : Point) (old mid new : ℕ) → i < length ps → ((d : Point) → get_or ps i d ≡ q)
      → Took (ComesTo Has (take i ps)) old mid → Took (Has q) mid new → Took (ComesTo Has (take (i + 1) ps)) old new
  taken-more i q old mid new l here before now = record {
    pairs = before.pairs + now.pairs;
    paired = subst (λ qs. ComesTo Has qs (before.pairs + now.pairs)) (sym (take_more ps i q l ∙ ap (λ p. take i ps ++ p ∷ []) (here q)))
        (comes-join Has (take i ps) (q ∷ []) before.pairs now.pairs before.paired (now.pairs, 0, now.paired, refl, omega arith));
    all = omega arith;
  }

  module _ (qs : List Point) (points : ps ≡ qs) where
    -- all of them
    pub taken-all : (i old new : ℕ) → length ps ≤ i → Took (ComesTo Has (take i ps)) old new → Took (ComesTo Has qs) old new
    taken-all i old new l = subst (λ rs. Took (ComesTo Has rs) old new) (take_all i ps l ∙ points)

    -- where the walk stopped at the next for want of pairs
    pub taken-short : ((p : Point) (n m : ℕ) → Has p n → Has p m → n ≡ m) → (i : ℕ) (q : Point) (old mid : ℕ) → i < length ps
        → ((d : Point) → get_or ps i d ≡ q) → Took (ComesTo Has (take i ps)) old mid → ((n : ℕ) → Has q n → mid < n)
        → (n : ℕ) → ComesTo Has qs n → old < n
    taken-short one i q old mid l here before short n h =
        let parts = comes-split Has (take i ps) (drop i ps) n (subst (λ rs. ComesTo Has rs n) (sym (take-append-drop i ps ∙ points)) h) in
        let last = subst (λ rs. ComesTo Has rs parts.1) (drop_more ps i q l ∙ ap (λ p. p ∷ drop (i + 1) ps) (here q)) parts.3 in
        let same = comes-same Has one (take i ps) before.pairs parts.0 before.paired parts.2 in
        let less = short last.0 last.2 in
        omega arith

-- ---- the rest, and then all replies

module _ (rule : RuleKind) (t : List Node) (s : Side) (replies : List Reply) (rest : ℕ) (b : Grid) (old mid : ℕ)
    (passed : Took (HasPairs rule t s rest b) old mid) where
  pub answers-took : (new : ℕ) → Took (ComesTo (ReplyHasPairsBy rule t s (asked_of replies rest) rest b) (points_of b)) mid new
      → Took (AnswersHavePairsBy rule t s (asked_of replies rest) b) old new
  answers-took new replied = record {
    pairs = passed.pairs + replied.pairs;
    paired = (passed.pairs, replied.pairs, passed.paired, replied.paired, refl);
    all = omega arith;
  }

  pub answers-short : ((n : ℕ) → ComesTo (ReplyHasPairsBy rule t s (asked_of replies rest) rest b) (points_of b) n → mid < n)
      → (n : ℕ) → AnswersHavePairsBy rule t s (asked_of replies rest) b n → old < n
  answers-short short n h =
      let same = pairs-one rule t s rest b passed.pairs h.0 passed.paired h.2 in
      let less = short h.1 h.3 in
      omega arith
