-- Replies one after another.
use Rattle.std.proofs.Common.{◌≡◌, inl, inr, ℕ, ◌+◌, ◌<◌, true, refl, sym, ap, subst, ◌∙◌, arith, List, length, get_or}
use Rattle.std.proofs.lemmas.Bool.{both_ways, cases_lt}
use Rattle.zone_checker.proofs.Common.{Grid, is_empty, other, points_of, put, Side, Point, RuleKind, Node, Reply, Answers, answer, Zone}
use Rattle.zone_checker.proofs.Common.{HasZone, IsWithstood, Withstands, Mark, Stop, AreCovered, IsGreatest, LiesUnder, zone_of, HasPairs}
use Rattle.zone_checker.proofs.Common.{ReplyHasPairsBy, IsWithstoodBy, Stopped, Took, asked_of, AreReplied, IsReplied, SayMore}
use Rattle.zone_checker.specs.Pairs.{NeedsNoWalk}
use Rattle.zone_checker.specs.Walks.{HasToWalk, IsIdle}
use Rattle.zone_checker.proofs.Greatest.{harm-under, harmless-zone, more-then}
use Rattle.zone_checker.proofs.Steps.{withstood-more, reply-taken, reply-harmless, reply-walked, reply-fails, same_answer}
use Rattle.zone_checker.proofs.Counting.{stopped-then}

module _ (s : Side) (a : Answers) (Has : ℕ → Grid → Zone → Type 0) (b : Grid) (passed : List Mark) (ps : List Point) where
  -- the first i points are replied to
  pub record RepliedTo (i : ℕ) (old new : List Mark) : Type 0 where
    pub more : SayMore b old new
    pub withstood : (k n : ℕ) (d : Point) → k < i → is_empty b (get_or ps k d) ≡ true
        → IsWithstood s a Has b (zone_of b new n) (zone_of b passed (n + 1)) (get_or ps k d)
    pub greatest : (z : Zone) → Withstands s a Has b z → LiesUnder b old z → LiesUnder b new z

  pub replied-more : (i : ℕ) (q : Point) (old mid new : List Mark) → RepliedTo i old mid → ((d : Point) → get_or ps i d ≡ q)
      → IsReplied s a Has b passed q mid new → RepliedTo (i + 1) old new
  replied-more i q old mid new before here now = record {
    more = more-then b old mid new before.more now.more;
    withstood = λ k n d l empty. elim (cases_lt k i) [
      | inl less ↦ withstood-more s a Has b (zone_of b passed (n + 1)) (get_or ps k d) mid new n now.more
          (before.withstood k n d less empty)
      | inr more ↦
          let same : i ≡ k = omega arith in
          let at : get_or ps k d ≡ q = ap (λ j. get_or ps j d) (sym same) ∙ here d in
          subst (λ (p : Point). IsWithstood s a Has b (zone_of b new n) (zone_of b passed (n + 1)) p) (sym at)
          (now.withstood n (ap (is_empty b) (sym at) ∙ empty))
    ];
    greatest = λ z w under. now.greatest z w (before.greatest z w under);
  }

  pub replied-all : (old new : List Mark) → ps ≡ points_of b → RepliedTo (length ps) old new
      → AreReplied s a Has b passed (points_of b) old new
  replied-all old new points h = subst (λ (qs : List Point). AreReplied s a Has b passed qs old new) points
      (record { more = h.more; withstood = h.withstood; greatest = h.greatest })

-- ---- one reply, as the walk asks it

module _ (rule : RuleKind) (t : List Node) (s : Side) (replies : List Reply) (rest : ℕ) (b : Grid) (passed : List Mark)
    (best : IsGreatest (HasZone rule t s rest b) b passed) (q : Point) where
  pub reply-idle : (ms : List Mark) → IsIdle replies b passed q → IsReplied s (asked_of replies rest) (HasZone rule t s) b passed q ms ms
  reply-idle ms h = elim h [
    | inl taken ↦ reply-taken s (asked_of replies rest) (HasZone rule t s) b passed rest refl best q ms taken
    | inr calm ↦ reply-harmless s (asked_of replies rest) (HasZone rule t s) b passed rest refl best q ms calm.0 calm.1
  ]

  -- and has no pairs behind it
  pub idle-took : IsIdle replies b passed q → (left : ℕ) → Took (ReplyHasPairsBy rule t s (asked_of replies rest) rest b q) left left
  idle-took h left = record { pairs = 0; paired = inl (idle h, refl); all = omega arith } where
    idle : IsIdle replies b passed q → NeedsNoWalk (asked_of replies rest) (HasZone rule t s) rest b q
    idle (inl taken) = inl taken
    idle (inr calm) = inr (zone_of b passed 1, calm.0, best.zones 1, harmless-zone b passed q calm.1 0)

  module _ (j : ℕ) (walk : HasToWalk (asked_of replies rest) b passed q j) (c : Grid) (after : c ≡ put b (other s) q) where
    needed : NeedsNoWalk (asked_of replies rest) (HasZone rule t s) rest b q → ⊥
    needed (inl taken) = both_ways _ taken walk.empty
    needed (inr calm) = harm-under b passed q (walk.harm calm.1) calm.0 (best.greatest calm.0 calm.2) calm.3

    -- the answer's zone is said too
    pub reply-found : (found old new : List Mark) → IsGreatest (HasZone rule t s j c) c found → AreCovered old found new
        → length found ≡ length old → IsReplied s (asked_of replies rest) (HasZone rule t s) b passed q old new
    reply-found found old new greatest =
        reply-walked s (asked_of replies rest) (HasZone rule t s) b passed rest refl best q j walk.given walk.empty walk.harm found old new
        (subst (λ (d : Grid). IsGreatest (HasZone rule t s j d) d found) after greatest)

    pub reply-took : (old new : ℕ) → Took (HasPairs rule t s j c) old new
        → Took (ReplyHasPairsBy rule t s (asked_of replies rest) rest b q) old new
    reply-took old new took = record {
      pairs = took.pairs;
      paired = inr (j, walk.given, needed, subst (λ (d : Grid). HasPairs rule t s j d took.pairs) after took.paired);
      all = took.all;
    }

    pub reply-stopped : (left : ℕ) (stop : Stop) → Stopped (HasZone rule t s j c) left (HasPairs rule t s j c) stop
        → Stopped (IsWithstoodBy rule t s (asked_of replies rest) b) left (ReplyHasPairsBy rule t s (asked_of replies rest) rest b q) stop
    reply-stopped left stop = stopped-then (HasZone rule t s j c) (IsWithstoodBy rule t s (asked_of replies rest) b) left left
        (HasPairs rule t s j c) (ReplyHasPairsBy rule t s (asked_of replies rest) rest b q) stop
        (λ none. reply-fails s (asked_of replies rest) (HasZone rule t s) b passed rest refl best q j walk.given walk.empty walk.harm
        (subst (λ (d : Grid). (z : Zone) → HasZone rule t s j d z → ⊥) after none)) (λ short n h. elim h [
          | inl idle ↦ absurd (needed idle.0)
          | inr walks ↦ short n
              (subst (λ (d : Grid). HasPairs rule t s j d n) (sym after) (subst (λ k. HasPairs rule t s k (put b (other s) q) n)
              (same_answer walks.0 j (answer (asked_of replies rest) q) walks.1 walk.given) walks.3))
        ])
