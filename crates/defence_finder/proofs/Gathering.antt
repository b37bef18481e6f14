-- What is known of the moves so far, and one more.
use Rattle.std.proofs.Common.{◌≡◌, ℕ, ◌+◌, ◌-◌, ◌*◌, ◌≤◌, Bool, true, false, cond, refl, sym, ap, subst, rules}
use Rattle.std.proofs.Common.{◌∙◌, arith, List, [], ◌∷◌, ◌++◌, map, append-nil, append_assoc, Some, find, Result, Ok, Err}
use Rattle.std.proofs.Common.{IfOk, filter, sum_by}
use Rattle.std.specs.List.{AllByRecursion}
use Rattle.std.proofs.lemmas.List.Sums.{sum_by-cons}
use Rattle.game_rules.proofs.Common.{Grid, outcome, points_of}
use Rattle.game_rules.specs.declared.Outcome.TheVariants.{GoesOn}
use Rattle.game_rules.proofs.Positions.{GoesOn-empty}
use Rattle.game_rules.specs.declared.RuleKind.{RuleKind}
use Rattle.game_rules.specs.declared.Point.{Point}
use Rattle.strategy_graph.specs.declared.Reply.{Reply}
use Rattle.strategy_graph.specs.declared.Node.{Node}
use Rattle.strategy_graph.proofs.Answering.{push-all, push-points}
use Rattle.strategy_graph.proofs.Common.{NamesLower}
use Rattle.strategy_compiler.proofs.Common.{IsBeatenBy, GrowsBy, IsCompiled, Writes}
use Rattle.strategy_compiler.specs.declared.error.SearchError.{SearchError}
use Rattle.strategy_compiler.proofs.Growing.{grows-more, grows-not, grows-then, writes-then-fails}
use Rattle.strategy_compiler.proofs.Replies.{beaten-grown}
use Rattle.strategy_compiler.proofs.Standing.{compiled-lower, growth_keeps-trees}
use Rattle.defence_finder.proofs.Common.{is_defence, is_beaten, is_spent, defences_of, beaten_of, first_spent, AreBeaten, IsPlanned}
use Rattle.defence_finder.proofs.Common.{OnKnown, most_nodes, nodes_after, spent_at, AreFound, IsAdded, IsSettled, IsToldAt, IsVerdict}
use Rattle.defence_finder.specs.declared.finder.DefenceAnswer.{DefenceAnswer}
use Rattle.defence_finder.specs.declared.finder.DefenceAnswer.TheVariants.{Known}
use Rattle.defence_finder.specs.declared.finder.Found.{Found}
use Rattle.defence_finder.specs.declared.finder.Verdict.{Verdict}
use Rattle.defence_finder.specs.declared.finder.Verdict.TheVariants.{NoReply, Holds, Beaten, Spent}

-- ---- as the nodes grow

module _ (rule : RuleKind) (n budget : ℕ) (b : Grid) (t u : List Node) (k : ℕ) (lower : NamesLower t) (grown : GrowsBy t u k) where
  planned-grown : (rs : List Reply) → AllByRecursion (IsPlanned rule n b t) rs → AllByRecursion (IsPlanned rule n b u) rs
  planned-grown [] h = tt
  planned-grown (r ∷ rs) h = search (rules, growth_keeps-trees, planned-grown rs h.1)

  pub found-grown : (good : List Point) (bad : List Reply) (left : List Point) → AreFound rule n budget b t good bad left
      → AreFound rule n budget b u good bad left
  found-grown good bad left h = search (beaten-grown, planned-grown)

-- ---- one move more

module _ (rule : RuleKind) (n budget : ℕ) (b : Grid) (t : List Node) (good : List Point) (bad : List Reply) (q : Point) (rest : List Point)
    (h : AreFound rule n budget b t good bad (q ∷ rest)) where
  good-is : (defence beaten : Bool) → IsSettled rule n budget b q defence beaten
      → good ++ cond defence (q ∷ filter (is_defence rule n b) rest) (filter (is_defence rule n b) rest) ≡ defences_of rule n b
  good-is defence beaten s = search rules

  bad-is : (defence beaten : Bool) → IsSettled rule n budget b q defence beaten
      → map (λ r. r.at) bad ++ cond beaten (q ∷ filter (is_beaten rule n b) rest) (filter (is_beaten rule n b) rest) ≡ beaten_of rule n b
  bad-is defence beaten s = search rules

  enough-is : (defence beaten : Bool) → IsSettled rule n budget b q defence beaten
      → find (is_spent rule n budget b) rest ≡ first_spent rule n budget b
  enough-is defence beaten s = search rules

  pub found-none : IsSettled rule n budget b q false false → AreFound rule n budget b t good bad rest
  found-none s = search (good-is, bad-is, enough-is)

  pub found-good : (more : List Point) → more ≡ good ++ q ∷ [] → IsSettled rule n budget b q true false
      → AreFound rule n budget b t more bad rest
  found-good more is s = record {
    good_are = ap (λ (ps : List Point). ps ++ filter (is_defence rule n b) rest) is ∙ append_assoc good (q ∷ []) _ ∙ good-is true false s;
    bad_are = bad-is true false s;
    each = h.each;
    planned = h.planned;
    enough = enough-is true false s;
  }

  pub found-bad : (more : List Reply) (i : ℕ) → more ≡ bad ++ (record { at = q; next = i }) ∷ [] → IsSettled rule n budget b q false true
      → IsBeatenBy rule n b t (record { at = q; next = i }) → IsPlanned rule n b t (record { at = q; next = i })
      → AreFound rule n budget b t good more rest
  found-bad more i is s won plan =
      let r : Reply = record { at = q; next = i } in
      record {
        good_are = good-is false true s;
        bad_are = ap (λ (rs : List Reply). map (λ r. r.at) rs ++ filter (is_beaten rule n b) rest) is
            ∙ ap (λ (ps : List Point). ps ++ filter (is_beaten rule n b) rest) (push-points bad r)
            ∙ append_assoc (map (λ r. r.at) bad) (q ∷ []) _ ∙ bad-is false true s;
        each = rw is (push-all (IsBeatenBy rule n b t) bad r h.each won);
        planned = rw is (push-all (IsPlanned rule n b t) bad r h.planned plan);
        enough = enough-is false true s;
      }

-- ---- the nodes that the points left may need

-- two for each move after a reply that goes on
pub nodes-on : (rule : RuleKind) (n : ℕ) (b : Grid) (q : Point) → outcome rule b q ≡ GoesOn → nodes_after n b q ≡ 2 * n
nodes-on rule n b q on = ap (λ (r : Bool). cond r (2 * n) 0) (GoesOn-empty rule b q on)

pub nodes-step : (n : ℕ) (b v : Grid) (q : Point) (qs rest : List Point) → v ≡ b → qs ≡ q ∷ rest
    → sum_by (nodes_after n b) qs ≡ nodes_after n v q + sum_by (nodes_after n b) rest
nodes-step n b v q qs rest same steps =
    let here : nodes_after n v q ≡ nodes_after n b q = ap (λ (w : Grid). nodes_after n w q) same in
    let split = ap (sum_by (nodes_after n b)) steps ∙ sum_by-cons (nodes_after n b) q rest in
    omega (arith, here, split)

-- ---- the walk

-- The walk so far: these are the moves found, and since it began with the nodes of a no more were added than the points before those
-- that are left may need.
pub record IsWalk (rule : RuleKind) (n budget : ℕ) (b : Grid) (a t : List Node) (good : List Point) (bad : List Reply)
    (left : List Point) : Type 0 where
  pub compiled : IsCompiled t
  pub found : AreFound rule n budget b t good bad left
  pub few : sum_by (nodes_after n b) left ≤ most_nodes n b
  pub grows : GrowsBy a t (most_nodes n b - sum_by (nodes_after n b) left)

-- before the first move
pub walk-first : (rule : RuleKind) (n budget : ℕ) (b : Grid) (t : List Node) → IsCompiled t → (qs : List Point) → qs ≡ points_of b
    → IsWalk rule n budget b t t [] [] qs
walk-first rule n budget b t compiled qs are = rw are
    (record {
      compiled = compiled;
      found = record { good_are = refl; bad_are = refl; each = tt; planned = tt; enough = refl };
      few = omega arith;
      grows = grows-not t t _ refl;
    })

-- one move more, and its verdict at the board v, which is that of the walk
module _ (rule : RuleKind) (n budget : ℕ) (b v : Grid) (same : v ≡ b) (a t u : List Node) (good : List Point) (bad : List Reply)
    (q : Point) (qs rest : List Point) (steps : qs ≡ q ∷ rest) (walk : IsWalk rule n budget b a t good bad qs)
    (grown : GrowsBy t u (nodes_after n v q)) where
  few-next : sum_by (nodes_after n b) rest ≤ most_nodes n b
  few-next = let split = nodes-step n b v q qs rest same steps in let low = walk.few in omega (arith, low, split)

  grows-next : GrowsBy a u (most_nodes n b - sum_by (nodes_after n b) rest)
  grows-next =
      let split = nodes-step n b v q qs rest same steps in
      let low = walk.few in
      grows-then a t u _ _ _ walk.grows grown (omega (arith, low, split))

  pub walk-grown : GrowsBy a u (most_nodes n b)
  walk-grown = grows-more a u _ _ grows-next (omega arith)

  -- a call that fails as what judges the move does
  pub walk-fails : {A B : Type 0} (e : SearchError) (s : Result B SearchError) → Writes {A = A} t u (nodes_after n v q) (Err e) → s ≡ Err e
      → Writes a u (most_nodes n b) s
  walk-fails {A} {B} e s failed is =
      let split = nodes-step n b v q qs rest same steps in
      let low = walk.few in
      let before : Writes {A = ℕ} a t (most_nodes n b - sum_by (nodes_after n b) qs) (Ok 0) =
      record { grows = walk.grows; compiled = walk.compiled; full = λ h. cc; full_now = λ h. cc } in
      writes-then-fails {A = ℕ} {B = A} {C = B} a t u _ _ _ 0 e s before failed (omega (arith, low, split)) is

  found-next : AreFound rule n budget b u good bad (q ∷ rest)
  found-next =
      found-grown rule n budget b t u _ (compiled-lower t walk.compiled) grown good bad (q ∷ rest)
      (rw steps at walk.found)

  module _ (x : Verdict) (verdict : IsVerdict rule n budget v u q x) where
    pub walk-spent : x ≡ Spent → Some q ≡ first_spent rule n budget b
    walk-spent is = search (rules, found-next)

-- the move is added where it belongs
pub walk-added : (rule : RuleKind) (n budget : ℕ) (b v : Grid) (same : v ≡ b) (a t u : List Node) (old new : Found) (q : Point)
    (qs rest : List Point) → qs ≡ q ∷ rest → IsWalk rule n budget b a t old.good old.bad qs → GrowsBy t u (nodes_after n v q)
    → IsCompiled u → (x : Verdict) → (x ≡ Spent → ⊥) → IsVerdict rule n budget v u q x → IsAdded old new q x
    → IsWalk rule n budget b a u new.good new.bad rest
walk-added rule n budget b v same a t u old new q qs rest steps walk grown compiled x not_spent verdict added =
    record { compiled = compiled; found = by_verdict x not_spent at added; few = few-there; grows = grows-there } where
      few-there : sum_by (nodes_after n b) rest ≤ most_nodes n b
      few-there = few-next rule n budget b v same a t u old.good old.bad q qs rest steps walk grown

      grows-there : GrowsBy a u (most_nodes n b - sum_by (nodes_after n b) rest)
      grows-there = grows-next rule n budget b v same a t u old.good old.bad q qs rest steps walk grown

      found-there : AreFound rule n budget b u old.good old.bad (q ∷ rest)
      found-there = found-next rule n budget b v same a t u old.good old.bad q qs rest steps walk grown

      at : IsVerdict rule n budget b u q x
      at = subst (λ (d : Grid). IsVerdict rule n budget d u q x) same verdict

      by_verdict : (w : Verdict) → (w ≡ Spent → ⊥) → IsVerdict rule n budget b u q w → IsAdded old new q w
          → AreFound rule n budget b u new.good new.bad rest
      by_verdict NoReply other h is =
          subst (λ (f : Found). AreFound rule n budget b u f.good f.bad rest) (sym is)
          (found-none rule n budget b u old.good old.bad q rest found-there h)
      by_verdict Holds other h is =
          subst (λ (rs : List Reply). AreFound rule n budget b u new.good rs rest) (sym is.1)
          (found-good rule n budget b u old.good old.bad q rest found-there new.good is.0 h)
      by_verdict (Beaten i) other h is =
          subst (λ (ps : List Point). AreFound rule n budget b u ps new.bad rest) (sym is.0)
          (found-bad rule n budget b u old.good old.bad q rest found-there new.bad i is.1 h.0 h.1 h.2)
      by_verdict Spent other h is = absurd (other refl)

-- after the last move
pub walk-all : (rule : RuleKind) (n budget : ℕ) (b : Grid) (a t : List Node) (good : List Point) (bad : List Reply) (left : List Point)
    → left ≡ [] → IsWalk rule n budget b a t good bad left → AreFound rule n budget b t good bad []
walk-all rule n budget b a t good bad left done walk = search rules

-- what all points came to is told so
pub all-told : (rule : RuleKind) (n budget : ℕ) (b : Grid) (t : List Node) (good : List Point) (bad : List Reply)
    → AreFound rule n budget b t good bad [] → IsToldAt rule n budget b t (Known good bad)
all-told rule n budget b t good bad h = search (rules, append-nil)

-- ---- what is told, clause by clause

module _ (rule : RuleKind) (n budget : ℕ) (b : Grid) (t : List Node) {E : Type 0} where
  pub told-good : (r : Result DefenceAnswer E) → IfOk r (IsToldAt rule n budget b t)
      → IfOk r (λ x. OnKnown x (λ good bad. good ≡ defences_of rule n b))
  told-good r h = search rules

  pub told-bad : (r : Result DefenceAnswer E) → IfOk r (IsToldAt rule n budget b t)
      → IfOk r (λ x. OnKnown x (λ good bad. AreBeaten rule n b t bad))
  told-bad r h = search rules

  pub told-spent : (r : Result DefenceAnswer E) → IfOk r (IsToldAt rule n budget b t)
      → IfOk r (λ x. spent_at x ≡ first_spent rule n budget b)
  told-spent r h = search rules
