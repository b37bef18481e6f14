-- An open node: what is left of its replies, and what comes of it. And the nodes that wait for one another.
use Rattle.std.proofs.Common.{◌≡◌, ℕ, ◌+◌, ◌<◌, List, [], ◌∷◌, ◌++◌, reverse, refl, sym, ap, ◌∙◌, arith, false, Option, Some, None, Result}
use Rattle.std.proofs.Common.{Ok, Err, slice_get, inl, inr, rules}
use Rattle.std.proofs.lemmas.List.{reverse-append}
use Rattle.std.proofs.lemmas.List.Elements.{All-cons}
use Rattle.strategy_checker.proofs.Common.{Grid, lift, IsPosition, after, outcome, Point, RuleKind, Outcome, GoesOn, Node, Why, Answers}
use Rattle.strategy_checker.proofs.Common.{answer, answers_of, is_winning, Accepted, AcceptedStart, Meets, arrivals, arrivals_after}
use Rattle.strategy_checker.proofs.Common.{arrivals_at, LeadsStart, attack_fault, Stop, Fault, Spent, Memory, Stage, Walk, IsNoted}
use Rattle.strategy_checker.proofs.Common.{IsOutlook, IsReady, Stopped, AreMet, Entered, Handed, IsStage, Owes, Settled, Stops, Under}
use Rattle.strategy_checker.proofs.Common.{Waits, WentOn, all_to_ask, left_at, owed}
use Rattle.strategy_graph.proofs.Common.{IsTable}
use Rattle.strategy_graph.proofs.Filling.{IsTable-lower}
use Rattle.strategy_graph.proofs.Steps.{accepted-by-replies, arrivals-by-replies, arrivals-answer, met-all, met-answer, leads-answer}
use Rattle.game_rules.proofs.Undo.{lift_back}
use Rattle.strategy_checker.specs.declared.meeting.Meeting.{Meeting}
use Rattle.strategy_checker.proofs.Owing.{owed-cons}
use Rattle.strategy_checker.proofs.Walking.{attack-stops, attack-then-leads}

-- a fault of the attack of a node that is entered
pub entered-stops : (rule : RuleKind) (t : List Node) (i : ℕ) (b : Grid) {n : Node} {why : Why} {u : Outcome} {start : ℕ} (mid new : Walk)
    (stop : Stop) → mid.left ≡ start → slice_get t i ≡ Some n → u ≡ outcome rule b n.attack → attack_fault u n.rest ≡ Some why
    → mid.line ≡ [] → IsNoted n.attack mid.line new.line (Fault why) stop → Stops rule t i b start new stop
entered-stops rule t i b mid new stop left at o h none noted = rw (← left) (attack-stops rule t i b _ _ _ mid new stop at o h none noted)

stopped-more : (L : Why → Type 0) (P Q : Type 0) → (P → Q) → (stop : Stop) → Stopped L P stop → Stopped L Q stop
stopped-more L P Q f stop h = search rules

-- a stop behind the reply q, with the reply noted
pub reply-stops : (rule : RuleKind) (t : List Node) (a : Answers) (b : Grid) (q : Point) (i start : ℕ)
    → outcome rule b q ≡ GoesOn → answer a q ≡ Some i → (late new : Walk) (stop last : Stop) → Stops rule t i (after b q) start late stop
    → IsNoted q late.line new.line stop last
    → Stopped (λ why. LeadsStart rule t a b (reverse new.line) why) (start < arrivals_at rule a (arrivals rule t) b q) last
reply-stops rule t a b q i start on answered late new stop last h noted = search (rules, reverse-append, leads-answer, arrivals-answer)

-- what the replies to the attack of a node say of the node
module _ (rule : RuleKind) (t : List Node) (i : ℕ) (b c : Grid) (n : Node) (table : IsTable t) (at : slice_get t i ≡ Some n)
    (lawful : IsPosition rule b) (on : outcome rule b n.attack ≡ GoesOn) (more : is_winning n.rest ≡ false) (there : c ≡ after b n.attack)
  where
    node-accepted : AcceptedStart rule t (answers_of n) c → Accepted rule t i b
    node-accepted met = accepted-by-replies rule t (IsTable-lower t table) i b n at on more (rw there at met)

    node-arrivals : arrivals rule t i b ≡ 1 + arrivals_after rule (answers_of n) (arrivals rule t) c
    node-arrivals = rw there (omega (arith, arrivals-by-replies rule t (IsTable-lower t table) i b n at on more))

    pub stage-lift : lift c n.attack ≡ b
    stage-lift = lift_back rule b c n.attack lawful on there

    -- the node is open once its attack is played
    pub stage-first : (start left : ℕ) (m : Meeting) → start ≡ left + 1 → m.course ≡ None → IsOutlook rule t c m.outlook
        → IsStage rule t n c (record { node = i; before = start; meeting = m }) (all_to_ask c n.replies m.course) left
    stage-first start left m took none outlook = record {
      at = at;
      lawful = rw stage-lift lawful;
      on = rw stage-lift on;
      back = ap (λ (w : Grid). after w n.attack) stage-lift ∙ sym there;
      more = more;
      outlook = outlook;
      counted = rw (stage-lift, none) (omega (arith, node-arrivals, took));
      met = λ met. rw stage-lift (node-accepted (met-all rule t (answers_of n) c (rw none at met)));
    }

module _ {rule : RuleKind} {t : List Node} {n : Node} {c : Grid} {o : Stage} where
  -- some of its replies are asked
  pub stage-on : {ps qs : List Point} {left : ℕ} (m : Meeting) {now : Walk} → IsStage rule t n c o ps left → IsOutlook rule t c m.outlook
      → Owes rule t (answers_of n) c (AreMet rule t (answers_of n) c ps) (owed rule t (answers_of n) c ps) qs left now
      → IsStage rule t n c (record o { meeting = m }) qs now.left
  stage-on m is outlook owes = record {
    at = is.at;
    lawful = is.lawful;
    on = is.on;
    back = is.back;
    more = is.more;
    outlook = outlook;
    counted = omega (arith, is.counted, owes.counted);
    met = λ later. is.met (owes.met later);
  }

  -- a stop among its replies, with its attack noted
  pub stage-stops : {qs : List Point} {mid : ℕ} (late new : Walk) (stop last : Stop) → IsStage rule t n c o qs mid
      → Stopped (λ why. LeadsStart rule t (answers_of n) c (reverse late.line) why) (mid < owed rule t (answers_of n) c qs) stop
      → IsNoted n.attack late.line new.line stop last → Stops rule t o.node (lift c n.attack) o.before new last
  stage-stops late new (Fault why) (Fault w) is h noted = rw (noted.1, reverse-append late.line (n.attack ∷ []), noted.0)
      (attack-then-leads rule t o.node (lift c n.attack) n (reverse late.line) why is.at is.on is.more (rw is.back h))
  stage-stops late new (Fault why) Spent is h noted = absurd noted
  stage-stops late new (Fault why) Memory is h noted = tt
  stage-stops late new Spent last is h noted = rw noted (omega (arith, is.counted, h))
  stage-stops late new Memory last is h noted = rw noted tt

  module _ {i start : ℕ} (waits : Waits rule t n c o i start) where
    -- the node that it waits for is settled
    pub waits-settled : {now : Walk} → Settled rule t i (after c o.meeting.reply) start now → IsStage rule t n c o (left_at n c o) now.left
    waits-settled settled = record {
      at = waits.stage.at;
      lawful = waits.stage.lawful;
      on = waits.stage.on;
      back = waits.stage.back;
      more = waits.stage.more;
      outlook = waits.stage.outlook;
      counted = omega (
        arith,
        waits.stage.counted,
        owed-cons rule t (answers_of n) c o.meeting.reply (left_at n c o),
        settled.counted,
        arrivals-answer rule t (answers_of n) c o.meeting.reply i waits.on waits.answered,
      );
      met = λ later. waits.stage.met (All-cons (Meets rule (answers_of n) (Accepted rule t) c) o.meeting.reply (left_at n c o)
          (met-answer rule t (answers_of n) c o.meeting.reply i waits.on waits.answered settled.accepted) later);
    }

    -- the walk has stopped there, and the reply is noted
    pub waits-stops : (late new : Walk) (stop last : Stop) → Stops rule t i (after c o.meeting.reply) start late stop
        → IsNoted o.meeting.reply late.line new.line stop last → Stopped (λ why. LeadsStart rule t (answers_of n) c (reverse new.line) why)
        (start < owed rule t (answers_of n) c (o.meeting.reply ∷ left_at n c o)) last
    waits-stops late new stop last h noted =
        let more = owed-cons rule t (answers_of n) c o.meeting.reply (left_at n c o) in
        stopped-more (λ why. LeadsStart rule t (answers_of n) c (reverse new.line) why) _ _ (λ short. omega (arith, short, more)) last
        (reply-stops rule t (answers_of n) c o.meeting.reply i start waits.on waits.answered late new stop last h noted)

-- an open node whose meeting moved on, and then went on, went on
pub went-on-same : (rule : RuleKind) (t : List Node) (n : Node) (c : Grid) (o : Stage) (m : Meeting) (olds news : List Stage) (now : Walk)
    (d : Grid) (r : Result (Option Stage) Stop) → WentOn rule t n c (record o { meeting = m }) olds news now d r
    → WentOn rule t n c o olds news now d r
went-on-same rule t n c o m olds news now d r h = grind arith

-- ---- the nodes that wait

module _ {rule : RuleKind} {t : List Node} {root : ℕ} {first : Grid} {all : ℕ} where
  -- the first node is entered
  pub handed-first : {now : Walk} {c : Grid} {r : Result (Option Stage) Stop} → Entered rule t root first all now c r
      → Handed rule t root first all [] now c r
  handed-first entered = record { i = root; b = first; start = all; under = (refl, refl, refl); entered = entered }

  -- an open node went on
  pub handed-on : (n : Node) (c : Grid) (o : Stage) (olds : List Stage) {news : List Stage} {now : Walk} {d : Grid}
      {r : Result (Option Stage) Stop} → Under rule t root first all (reverse olds) o.node (lift c n.attack) o.before
      → WentOn rule t n c o olds news now d r → Handed rule t root first all (reverse news) now d r
  handed-on n c o olds under (inl same) =
      record { i = o.node; b = lift c n.attack; start = o.before; under = rw same.0 under; entered = same.1 }
  handed-on n c o olds {news = news} under (inr down) =
      let last : reverse news ≡ down.top ∷ reverse olds = ap reverse down.waiting ∙ reverse-append olds (down.top ∷ []) in
      record {
        i = down.next;
        b = after c down.top.meeting.reply;
        start = down.start;
        under = rw last (n, (c, (down.waits, refl, rw (down.same_node, down.same_before) under)));
        entered = down.entered;
      }

  module _ {now : Walk} {c : Grid} {o : Stage} {r : Result (Option Stage) Stop} where
    -- the node that was entered is open
    pub handed-open : {os : List Stage} {e : Option Stage} → r ≡ Ok e → e ≡ Some o → Handed rule t root first all os now c r
        → (n : Node) × IsStage rule t n c o (left_at n c o) now.left × IsReady rule t c now
        × Under rule t root first all os o.node (lift c n.attack) o.before
    handed-open is some was = search rules

    -- the node that was entered is settled, and the last one that waits is open again once its reply is taken back
    pub handed-settled : {old : List Stage} {e : Option Stage} (os : List Stage) → old ≡ os ++ o ∷ [] → r ≡ Ok e → e ≡ None
        → Handed rule t root first all (reverse old) now c r → (n : Node) × (b : Grid) × IsStage rule t n b o (left_at n b o) now.left
        × IsReady rule t b now × Under rule t root first all (reverse os) o.node (lift b n.attack) o.before
        × (c ≡ after b o.meeting.reply) × (outcome rule b o.meeting.reply ≡ GoesOn) × (lift c o.meeting.reply ≡ b)
    handed-settled os took is none was =
        let handed = rw (took, reverse-append os (o ∷ []), is, none) at was in
        let n = handed.under.0 in
        let b = handed.under.1.0 in
        let waits = handed.under.1.1.0 in
        let there = handed.entered.1 ∙ handed.under.1.1.1 in
        let settled : Settled rule t handed.i (after b o.meeting.reply) handed.start now = rw handed.under.1.1.1 at handed.entered.0 in (
          n,
          b,
          waits-settled waits settled,
          record { lawful = waits.lawful; no_line = settled.ready.no_line; memo = settled.ready.memo },
          handed.under.1.1.2,
          there,
          waits.on,
          lift_back rule b c o.meeting.reply waits.lawful waits.on there,
        )

    -- the walk has stopped at the node that was entered, for which the last one waits
    pub handed-stopped : {old : List Stage} {stop : Stop} (os : List Stage)
        → old ≡ os ++ o ∷ [] → r ≡ Err stop → Handed rule t root first all (reverse old) now c r → (n : Node)
        × (b : Grid) × (i : ℕ) × (start : ℕ) × Waits rule t n b o i start × (c ≡ after b o.meeting.reply) × Stops rule t i c start now stop
        × Under rule t root first all (reverse os) o.node (lift b n.attack) o.before × (lift c o.meeting.reply ≡ b)
    handed-stopped os took is was =
        let handed = rw (took, reverse-append os (o ∷ []), is) at was in
        let waits = handed.under.1.1.0 in
        let there = handed.entered.1 ∙ handed.under.1.1.1 in (
          handed.under.0,
          handed.under.1.0,
          handed.i,
          handed.start,
          waits,
          there,
          rw handed.entered.1 handed.entered.0,
          handed.under.1.1.2,
          lift_back rule handed.under.1.0 c o.meeting.reply waits.lawful waits.on there,
        )
