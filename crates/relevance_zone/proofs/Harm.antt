-- What has a zone is accepted: by induction on the nodes that follow one another, at each position with further stones of the
-- defender that the zone bears. The attack of the answer in turn is a point of its zone, so it is empty there, and no move before it
-- fills the board.
use Rattle.std.proofs.Common.{◌≡◌, inl, inr, ℕ, zero, suc, true, false, List, Option, Some, None, slice_get, nat_eq, refl, sym, ap, subst}
use Rattle.std.proofs.Common.{◌∙◌, arith, IsSomeAnd, rules}
use Rattle.std.specs.Option.{option_or}
use Rattle.std.proofs.lemmas.Bool.{cases_Bool}
use Rattle.std.proofs.lemmas.Bool.Decides.{nat_tests}
use Rattle.relevance_zone.proofs.Common.{Grid, IsBoard, is_empty, put, other, RuleKind, Side, Point, Zone, Bears, Withstands, NodeHasZone}
use Rattle.relevance_zone.proofs.Common.{HasZoneWithin, HasZone, AcceptedRootByZone}
use Rattle.game_rules.proofs.Common.{IsPosition, empties_of, five, outcome, has_fouls, mover, after, WinsOr, LosesOr}
use Rattle.game_rules.specs.declared.Outcome.{Outcome}
use Rattle.game_rules.specs.declared.Outcome.TheVariants.{Refused, Wins as WinsNow, Fouls, GoesOn}
use Rattle.game_rules.proofs.Boards.{empties_of-put, other-other}
use Rattle.game_rules.proofs.Outcomes.{five-outcome, quiet_move, no_foul}
use Rattle.game_rules.proofs.Points.{taken_refused}
use Rattle.game_rules.proofs.Positions.{IsBoard-put, IsPosition-after, mover-then}
use Rattle.strategy_graph.specs.declared.Node.{Node}
use Rattle.strategy_graph.specs.declared.roots.Root.{Root}
use Rattle.strategy_graph.specs.declared.roots.Root.TheVariants.{Attack, Defend}
use Rattle.strategy_graph.proofs.Common.{Answers, answers_of, answer, rest_node, is_winning, Meets, AcceptedNode, AcceptedWithin, Accepted}
use Rattle.strategy_graph.proofs.Common.{AcceptedRoot, RootWins, root_depth}
use Rattle.strategy_graph.proofs.Soundness.{accepted-wins, accepted-start-wins}
use Rattle.relevance_zone.proofs.Bearing.{bears_itself, was_empty, five_same, bears_attack, bears_reply, bears_harmless, no_five}

-- two points that are empty one after the other are not the last
not_last : (b : Grid) (s : Side) (p q : Point) → IsBoard b → is_empty b p ≡ true → is_empty (put b s p) q ≡ true
    → nat_eq (empties_of b) 1 ≡ false
not_last b s p q ok first second =
    let one = empties_of-put b s p ok first in
    let two = empties_of-put (put b s p) s q (IsBoard-put b s p ok) second in
    grind (arith, nat_tests)

-- a move to an empty point goes on where it makes no five and no foul, and is not the last
goes_on_by : (rule : RuleKind) (b : Grid) (p : Point) → has_fouls rule (mover b) ≡ false → is_empty b p ≡ true
    → five rule b (mover b) p ≡ false → nat_eq (empties_of b) 1 ≡ false → outcome rule b p ≡ GoesOn
unfolding outcome
goes_on_by rule b p calm empty quiet more = search (rules, no_foul)

module _ (rule : RuleKind) (s : Side) (Has : ℕ → Grid → Zone → Type 0) (Next : ℕ → Grid → Type 0)
    (held : (j : ℕ) (b c : Grid) (z : Zone) → Has j b z → Bears s z b c → IsPosition rule c → mover c ≡ s → Next j c)
    (attack : (j : ℕ) (b : Grid) (z : Zone) → Has j b z → (w : Point) × (z.points w ≡ true) × (is_empty b w ≡ true)) where
  -- the answer to a reply is one that has a zone which bears what stands after it
  record Answered (a : Answers) (c : Grid) (q : Point) : Type 0 where
    node : ℕ
    given : answer a q ≡ Some node
    before : Grid
    zone : Zone
    has : Has node before zone
    bears : Bears s zone before (put c (other s) q)

  module _ (a : Answers) (b c : Grid) (z : Zone) (w : Withstands s a Has b z) (bears : Bears s z b c) (lawful : IsPosition rule c)
      (turn : mover c ≡ other s) where
    answered : (q : Point) → is_empty c q ≡ true → Answered a c q
    answered q empty = elim (w.replies q (was_empty s z b c bears q empty)) [
      | inl h ↦ record {
        node = w.rest;
        given = ap (λ (o : Option ℕ). option_or o (rest_node a.rest)) h.0 ∙ ap rest_node w.named;
        before = b;
        zone = w.zone;
        has = w.passed;
        bears = bears_harmless s z b c bears q empty w.zone w.covered h.1;
      }
      | inr h ↦ record {
        node = h.0;
        given = h.2;
        before = put b (other s) q;
        zone = h.1;
        has = h.3;
        bears = bears_reply s z b c bears q empty h.1 h.4;
      }
    ]

    -- each reply is met
    pub replies_met : (q : Point) → Meets rule a Next c q
    replies_met q = elim (cases_Bool (is_empty c q)) [
      | inl empty ↦ by_answer empty (answered q empty)
      | inr taken ↦ met Refused (answer a q) (taken_refused rule c q taken) refl tt
    ] where
      met : (u : Outcome) (o : Option ℕ) → outcome rule c q ≡ u → answer a q ≡ o → LosesOr u (IsSomeAnd o (λ j. Next j (after c q)))
          → Meets rule a Next c q
      met u o e g h = rw (e, g) h

      by_answer : is_empty c q ≡ true → Answered a c q → Meets rule a Next c q
      by_answer empty h =
          let later = attack h.node h.before h.zone h.has in
          let more = not_last c (other s) q later.0 lawful.board empty (h.bears.points later.0 later.1 later.2) in
          let quiet : five rule c (mover c) q ≡ false = ap (λ (t : Side). five rule c t q) turn ∙ no_five s z b c bears rule w.short q in
          elim (quiet_move rule c q empty quiet more) [
            | inl on ↦
                let next : Next h.node (after c q) =
                held h.node h.before (after c q) h.zone h.has (subst (λ (t : Side). Bears s h.zone h.before (put c t q)) (sym turn) h.bears)
                (IsPosition-after rule c q lawful on) (mover-then rule c q lawful on ∙ ap other turn ∙ other-other s) in
                met GoesOn (Some h.node) on h.given next
            | inr foul ↦ met (Fouls foul.0) (answer a q) foul.1 refl tt
          ]

  module _ (calm : has_fouls rule s ≡ false) (n : Node) (b c : Grid) (z : Zone) (bears : Bears s z b c) (lawful : IsPosition rule c)
      (turn : mover c ≡ s) (inside : z.points n.attack ≡ true) (free : is_empty b n.attack ≡ true) where
    empty : is_empty c n.attack ≡ true
    empty = bears.points n.attack inside free

    by_outcome : (u : Outcome) → outcome rule c n.attack ≡ u
        → WinsOr u ((is_winning n.rest ≡ false) × ((q : Point) → Meets rule (answers_of n) Next (after c n.attack) q))
        → AcceptedNode rule (Some n) Next c
    by_outcome u e h = search rules

    by_five : five rule c s n.attack ≡ true → AcceptedNode rule (Some n) Next c
    by_five wins = by_outcome WinsNow (five-outcome rule c n.attack (ap (λ (t : Side). five rule c t n.attack) turn ∙ wins)) tt

    by_replies : Withstands s (answers_of n) Has (put b s n.attack) z → five rule c s n.attack ≡ false → AcceptedNode rule (Some n) Next c
    by_replies w quiet =
        let then : Bears s z (put b s n.attack) (put c s n.attack) = bears_attack s z b c bears n.attack free empty in
        let later = attack w.rest (put b s n.attack) w.zone w.passed in
        let more = not_last c s n.attack later.0 lawful.board empty (then.points later.0 (w.covered.points later.0 later.1) later.2) in
        let on : outcome rule c n.attack ≡ GoesOn =
        goes_on_by rule c n.attack (ap (has_fouls rule) turn ∙ calm) empty (ap (λ (t : Side). five rule c t n.attack) turn ∙ quiet) more in
        let same : Bears s z (put b s n.attack) (after c n.attack) =
        subst (λ (t : Side). Bears s z (put b s n.attack) (put c t n.attack)) (sym turn) then in
        by_outcome GoesOn on (
          ap is_winning w.named,
          replies_met (answers_of n) (put b s n.attack) (after c n.attack) z w same
              (IsPosition-after rule c n.attack lawful on) (mover-then rule c n.attack lawful on ∙ ap other turn),
        )

  node_accepted : (o : Option Node) (b c : Grid) (z : Zone) → has_fouls rule s ≡ false → NodeHasZone rule s o Has b z → Bears s z b c
      → IsPosition rule c → mover c ≡ s → AcceptedNode rule o Next c
  node_accepted None b c z calm h bears lawful turn = absurd h
  node_accepted (Some n) b c z calm h bears lawful turn =
      let free : is_empty c n.attack ≡ true = bears.points n.attack h.0 h.1 in
      elim h.2 [
        | inl wins ↦ by_five calm n b c z bears lawful turn h.0 h.1 (five_same s z b c bears rule n.attack h.1 free ∙ wins)
        | inr w ↦ elim (cases_Bool (five rule c s n.attack)) [
          | inl wins ↦ by_five calm n b c z bears lawful turn h.0 h.1 wins
          | inr quiet ↦ by_replies calm n b c z bears lawful turn h.0 h.1 w quiet
        ]
      ]

module _ (rule : RuleKind) (t : List Node) (s : Side) where
  -- the attack of a node is an empty point of its zone
  attack_in : (f j : ℕ) (b : Grid) (z : Zone) → HasZoneWithin f rule t s j b z → (w : Point) × (z.points w ≡ true) × (is_empty b w ≡ true)
  unfolding HasZoneWithin
  attack_in zero j b z h = absurd h
  attack_in (suc f) j b z h = by_node (slice_get t j) h where
    by_node : (o : Option Node) → NodeHasZone rule s o (HasZoneWithin f rule t s) b z
        → (w : Point) × (z.points w ≡ true) × (is_empty b w ≡ true)
    by_node None h = absurd h
    by_node (Some n) h = (n.attack, h.0, h.1)

  within : has_fouls rule s ≡ false → (f i : ℕ) (b c : Grid) (z : Zone) → HasZoneWithin f rule t s i b z → Bears s z b c
      → IsPosition rule c → mover c ≡ s → AcceptedWithin f rule t i c
  unfolding HasZoneWithin AcceptedWithin
  within calm zero i b c z h bears lawful turn = absurd h
  within calm (suc f) i b c z h bears lawful turn = node_accepted rule s
      (HasZoneWithin f rule t s) (AcceptedWithin f rule t) (within calm f) (attack_in f) (slice_get t i) b c z calm h bears lawful turn

-- ---- the laws

pub zones-bear : (rule : RuleKind) (t : List Node) (s : Side) (i : ℕ) (b c : Grid) (z : Zone) → has_fouls rule s ≡ false
    → HasZone rule t s i b z → Bears s z b c → IsPosition rule c → mover c ≡ s → Accepted rule t i c
zones-bear rule t s i b c z calm h bears lawful turn = within rule t s calm (suc i) i b c z h bears lawful turn

pub zones-accept : (rule : RuleKind) (t : List Node) (r : Root) (b : Grid) → IsPosition rule b → AcceptedRootByZone rule t r b
    → AcceptedRoot rule t r b
zones-accept rule t (Attack i) b lawful h =
    zones-bear rule t (mover b) i b b h.1.0 h.0 h.1.1 (bears_itself (mover b) h.1.0 b lawful.board) lawful refl
zones-accept rule t (Defend a) b lawful h =
    let s : Side = other (mover b) in
    replies_met rule s (HasZone rule t s) (Accepted rule t)
    (λ j b c z has bears pos turn. within rule t s h.0 (suc j) j b c z has bears pos turn)
    (λ j b z has. attack_in rule t s (suc j) j b z has)
    a b b h.1.0 h.1.1 (bears_itself s h.1.0 b lawful.board) lawful (sym (other-other (mover b)))

pub zones-win : (rule : RuleKind) (t : List Node) (r : Root) (b : Grid) → IsPosition rule b → AcceptedRootByZone rule t r b
    → RootWins rule r (root_depth t r) b
zones-win rule t (Attack i) b lawful h = accepted-wins rule t i b (zones-accept rule t (Attack i) b lawful h)
zones-win rule t (Defend a) b lawful h = accepted-start-wins rule t a b (zones-accept rule t (Defend a) b lawful h)
