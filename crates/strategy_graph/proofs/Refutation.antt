-- A line that leads to a fault refutes acceptance.
use Rattle.std.proofs.Common.{◌≡◌, ℕ, zero, suc, List, [], ◌∷◌, Option, Some, slice_get, false, rules, IsSomeAnd}
use Rattle.strategy_graph.proofs.Common.{Grid, outcome, after, WinsOr, LosesOr, RuleKind, Outcome, GoesOn, Point, Rest, Node, Why, Answers}
use Rattle.strategy_graph.proofs.Common.{answers_of, answer, AcceptedNode, AcceptedWithin, Accepted, is_winning, AcceptedStart}
use Rattle.strategy_graph.proofs.Common.{attack_fault, reply_fault, AtNode, ReplyLeads, Leads, LeadsStart}

-- an attack with a fault neither wins nor goes on from a node that is no winning one
attack_refutes : (o : Outcome) (rest : Rest) (why : Why) (W : Type 0) → attack_fault o rest ≡ Some why
    → WinsOr o ((is_winning rest ≡ false) × W) → ⊥
attack_refutes o rest why W e h = search rules

-- a reply with a fault is not met
fault_refutes : (o : Outcome) (a : Option ℕ) (why : Why) (P : ℕ → Type 0) → reply_fault o a ≡ Some why → LosesOr o (IsSomeAnd a P) → ⊥
fault_refutes o a why P e h = search rules

both_answered : (a : Option ℕ) (P Q : ℕ → Type 0) → ((j : ℕ) → P j → Q j → ⊥) → IsSomeAnd a P → IsSomeAnd a Q → ⊥
both_answered a P Q f h k = search rules

-- a reply that leads to a fault is not met
reply_refutes : (o : Outcome) (a : Option ℕ) (line : List Point) (Next P : ℕ → Type 0) (why : Why) → ((j : ℕ) → Next j → P j → ⊥)
    → ReplyLeads o a line Next why → LosesOr o (IsSomeAnd a P) → ⊥
reply_refutes o a line Next P why f h k = search (rules, fault_refutes, both_answered)

last_refutes : (rule : RuleKind) (o : Option Node) (Next : ℕ → Grid → Type 0) (b : Grid) (p : Point) (why : Why)
    → AtNode o (λ n. (p ≡ n.attack) × (attack_fault (outcome rule b p) n.rest ≡ Some why)) → AcceptedNode rule o Next b → ⊥
last_refutes rule o Next b p why h k = search (rules, attack_refutes)

step_refutes : (rule : RuleKind) (o : Option Node) (Next Bad : ℕ → Grid → Type 0) (b : Grid) (p q : Point) (line : List Point) (why : Why)
    → ((j : ℕ) (c : Grid) → Bad j c → Next j c → ⊥)
    → AtNode o (λ n. (p ≡ n.attack) × (outcome rule b p ≡ GoesOn) × (is_winning n.rest ≡ false)
    × ReplyLeads (outcome rule (after b p) q) (answer (answers_of n) q) line (λ j. Bad j (after (after b p) q)) why)
    → AcceptedNode rule o Next b → ⊥
step_refutes rule o Next Bad b p q line why f h k = search (rules, reply_refutes)

within_refutes : (rule : RuleKind) (t : List Node) (f i : ℕ) (b : Grid) (line : List Point) (why : Why) → Leads rule t i b line why
    → AcceptedWithin f rule t i b → ⊥
unfolding AcceptedWithin Leads
within_refutes rule t zero i b line why h k = k
within_refutes rule t (suc f) i b [] why h k = h
within_refutes rule t (suc f) i b (p ∷ []) why h k = last_refutes rule (slice_get t i) (AcceptedWithin f rule t) b p why h k
within_refutes rule t (suc f) i b (p ∷ q ∷ line) why h k = step_refutes rule (slice_get t i)
    (AcceptedWithin f rule t) (λ j c. Leads rule t j c line why) b p q line why (λ j c. within_refutes rule t f j c line why) h k

-- a node from which a line leads to a fault is not accepted
pub leads-refutes : (rule : RuleKind) (t : List Node) (i : ℕ) (b : Grid) (line : List Point) (why : Why) → Leads rule t i b line why
    → Accepted rule t i b → ⊥
leads-refutes rule t i b line why h k = within_refutes rule t (suc i) i b line why h k

-- a start from which a line leads to a fault is not accepted
pub leads-refutes-start : (rule : RuleKind) (t : List Node) (a : Answers) (b : Grid) (line : List Point) (why : Why)
    → LeadsStart rule t a b line why → AcceptedStart rule t a b → ⊥
leads-refutes-start rule t a b line why h k = search (rules, reply_refutes, leads-refutes)
