-- One move on from an accepted node or start: its attack is a legal move, and the node that answers a reply is accepted where it
-- leads, and is no deeper.
use Rattle.std.proofs.Common.{◌≡◌, ℕ, zero, suc, ◌<◌, ◌≤◌, List, [], ◌∷◌, length, arith, true, Option, Some, IsSomeAnd, slice_get, rules}
use Rattle.std.proofs.Common.{option_map, option_and_then}
use Rattle.strategy_graph.proofs.Common.{Grid, is_empty, outcome, after, WinsOr, LosesOr, RuleKind, GoesOn, Point, Node, Answers}
use Rattle.strategy_graph.proofs.Common.{answers_of, answer, answer_at, IsTable, depth, start_depth, AcceptedNode, AcceptedWithin, Accepted}
use Rattle.game_rules.proofs.Games.{WinsOr-map}
use Rattle.game_rules.proofs.Outcomes.{empty_at}
use Rattle.strategy_graph.proofs.Answering.{answer-greatest}
use Rattle.strategy_graph.proofs.Fuel.{accepted-step}
use Rattle.strategy_graph.proofs.Filling.{IsTable-lower}

-- ---- at a node

inside : (t : List Node) (i : ℕ) (n : Node) → slice_get t i ≡ Some n → i < length t
inside [] i n h = cc
inside (m ∷ t) zero n h = omega arith
inside (m ∷ t) (suc i) n h = let low = inside t i n h in omega (arith, low)

-- a node that is accepted is there, and its attack wins or goes on
pub accepted-node : (rule : RuleKind) (t : List Node) (i : ℕ) (b : Grid) → Accepted rule t i b
    → (n : Node) × (slice_get t i ≡ Some n) × WinsOr (outcome rule b n.attack) (Unit {0})
unfolding AcceptedWithin
accepted-node rule t i b h = search (rules, WinsOr-map)

pub accepted-in_table : (rule : RuleKind) (t : List Node) (i : ℕ) (b : Grid) → Accepted rule t i b → i < length t
accepted-in_table rule t i b h = let there = accepted-node rule t i b h in inside t i there.0 there.1

-- where the attack goes on, each reply is no move, fouls, or goes on to a board where the answer to it is accepted
replies_by : (rule : RuleKind) (o : Option Node) (Next : ℕ → Grid → Type 0) (b : Grid) (p : Point) → option_map (λ n. n.attack) o ≡ Some p
    → AcceptedNode rule o Next b → outcome rule b p ≡ GoesOn → (q : Point) → LosesOr (outcome rule (after b p) q)
    (IsSomeAnd (option_and_then (λ n. answer (answers_of n) q) o) (λ j. Next j (after (after b p) q)))
replies_by rule o Next b p e h go q = search rules

pub accepted-replies : (rule : RuleKind) (t : List Node) → IsTable t → (i : ℕ) (b : Grid) (p : Point)
    → option_map (λ n. n.attack) (slice_get t i) ≡ Some p → Accepted rule t i b → outcome rule b p ≡ GoesOn
    → (q : Point) → LosesOr (outcome rule (after b p) q) (IsSomeAnd (answer_at t i q) (λ j. Accepted rule t j (after (after b p) q)))
accepted-replies rule t table i b p e h go q = search (rules, replies_by, accepted-step, IsTable-lower)

-- ---- depths

-- the node that answers a move at a start is no deeper than the start
pub answer-no_deeper : (t : List Node) (a : Answers) (q : Point) (j : ℕ) → answer a q ≡ Some j → depth t j ≤ start_depth t a
answer-no_deeper t a q j e = answer-greatest (depth t) a q j e

-- the attack of an accepted node is an empty point
pub attack_empty : (rule : RuleKind) (t : List Node) (i : ℕ) (b : Grid) (p : Point) → Accepted rule t i b
    → option_map (λ n. n.attack) (slice_get t i) ≡ Some p → is_empty b p ≡ true
attack_empty rule t i b p accepted e = search (rules, accepted-node, empty_at)
