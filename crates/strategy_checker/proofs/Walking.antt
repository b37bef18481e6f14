-- A move played and taken back, arrivals that are taken, and faults.
use Rattle.std.proofs.Common.{rules, ◌≡◌, ℕ, ◌≤◌, false, drop, List, [], ◌∷◌, arith, Some, slice_get, Result, Ok, Err}
use Rattle.strategy_checker.proofs.Common.{Grid, is_empty, IsPosition, outcome, after, RuleKind, Outcome, GoesOn, Point, Node, Why, Answers}
use Rattle.strategy_checker.proofs.Common.{answers_of, is_winning, arrivals, attack_fault, Leads, LeadsStart, Stop, Fault, Walk, IsNoted}
use Rattle.strategy_checker.proofs.Common.{IsReady, IsTrueMemo, Takes, Walked, WalkedNode, WalkedReply}
use Rattle.game_rules.proofs.Points.{taken_refused}
use Rattle.game_rules.proofs.Positions.{IsPosition-after}
use Rattle.strategy_graph.proofs.Steps.{arrivals-stops, leads-attack, leads-reply, met-no_move}

-- ---- a move that goes on, played and taken back

module _ (rule : RuleKind) (b : Grid) (p : Point) (lawful : IsPosition rule b) (on : outcome rule b p ≡ GoesOn) where
  pub played-lawful : (c : Grid) → c ≡ after b p → IsPosition rule c
  played-lawful c there = rw there (IsPosition-after rule b p lawful on)

-- ---- stops

-- a fault of the move p itself
pub fault-stops : (rule : RuleKind) (t : List Node) (A : Type 0) (n : ℕ) (L : List Point → Why → Type 0) (p : Point) (why : Why)
    (old new : Walk) (stop : Stop)
    → old.line ≡ [] → L (p ∷ []) why → IsNoted p old.line new.line (Fault why) stop → Walked rule t A n L old new (Err stop)
fault-stops rule t A n L p why old new stop none here noted = search rules

-- ---- steps

-- arrivals that are taken
pub taken : (rule : RuleKind) (t : List Node) (A : Type 0) (n : ℕ) (L : List Point → Why → Type 0) (old new : Walk)
    (r : Result (Unit {0}) Stop) → old.line ≡ [] → IsTrueMemo rule t old.memo → A → Takes n old new r → Walked rule t A n L old new r
taken rule t A n L old new r none memo a takes = search rules

-- a walk that has taken arrivals may step on
pub taken-ready : (rule : RuleKind) (t : List Node) (b : Grid) (n : ℕ) (old new : Walk) → IsReady rule t b old → Takes n old new (Ok tt)
    → IsReady rule t b new
taken-ready rule t b n old new ready takes = search rules

-- a stop where arrivals were to be taken
pub taken-short : (rule : RuleKind) (t : List Node) (A : Type 0) (k n : ℕ) (L : List Point → Why → Type 0) (old new : Walk) (stop : Stop)
    → k ≤ n → Takes k old new (Err stop) → Walked rule t A n L old new (Err stop)
taken-short rule t A k n L old new stop least takes = let short = takes.1 in rw takes.0 (omega (arith, short, least))

-- ---- faults

-- a fault of the attack
pub attack-stops : (rule : RuleKind) (t : List Node) (i : ℕ) (b : Grid) (n : Node) (why : Why) (u : Outcome) (old new : Walk) (stop : Stop)
    → slice_get t i ≡ Some n → u ≡ outcome rule b n.attack → attack_fault u n.rest ≡ Some why
    → old.line ≡ [] → IsNoted n.attack old.line new.line (Fault why) stop → WalkedNode rule t i b old new (Err stop)
attack-stops rule t i b n why u old new stop at o h none noted = search (rules, fault-stops, leads-attack)

-- an attack that goes on, and a line from one of the replies to it
pub attack-then-leads : (rule : RuleKind) (t : List Node) (i : ℕ) (b : Grid) (n : Node) (line : List Point) (why : Why)
    → slice_get t i ≡ Some n → outcome rule b n.attack ≡ GoesOn → is_winning n.rest ≡ false
    → LeadsStart rule t (answers_of n) (after b n.attack) line why → Leads rule t i b (n.attack ∷ line) why
attack-then-leads rule t i b n line why at on more h = search (rules, leads-reply)

-- a reply that is no move is met, with no arrivals
pub refused-reply : (rule : RuleKind) (t : List Node) (a : Answers) (b : Grid) (q : Point) (now : Walk) → IsReady rule t b now
    → is_empty b q ≡ false → WalkedReply rule t a b q now now (Ok tt)
refused-reply rule t a b q now ready taken = search (rules, arrivals-stops, taken_refused, met-no_move)

-- ---- the items of a list from one on

pub drop-none : {X : Type 0} (xs : List X) → drop 0 xs ≡ xs
drop-none xs = search rules
