-- Lines that lead to a fault of a table.
use Rattle.std.specs.Prelude.{◌≡◌, ℕ, if◌then◌else◌, List, [], ◌∷◌, Option, Some, None, slice_get, IsSomeAnd, false}
use Rattle.game_rules.specs.Grid.{Grid}
use Rattle.game_rules.specs.Play.{outcome, after}
use Rattle.game_rules.specs.declared.RuleKind.{RuleKind}
use Rattle.game_rules.specs.declared.Outcome.{Outcome}
use Rattle.game_rules.specs.declared.Outcome.TheVariants.{Refused, Wins as WinsNow, Fouls, Draws, GoesOn}
use Rattle.game_rules.specs.declared.Point.{Point}
use Rattle.strategy_graph.specs.declared.Rest.{Rest}
use Rattle.strategy_graph.specs.declared.Node.{Node}
use Rattle.strategy_graph.specs.declared.Why.{Why}
use Rattle.strategy_graph.specs.declared.Why.TheVariants.{AttackRefused, AttackFouls, AttackDraws, NotWon, ReplyWins, ReplyDraws, NoAnswer}
use Rattle.strategy_graph.specs.Tables.{Answers, answers_of, answer, is_winning}

-- the fault of an attack with this outcome, by a node with this rest, if it has one
abbrev pub attack_fault : Outcome → Rest → Option Why
attack_fault Refused rest = Some AttackRefused
attack_fault WinsNow rest = None
attack_fault (Fouls f) rest = Some AttackFouls
attack_fault Draws rest = Some AttackDraws
attack_fault GoesOn rest = if is_winning rest then Some NotWon else None

-- the fault of a reply that goes on, by the answer to it: none where there is one
abbrev pub no_answer : Option ℕ → Option Why
no_answer None = Some NoAnswer
no_answer (Some j) = None

-- the fault of a reply with this outcome and this answer, if it has one
abbrev pub reply_fault : Outcome → Option ℕ → Option Why
reply_fault Refused a = None
reply_fault WinsNow a = Some ReplyWins
reply_fault (Fouls f) a = None
reply_fault Draws a = Some ReplyDraws
reply_fault GoesOn a = no_answer a

-- there is such a node, and P holds of it
abbrev pub AtNode : Option Node → (Node → Type 0) → Type 0
AtNode None P = ⊥
AtNode (Some n) P = P n

-- a reply leads to the fault: it is the last move and has it, or it goes on, and the moves after it lead there from
-- the answer to it
abbrev pub ReplyLeads : Outcome → Option ℕ → List Point → (ℕ → Type 0) → Why → Type 0
ReplyLeads o a [] Next why = reply_fault o a ≡ Some why
ReplyLeads o a (p ∷ line) Next why = (o ≡ GoesOn) × IsSomeAnd a Next

-- The line leads from node i at b to the fault: its moves are by turns the attack of the node in turn, which goes on
-- and is not that of a winning node, and a reply that goes on and has an answer, up to the last move, which has the
-- fault.
unfoldable pub Leads : RuleKind → List Node → ℕ → Grid → List Point → Why → Type 0
Leads rule t i b [] why = ⊥
Leads rule t i b (p ∷ []) why = AtNode (slice_get t i) (λ n. (p ≡ n.attack) × (attack_fault (outcome rule b p) n.rest ≡ Some why))
Leads rule t i b (p ∷ q ∷ line) why =
    AtNode (slice_get t i) (λ n. (p ≡ n.attack) × (outcome rule b p ≡ GoesOn) × (is_winning n.rest ≡ false)
    × ReplyLeads (outcome rule (after b p) q) (answer (answers_of n) q) line (λ j. Leads rule t j (after (after b p) q) line why) why)

-- the same from a start at b: the line begins with a reply
abbrev pub LeadsStart : RuleKind → List Node → Answers → Grid → List Point → Why → Type 0
LeadsStart rule t a b [] why = ⊥
LeadsStart rule t a b (q ∷ line) why =
    ReplyLeads (outcome rule b q) (answer a q) line (λ j. Leads rule t j (after b q) line why) why
