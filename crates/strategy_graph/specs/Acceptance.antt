-- What it is to accept a node, or a start, of a table at a board.
use Rattle.std.specs.Prelude.{ℕ, zero, suc, List, Option, Some, None, IsSomeAnd, slice_get, ◌≡◌, false}
use Rattle.game_rules.specs.Grid.{Grid}
use Rattle.game_rules.specs.Play.{outcome, after}
use Rattle.game_rules.specs.Games.{WinsOr, LosesOr}
use Rattle.game_rules.specs.declared.RuleKind.{RuleKind}
use Rattle.game_rules.specs.declared.Point.{Point}
use Rattle.strategy_graph.specs.declared.Node.{Node}
use Rattle.strategy_graph.specs.Tables.{Answers, answers_of, answer, is_winning}

-- the reply q at b is met: it is no move, it fouls, or it goes on to a board where Next holds of the answer to it
abbrev pub Meets : RuleKind → Answers → (ℕ → Grid → Type 0) → Grid → Point → Type 0
Meets rule a Next b q = LosesOr (outcome rule b q) (IsSomeAnd (answer a q) (λ j. Next j (after b q)))

-- a node is accepted at b: its attack wins, or it is no winning node, its attack goes on, and each reply to it is met
abbrev pub AcceptedNode : RuleKind → Option Node → (ℕ → Grid → Type 0) → Grid → Type 0
AcceptedNode rule None Next b = ⊥
AcceptedNode rule (Some n) Next b =
    WinsOr (outcome rule b n.attack) ((is_winning n.rest ≡ false) × ((q : Point) → Meets rule (answers_of n) Next (after b n.attack) q))

-- node i is accepted at b, where at most so many nodes follow one another
unfoldable pub AcceptedWithin : ℕ → RuleKind → List Node → ℕ → Grid → Type 0
AcceptedWithin zero rule t i b = ⊥
AcceptedWithin (suc f) rule t i b = AcceptedNode rule (slice_get t i) (AcceptedWithin f rule t) b

-- Node i is accepted at b: its attack wins, or it is no winning node, its attack goes on, and each reply fouls or
-- goes on to a board where the answer to it is accepted. Each node names only lower ones, so no more than i + 1
-- follow one another.
abbrev pub Accepted : RuleKind → List Node → ℕ → Grid → Type 0
Accepted rule t i b = AcceptedWithin (suc i) rule t i b

-- a start is accepted at b: each move there fouls, or goes on to a board where the answer to it is accepted
abbrev pub AcceptedStart : RuleKind → List Node → Answers → Grid → Type 0
AcceptedStart rule t a b = (q : Point) → Meets rule a (Accepted rule t) b q
