-- How often a node is arrived at in all games from a node, or a start, at a board.
use Rattle.std.specs.Prelude.{ℕ, zero, suc, if◌then◌else◌, List, Option, Some, None, slice_get}
use Rattle.std.specs.Option.{option_map_or}
use Rattle.std.specs.List.{sum_by}
use Rattle.game_rules.specs.Grid.{Grid, points_of}
use Rattle.game_rules.specs.Play.{outcome, after}
use Rattle.game_rules.specs.Games.{if_goes_on}
use Rattle.game_rules.specs.declared.RuleKind.{RuleKind}
use Rattle.game_rules.specs.declared.Point.{Point}
use Rattle.strategy_graph.specs.declared.Node.{Node}
use Rattle.strategy_graph.specs.Tables.{Answers, answers_of, answer, is_winning}

-- the arrivals behind the reply q at b: those at the answer to it where it goes on and has one, else 0
abbrev pub arrivals_at : RuleKind → Answers → (ℕ → Grid → ℕ) → Grid → Point → ℕ
arrivals_at rule a count b q = if_goes_on (outcome rule b q) (option_map_or (λ j. count j (after b q)) (answer a q) 0)

-- the arrivals behind all replies at b
abbrev pub arrivals_after : RuleKind → Answers → (ℕ → Grid → ℕ) → Grid → ℕ
arrivals_after rule a count b = sum_by (arrivals_at rule a count b) (points_of b)

-- the arrivals behind a node at b: those behind all replies where it is no winning node and its attack goes on, else
-- 0
abbrev pub arrivals_behind : RuleKind → Option Node → (ℕ → Grid → ℕ) → Grid → ℕ
arrivals_behind rule None count b = 0
arrivals_behind rule (Some n) count b =
    if_goes_on (outcome rule b n.attack) (if is_winning n.rest then 0 else arrivals_after rule (answers_of n) count (after b n.attack))

-- the arrivals at nodes, from node i at b, where at most so many nodes follow one another
unfoldable pub arrivals_within : ℕ → RuleKind → List Node → ℕ → Grid → ℕ
arrivals_within zero rule t i b = 0
arrivals_within (suc f) rule t i b = suc (arrivals_behind rule (slice_get t i) (arrivals_within f rule t) b)

-- The arrivals at nodes, from node i at b: 1, and those behind each reply to its attack where it is no winning node
-- and its attack goes on. Each node names only lower ones, so no more than i + 1 follow one another.
abbrev pub arrivals : RuleKind → List Node → ℕ → Grid → ℕ
arrivals rule t i b = arrivals_within (suc i) rule t i b

-- the arrivals from a start at b: 1, and those behind each reply
abbrev pub start_arrivals : RuleKind → List Node → Answers → Grid → ℕ
start_arrivals rule t a b = suc (arrivals_after rule a (arrivals rule t) b)
