-- What a verdict by zones says.
use Rattle.std.specs.Prelude.{◌≡◌, ◌⊎◌, ℕ, ◌≤◌, ◌<◌, List}
use Rattle.game_rules.specs.Grid.{Grid}
use Rattle.game_rules.specs.declared.RuleKind.{RuleKind}
use Rattle.strategy_graph.specs.Roots.{RootWins, root_depth}
use Rattle.strategy_graph.specs.declared.Node.{Node}
use Rattle.strategy_graph.specs.declared.roots.Root.{Root}
use Rattle.relevance_zone.specs.Zones.{AcceptedRootByZone}
use Rattle.zone_checker.specs.Pairs.{RootHasPairs}
use Rattle.zone_checker.specs.Roots.{attacker}
use Rattle.zone_checker.specs.declared.checks.ZoneVerdict.{ZoneVerdict}
use Rattle.zone_checker.specs.declared.checks.ZoneVerdict.TheVariants.{Accepted, Refused, Spent}
use Rattle.zone_checker.specs.declared.checks.TheConstants.{MAX_ZONE_MOVES}

-- The verdict on the root at a lawful position b. It is accepted by a zone, with its depth, and so it wins, and with its number of pairs,
-- which is at most the work; or it is not accepted by a zone; or it is too deep, or the work is less than its number of pairs.
abbrev pub IsVerdict : RuleKind → List Node → Root → ℕ → Grid → ZoneVerdict → Type 0
IsVerdict rule t r work b (Accepted moves pairs) =
    AcceptedRootByZone rule t r b × (moves ≡ root_depth t r) × (pairs ≤ work) × RootWins rule r moves b
    × RootHasPairs rule t (attacker r b) r b pairs
IsVerdict rule t r work b Refused = ¬ AcceptedRootByZone rule t r b
IsVerdict rule t r work b Spent =
    (MAX_ZONE_MOVES < root_depth t r) ⊎ ((n : ℕ) → RootHasPairs rule t (attacker r b) r b n → work < n)
