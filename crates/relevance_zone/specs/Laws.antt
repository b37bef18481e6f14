-- The laws of zones. They ask that the attacker has no fouls, since further stones of the defender make and unmake them: so they hold
-- under freestyle and exact, and under renju where White attacks. A defender's foul ends the game in any case.
use Rattle.std.specs.Prelude.{◌≡◌, ◌↔◌, ℕ, false, List, slice_get}
use Rattle.game_rules.specs.Grid.{Grid}
use Rattle.game_rules.specs.Play.{IsPosition, mover, has_fouls}
use Rattle.game_rules.specs.declared.RuleKind.{RuleKind}
use Rattle.game_rules.specs.declared.Side.{Side}
use Rattle.strategy_graph.specs.Tables.{NamesLower}
use Rattle.strategy_graph.specs.Acceptance.{Accepted}
use Rattle.strategy_graph.specs.Roots.{AcceptedRoot, RootWins, root_depth}
use Rattle.strategy_graph.specs.declared.Node.{Node}
use Rattle.strategy_graph.specs.declared.roots.Root.{Root}
use Rattle.relevance_zone.specs.Zones.{Zone, Bears, NodeHasZone, HasZone, AcceptedRootByZone}

-- which zones a node has goes by those of the nodes that it names: the bound on the nodes that follow one another plays no part
abbrev pub ZonesGoByNode : Type 0
ZonesGoByNode = (t : List Node) → NamesLower t → (rule : RuleKind) (s : Side) (i : ℕ) (b : Grid) (z : Zone)
    → HasZone rule t s i b z ↔ NodeHasZone rule s (slice_get t i) (HasZone rule t s) b z

-- a node that has a zone at a board is accepted at each lawful position that has further stones of the defender which the zone
-- bears, and where the attacker is to move
abbrev pub ZonesBear : Type 0
ZonesBear = (rule : RuleKind) (t : List Node) (s : Side) (i : ℕ) (b c : Grid) (z : Zone) → has_fouls rule s ≡ false
    → HasZone rule t s i b z → Bears s z b c → IsPosition rule c → mover c ≡ s → Accepted rule t i c

-- a root that is accepted by a zone at a lawful position is accepted there
abbrev pub ZonesAccept : Type 0
ZonesAccept = (rule : RuleKind) (t : List Node) (r : Root) (b : Grid) → IsPosition rule b → AcceptedRootByZone rule t r b
    → AcceptedRoot rule t r b

-- and so it wins within its depth
abbrev pub ZonesWin : Type 0
ZonesWin = (rule : RuleKind) (t : List Node) (r : Root) (b : Grid) → IsPosition rule b → AcceptedRootByZone rule t r b
    → RootWins rule r (root_depth t r) b
