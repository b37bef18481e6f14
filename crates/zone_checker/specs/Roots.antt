-- The zones of a root.
use Rattle.std.specs.Prelude.{List}
use Rattle.game_rules.specs.Grid.{Grid}
use Rattle.game_rules.specs.Play.{mover, other}
use Rattle.game_rules.specs.declared.RuleKind.{RuleKind}
use Rattle.game_rules.specs.declared.Side.{Side}
use Rattle.strategy_graph.specs.declared.Node.{Node}
use Rattle.strategy_graph.specs.declared.roots.Root.{Root}
use Rattle.strategy_graph.specs.declared.roots.Root.TheVariants.{Attack, Defend}
use Rattle.relevance_zone.specs.Zones.{Zone, HasZone, Withstands}

-- the side that attacks by the root at b: at a start the opponent is to move
abbrev pub attacker : Root → Grid → Side
attacker (Attack i) b = mover b
attacker (Defend a) b = other (mover b)

-- the zone is one of the root at b, where s attacks
abbrev pub IsRootZone : RuleKind → List Node → Side → Root → Grid → Zone → Type 0
IsRootZone rule t s (Attack i) b z = HasZone rule t s i b z
IsRootZone rule t s (Defend a) b z = Withstands s a (HasZone rule t s) b z
