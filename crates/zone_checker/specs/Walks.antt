-- What a walk asks, and how it ends.
use Rattle.std.specs.Prelude.{◌≡◌, ◌⊎◌, ℕ, ◌+◌, ◌<◌, true, false, Some, None, List}
use Rattle.game_rules.specs.Grid.{Grid, is_empty}
use Rattle.game_rules.specs.declared.RuleKind.{RuleKind}
use Rattle.game_rules.specs.declared.Side.{Side}
use Rattle.game_rules.specs.declared.Point.{Point}
use Rattle.strategy_graph.specs.Tables.{Answers, answer, listed_node}
use Rattle.strategy_graph.specs.declared.Node.{Node}
use Rattle.strategy_graph.specs.declared.Reply.{Reply}
use Rattle.strategy_graph.specs.declared.Rest.TheVariants.{To}
use Rattle.relevance_zone.specs.Zones.{Zone, HasZone, Withstands}
use Rattle.zone_checker.specs.Marks.{harms}
use Rattle.zone_checker.specs.declared.marks.Mark.{Mark}
use Rattle.zone_checker.specs.declared.walk.Stop.{Stop}
use Rattle.zone_checker.specs.declared.walk.Stop.TheVariants.{Zoneless, Spent, Memory}

-- the answers that are asked: those listed, and the node of the rest
abbrev pub asked_of : List Reply → ℕ → Answers
asked_of replies rest = record { replies = replies; rest = To rest }

-- with the zone all replies at b are withstood, by these answers and the nodes of the table
abbrev pub IsWithstoodBy : RuleKind → List Node → Side → Answers → Grid → Zone → Type 0
IsWithstoodBy rule t s a b z = Withstands s a (HasZone rule t s) b z

-- the reply q at b needs no walk: its point is taken, or it is not listed and does the marks of the rest no harm
abbrev pub IsIdle : List Reply → Grid → List Mark → Point → Type 0
IsIdle replies b passed q = (is_empty b q ≡ false) ⊎ ((listed_node replies q ≡ None) × (harms b passed q ≡ false))

-- the reply q at b has to be walked from node j, which answers it: its point is empty, and it is listed or does those marks harm
pub record HasToWalk (a : Answers) (b : Grid) (passed : List Mark) (q : Point) (j : ℕ) : Type 0 where
  pub empty : is_empty b q ≡ true
  pub given : answer a q ≡ Some j
  pub harm : listed_node a.replies q ≡ None → harms b passed q ≡ true

-- why a walk found no zone that Has says: there is none, or fewer pairs were left than the number that Paired says; for want of memory
-- nothing is said
abbrev pub Stopped : (Zone → Type 0) → ℕ → (ℕ → Type 0) → Stop → Type 0
Stopped Has left Paired Zoneless = (z : Zone) → ¬ Has z
Stopped Has left Paired Spent = (n : ℕ) → Paired n → left < n
Stopped Has left Paired Memory = Unit {0}

-- of the pairs that were left the number that Paired says was looked at
pub record Took (Paired : ℕ → Type 0) (old new : ℕ) : Type 0 where
  pub pairs : ℕ
  pub paired : Paired pairs
  pub all : old ≡ new + pairs
