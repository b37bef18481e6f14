-- The zone of a node: what further stones of the defender have to leave alone, so that the node stays accepted. It is the relevance
-- zone of Wu and Lin, Relevance-Zone-Oriented Proof Search for Connect6, where a pass is a null move.
use Rattle.std.specs.Prelude.{◌≡◌, ◌⊎◌, ℕ, zero, suc, ◌+◌, ◌-◌, ◌≤◌, ◌<◌, Bool, true, false, List, Option, Some, None}
use Rattle.std.specs.Prelude.{slice_get}
use Rattle.game_rules.specs.Grid.{Grid, IsBoard, is_empty, holds, put}
use Rattle.game_rules.specs.Shapes.{five}
use Rattle.game_rules.specs.Play.{mover, other, has_fouls}
use Rattle.game_rules.specs.declared.RuleKind.{RuleKind}
use Rattle.game_rules.specs.declared.Side.{Side}
use Rattle.game_rules.specs.declared.Axis.{Axis}
use Rattle.game_rules.specs.declared.Point.{Point}
use Rattle.strategy_graph.specs.Tables.{Answers, answers_of, listed_node, answer}
use Rattle.strategy_graph.specs.declared.Node.{Node}
use Rattle.strategy_graph.specs.declared.Rest.TheVariants.{To}
use Rattle.strategy_graph.specs.declared.roots.Root.{Root}
use Rattle.strategy_graph.specs.declared.roots.Root.TheVariants.{Attack, Defend}
use Rattle.relevance_zone.specs.Windows.{stones_in, is_clear_of, is_in_window}

-- a zone: points, and how many further stones of the defender each window bears
pub record Zone : Type 0 where
  pub points : Point → Bool
  pub spare : Axis → Point → ℕ

-- The board c is b with further stones of the defender alone, where s attacks, and the zone bears them: none is on a point
-- of the zone, and no window has more of them than it bears.
pub record Bears (s : Side) (z : Zone) (b c : Grid) : Type 0 where
  pub before : IsBoard b
  pub later : IsBoard c
  pub wide : c.width ≡ b.width
  pub high : c.height ≡ b.height
  pub attackers : (p : Point) → holds c s p ≡ holds b s p
  pub defenders : (p : Point) → holds b (other s) p ≡ true → holds c (other s) p ≡ true
  pub points : (p : Point) → z.points p ≡ true → is_empty b p ≡ true → is_empty c p ≡ true
  pub windows : (d : Axis) (p : Point) → stones_in c (other s) d p ≤ stones_in b (other s) d p + z.spare d p

-- the zone z has each point of y, and bears in each window no more than y does after k further stones there
pub record Covers (k : ℕ) (z y : Zone) : Type 0 where
  pub points : (p : Point) → y.points p ≡ true → z.points p ≡ true
  pub windows : (d : Axis) (p : Point) → z.spare d p ≤ y.spare d p - k

-- a stone of the defender on q does no harm: q is no point of the zone, and each window through q bears one more
pub record IsHarmless (z : Zone) (q : Point) : Type 0 where
  pub point : z.points q ≡ false
  pub windows : (d : Axis) (p : Point) → is_in_window q d p ≡ true → 0 < z.spare d p

-- The reply q at b is withstood, where y is the zone of the rest at b, as after a pass: it is not listed and does y no harm,
-- or its answer has, at the board after it, a zone that z covers.
abbrev pub IsWithstood : Side → Answers → (ℕ → Grid → Zone → Type 0) → Grid → Zone → Zone → Point → Type 0
IsWithstood s a Has b z y q =
    ((listed_node a.replies q ≡ None) × IsHarmless y q)
    ⊎ ((j : ℕ) × (x : Zone) × (answer a q ≡ Some j) × Has j (put b (other s) q) x × Covers 0 z x)

-- With the zone z all replies at b are withstood, where Has says which node has which zone at which board. No window that is clear of
-- the attacker comes to more than three stones with all that z bears, so the defender has no five point; the rest is a node, and has
-- a zone at b itself, as after a pass, that z covers with one stone more; and each reply to an empty point is withstood.
pub record Withstands (s : Side) (a : Answers) (Has : ℕ → Grid → Zone → Type 0) (b : Grid) (z : Zone) : Type 0 where
  pub short : (d : Axis) (p : Point) → is_clear_of b s d p ≡ true → stones_in b (other s) d p + z.spare d p ≤ 3
  pub rest : ℕ
  pub named : a.rest ≡ To rest
  pub zone : Zone
  pub passed : Has rest b zone
  pub covered : Covers 1 z zone
  pub replies : (q : Point) → is_empty b q ≡ true → IsWithstood s a Has b z zone q

-- A node has the zone at b, where s attacks and is to move: its attack is an empty point of the zone, and makes a five or leaves
-- a board where all replies are withstood with the zone.
abbrev pub NodeHasZone : RuleKind → Side → Option Node → (ℕ → Grid → Zone → Type 0) → Grid → Zone → Type 0
NodeHasZone rule s None Has b z = ⊥
NodeHasZone rule s (Some n) Has b z =
    (z.points n.attack ≡ true) × (is_empty b n.attack ≡ true)
    × ((five rule b s n.attack ≡ true) ⊎ Withstands s (answers_of n) Has (put b s n.attack) z)

-- node i has the zone at b, where at most so many nodes follow one another
unfoldable pub HasZoneWithin : ℕ → RuleKind → List Node → Side → ℕ → Grid → Zone → Type 0
HasZoneWithin zero rule t s i b z = ⊥
HasZoneWithin (suc f) rule t s i b z = NodeHasZone rule s (slice_get t i) (HasZoneWithin f rule t s) b z

-- Node i has the zone at b, where s attacks and is to move; the numbers of stones play no part. Each node names only lower
-- ones, so no more than i + 1 follow one another.
abbrev pub HasZone : RuleKind → List Node → Side → ℕ → Grid → Zone → Type 0
HasZone rule t s i b z = HasZoneWithin (suc i) rule t s i b z

-- node i is accepted at b by a zone: the side to move has no fouls under the rule, and the node has a zone there
abbrev pub AcceptedByZone : RuleKind → List Node → ℕ → Grid → Type 0
AcceptedByZone rule t i b = (has_fouls rule (mover b) ≡ false) × ((z : Zone) × HasZone rule t (mover b) i b z)

-- a start is accepted at b by a zone: the side that is not to move has no fouls, and with some zone it withstands all replies
abbrev pub AcceptedStartByZone : RuleKind → List Node → Answers → Grid → Type 0
AcceptedStartByZone rule t a b =
    (has_fouls rule (other (mover b)) ≡ false)
    × ((z : Zone) × Withstands (other (mover b)) a (HasZone rule t (other (mover b))) b z)

-- the root is accepted at b by a zone
abbrev pub AcceptedRootByZone : RuleKind → List Node → Root → Grid → Type 0
AcceptedRootByZone rule t (Attack i) b = AcceptedByZone rule t i b
AcceptedRootByZone rule t (Defend a) b = AcceptedStartByZone rule t a b
