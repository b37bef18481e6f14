-- Pairs of a node and a board: how many a walk for zones looks at. It looks at each pair that it comes to; behind an attack that leaves
-- replies, at those of the rest there, as after a pass, and at those of the answer to each reply that has to be walked.
use Rattle.std.specs.Prelude.{◌≡◌, ◌⊎◌, ℕ, zero, suc, ◌+◌, false, ◌&&◌, not, if◌then◌else◌}
use Rattle.std.specs.Prelude.{List, [], ◌∷◌, Option, Some, None, slice_get}
use Rattle.game_rules.specs.Grid.{Grid, points_of, is_empty, put}
use Rattle.game_rules.specs.Shapes.{five}
use Rattle.game_rules.specs.Play.{other}
use Rattle.game_rules.specs.declared.RuleKind.{RuleKind}
use Rattle.game_rules.specs.declared.Side.{Side}
use Rattle.game_rules.specs.declared.Point.{Point}
use Rattle.strategy_graph.specs.Tables.{Answers, answers_of, answer, listed_node, rest_node}
use Rattle.strategy_graph.specs.declared.Node.{Node}
use Rattle.strategy_graph.specs.declared.roots.Root.{Root}
use Rattle.strategy_graph.specs.declared.roots.Root.TheVariants.{Attack, Defend}
use Rattle.relevance_zone.specs.Zones.{Zone, HasZone, IsHarmless}

-- each of the points has a number that Has says, and they come to n
abbrev pub ComesTo : (Point → ℕ → Type 0) → List Point → ℕ → Type 0
ComesTo Has [] n = n ≡ 0
ComesTo Has (p ∷ ps) n = (k m : ℕ) × Has p k × ComesTo Has ps m × (n ≡ k + m)

-- The reply q at b needs no walk, where r is the rest, and Zoned says which node has which zone at which board: its point is taken, or
-- it is not listed and does no harm to some zone that the rest has there, as after a pass.
abbrev pub NeedsNoWalk : Answers → (ℕ → Grid → Zone → Type 0) → ℕ → Grid → Point → Type 0
NeedsNoWalk a Zoned r b q =
    (is_empty b q ≡ false) ⊎ ((y : Zone) × (listed_node a.replies q ≡ None) × Zoned r b y × IsHarmless y q)

-- behind the reply q at b, where s attacks, there are n pairs: none where it needs no walk, and else those of its answer
abbrev pub ReplyHasPairs : Side → Answers → (ℕ → Grid → Zone → Type 0) → (ℕ → Grid → ℕ → Type 0) → ℕ → Grid → Point → ℕ
    → Type 0
ReplyHasPairs s a Zoned Paired r b q n =
    (NeedsNoWalk a Zoned r b q × (n ≡ 0))
    ⊎ ((j : ℕ) × (answer a q ≡ Some j) × (¬ NeedsNoWalk a Zoned r b q) × Paired j (put b (other s) q) n)

-- behind the answers at b, of which this node is the rest, there are n pairs: none without a rest, and else those of the rest there, as
-- after a pass, and those behind each reply
abbrev pub AnswersHavePairs : Option ℕ → Side → Answers → (ℕ → Grid → Zone → Type 0) → (ℕ → Grid → ℕ → Type 0) → Grid → ℕ
    → Type 0
AnswersHavePairs None s a Zoned Paired b n = n ≡ 0
AnswersHavePairs (Some r) s a Zoned Paired b n =
    (k m : ℕ) × Paired r b k × ComesTo (ReplyHasPairs s a Zoned Paired r b) (points_of b) m × (n ≡ k + m)

-- the rest that a walk asks at b, if it does: the attack is to an empty point and makes no five, and the rest is a node
abbrev pub asked_rest : RuleKind → Side → Grid → Node → Option ℕ
asked_rest rule s b n = if is_empty b n.attack && not (five rule b s n.attack) then rest_node n.rest else None

-- behind a node at b there are n pairs: those behind its answers after its attack
abbrev pub NodeHasPairs : RuleKind → Side → Option Node → (ℕ → Grid → Zone → Type 0) → (ℕ → Grid → ℕ → Type 0) → Grid → ℕ
    → Type 0
NodeHasPairs rule s None Zoned Paired b n = n ≡ 0
NodeHasPairs rule s (Some d) Zoned Paired b n =
    AnswersHavePairs (asked_rest rule s b d) s (answers_of d) Zoned Paired (put b s d.attack) n

-- from node i at b there are n pairs, where at most so many nodes follow one another
unfoldable pub HasPairsWithin : ℕ → RuleKind → List Node → Side → ℕ → Grid → ℕ → Type 0
HasPairsWithin zero rule t s i b n = n ≡ 0
HasPairsWithin (suc f) rule t s i b n =
    (m : ℕ) × NodeHasPairs rule s (slice_get t i) (HasZone rule t s) (HasPairsWithin f rule t s) b m × (n ≡ m + 1)

-- From node i at b, where s attacks and is to move, there are n pairs: this one, and those behind it. Each node names only lower ones, so
-- no more than i + 1 follow one another.
abbrev pub HasPairs : RuleKind → List Node → Side → ℕ → Grid → ℕ → Type 0
HasPairs rule t s i b n = HasPairsWithin (suc i) rule t s i b n

-- behind the answers at b there are n pairs, by the nodes of the table
abbrev pub AnswersHavePairsBy : RuleKind → List Node → Side → Answers → Grid → ℕ → Type 0
AnswersHavePairsBy rule t s a b n = AnswersHavePairs (rest_node a.rest) s a (HasZone rule t s) (HasPairs rule t s) b n

-- behind the reply q at b there are n pairs, by the nodes of the table
abbrev pub ReplyHasPairsBy : RuleKind → List Node → Side → Answers → ℕ → Grid → Point → ℕ → Type 0
ReplyHasPairsBy rule t s a r b q n = ReplyHasPairs s a (HasZone rule t s) (HasPairs rule t s) r b q n

-- from the root at b, where s attacks, there are n pairs
abbrev pub RootHasPairs : RuleKind → List Node → Side → Root → Grid → ℕ → Type 0
RootHasPairs rule t s (Attack i) b n = HasPairs rule t s i b n
RootHasPairs rule t s (Defend a) b n = AnswersHavePairsBy rule t s a b n
