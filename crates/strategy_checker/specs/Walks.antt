-- What a step of a walk through a table did, how it stops before it has met every reply, what it remembers, and which answers
-- are sure.
use Rattle.std.specs.Prelude.{◌≡◌, ◌==◌, ◌&&◌, ◌||◌, ◌+◌, ◌<◌, ℕ, Bool, true, false, not, if◌then◌else◌, Option, Some, None, IfSome, Result}
use Rattle.std.specs.Prelude.{Ok, Err, List, [], ◌∷◌, ◌++◌, reverse, slice_get}
use Rattle.std.specs.List.{list_any}
use Rattle.std.specs.Option.{option_map}
use Rattle.game_rules.specs.Grid.{Grid, is_empty, lift}
use Rattle.game_rules.specs.Games.{five_points, has_five}
use Rattle.game_rules.specs.Play.{IsPosition, after, outcome, mover, other}
use Rattle.game_rules.specs.Shapes.{five, is_same_point}
use Rattle.game_rules.specs.declared.Point.{Point}
use Rattle.game_rules.specs.declared.RuleKind.{RuleKind}
use Rattle.game_rules.specs.declared.Outcome.TheVariants.{Refused, GoesOn}
use Rattle.position_table.specs.Remembering.{IsTrueTable}
use Rattle.position_table.specs.Lateness.{Late}
use Rattle.row_shapes.specs.FivePoints.{in_short}
use Rattle.row_shapes.specs.declared.fives.FivePoints.{FivePoints}
use Rattle.row_shapes.specs.declared.fives.FivePoints.TheVariants.{None as NoPoint, One, Several}
use Rattle.strategy_graph.specs.Acceptance.{Accepted, Meets}
use Rattle.strategy_graph.specs.Arrivals.{arrivals, arrivals_at}
use Rattle.strategy_graph.specs.Leads.{Leads, LeadsStart}
use Rattle.strategy_graph.specs.declared.Node.{Node}
use Rattle.strategy_graph.specs.declared.Why.{Why}
use Rattle.strategy_graph.specs.declared.Reply.{Reply}
use Rattle.strategy_graph.specs.Tables.{Answers, IsTable}
use Rattle.strategy_checker.specs.declared.outlook.Fives.{Fives}
use Rattle.strategy_checker.specs.declared.outlook.Fives.TheVariants.{Unknown, Told, MadeBy}
use Rattle.strategy_checker.specs.declared.outlook.Outlook.{Outlook}
use Rattle.strategy_checker.specs.declared.outlook.Sure.{Sure}
use Rattle.strategy_checker.specs.declared.walk.Walk.{Walk}
use Rattle.strategy_checker.specs.declared.walk.Stop.{Stop}
use Rattle.strategy_checker.specs.declared.walk.Stop.TheVariants.{Fault, Spent, Memory}

-- at a fault Faulty holds of it, and where the arrivals are spent Short holds; for want of memory nothing is said
abbrev pub Stopped : (Why → Type 0) → Type 0 → Stop → Type 0
Stopped Faulty Short (Fault why) = Faulty why
Stopped Faulty Short Spent = Short
Stopped Faulty Short Memory = Unit {0}

-- the stop once the move p is noted: a fault stays one and has the move at the end of its moves, unless there is no memory
-- for it, and another stop stays as it is
abbrev pub IsNoted : Point → List Point → List Point → Stop → Stop → Type 0
IsNoted p old new (Fault why) stop = Stopped (λ w. (w ≡ why) × (new ≡ old ++ p ∷ [])) ⊥ stop
IsNoted p old new Spent stop = stop ≡ Spent
IsNoted p old new Memory stop = stop ≡ Memory

-- n arrivals are counted and nothing else is changed, or there are not so many left
abbrev pub Takes : ℕ → Walk → Walk → Result (Unit {0}) Stop → Type 0
Takes n old new (Ok done) = old ≡ record new { left = new.left + n }
Takes n old new (Err stop) = (stop ≡ Spent) × (old.left < n)

-- node i is accepted at the board, with so many arrivals
pub record IsWalked (rule : RuleKind) (t : List Node) (b : Grid) (i n : ℕ) : Type 0 where
  pub accepted : Accepted rule t i b
  pub counted : arrivals rule t i b ≡ n

-- what a walk remembers is true: under a board and a node stand the arrivals of the node, which is accepted there
abbrev pub IsTrueMemo : RuleKind → List Node → Late → Type 0
IsTrueMemo rule t memo = IsTrueTable ℕ rule (IsWalked rule t) memo.table

-- a walk may step on at a lawful position: it has noted no move, and what it remembers is true
pub record IsReady (rule : RuleKind) (t : List Node) (b : Grid) (w : Walk) : Type 0 where
  pub lawful : IsPosition rule b
  pub no_line : w.line ≡ []
  pub memo : IsTrueMemo rule t w.memo

-- n arrivals were counted, no move is noted, and what is remembered is true
pub record HasCounted (rule : RuleKind) (t : List Node) (n : ℕ) (old new : Walk) : Type 0 where
  pub counted : new.left + n ≡ old.left
  pub no_line : new.line ≡ []
  pub memo : IsTrueMemo rule t new.memo

-- What a step of a walk did: A holds, and n arrivals were counted. Or it stopped: at a fault to which the noted moves lead by
-- L, or since fewer than n were left.
abbrev pub Walked : RuleKind → List Node → Type 0 → ℕ → (List Point → Why → Type 0) → Walk → Walk → Result (Unit {0}) Stop → Type 0
Walked rule t A n L old new (Ok done) = A × HasCounted rule t n old new
Walked rule t A n L old new (Err stop) = Stopped (λ why. L (reverse new.line) why) (old.left < n) stop

-- such a step from node i at b
abbrev pub WalkedNode : RuleKind → List Node → ℕ → Grid → Walk → Walk → Result (Unit {0}) Stop → Type 0
WalkedNode rule t i b old new r = Walked rule t (Accepted rule t i b) (arrivals rule t i b) (Leads rule t i b) old new r

-- such a step behind the reply q at b
abbrev pub WalkedReply : RuleKind → List Node → Answers → Grid → Point → Walk → Walk → Result (Unit {0}) Stop → Type 0
WalkedReply rule t a b q old new r =
    Walked rule t (Meets rule a (Accepted rule t) b q) (arrivals_at rule a (arrivals rule t) b q) (LeadsStart rule t a b) old new r

-- what is told of the five points of the side that is not to move, if anything is
abbrev pub TellsFives : RuleKind → Grid → Option FivePoints → Type 0
TellsFives rule b fives = IfSome fives (λ f. f ≡ in_short (five_points rule b (other (mover b))))

-- a stone of the side that is not to move is on q: it went on from a lawful position where that side had no five point
pub record HadNone (rule : RuleKind) (b : Grid) (q : Point) : Type 0 where
  pub lawful : IsPosition rule (lift b q)
  pub on : outcome rule (lift b q) q ≡ GoesOn
  pub back : after (lift b q) q ≡ b
  pub none : has_five rule (lift b q) (mover (lift b q)) ≡ false

-- what is known of the five points of the side that is not to move at b
abbrev pub AreFives : RuleKind → Grid → Fives → Type 0
AreFives rule b Unknown = Unit {0}
AreFives rule b (Told f) = TellsFives rule b (Some f)
AreFives rule b (MadeBy q) = HadNone rule b q

-- what is known of them after a stone of that side on q, which has none before it if that is known
abbrev pub fives_after : Bool → Point → Fives
fives_after false q = Unknown
fives_after true q = MadeBy q

-- a reply on p is no move, or goes on
abbrev pub IsQuick : RuleKind → Grid → Point → Type 0
IsQuick rule b p = outcome rule b p ≡ (if is_empty b p then GoesOn else Refused)

-- whether none of the five points is left that are told, once p is taken
abbrev pub leaves_none : Option FivePoints → Point → Bool
leaves_none None p = false
leaves_none (Some NoPoint) p = true
leaves_none (Some (One w)) p = is_same_point w p
leaves_none (Some Several) p = false

-- it is a node of the table with its attack, and the attack is a five point of the side that is not to move at b
pub record IsSure (rule : RuleKind) (t : List Node) (b : Grid) (s : Sure) : Type 0 where
  pub table : IsTable t
  pub attack : option_map (λ n. n.attack) (slice_get t s.node) ≡ Some s.attack
  pub five_point : five rule b (other (mover b)) s.attack ≡ true

-- whether node i is the one that is sure, and its attack is not on q
abbrev pub is_sure_after : Option Sure → ℕ → Point → Bool
is_sure_after None i q = false
is_sure_after (Some s) i q = (s.node == i) && not (is_same_point s.attack q)

-- what is known of the replies at b: the side to move has no five point, if that is told, each reply on an empty point goes on,
-- if that is told, and the node is sure, if one is told
pub record IsOutlook (rule : RuleKind) (t : List Node) (b : Grid) (o : Outlook) : Type 0 where
  pub free : o.free ≡ true → has_five rule b (mover b) ≡ false
  pub quick : o.quick ≡ true → (p : Point) → IsQuick rule b p
  pub sure : IfSome o.sure (IsSure rule t b)

-- whether the reply q is walked alone: it is listed, or on w
abbrev pub is_apart : List Reply → Point → Point → Bool
is_apart rs w q = list_any (λ r. is_same_point r.at q) rs || is_same_point w q
