-- How far the replies to attacks are met: what is still to be asked at one position, and the nodes that wait for one another.
use Rattle.std.specs.Prelude.{◌≡◌, ◌+◌, ◌*◌, ◌<◌, ◌⊎◌, ℕ, false, Option, Some, None, Result, Ok, Err, List, [], ◌∷◌, ◌++◌, reverse, map}
use Rattle.std.specs.Prelude.{if◌then◌else◌, drop, slice_get}
use Rattle.std.specs.List.{All, count_by, list_any, sum_by}
use Rattle.game_rules.specs.Grid.{Grid, empties_of, is_empty, lift, points_of}
use Rattle.game_rules.specs.Play.{IsPosition, after, outcome}
use Rattle.game_rules.specs.Shapes.{is_same_point}
use Rattle.game_rules.specs.declared.Point.{Point}
use Rattle.game_rules.specs.declared.RuleKind.{RuleKind}
use Rattle.game_rules.specs.declared.Outcome.TheVariants.{GoesOn}
use Rattle.strategy_graph.specs.Acceptance.{Accepted, Meets}
use Rattle.strategy_graph.specs.Arrivals.{arrivals, arrivals_at}
use Rattle.strategy_graph.specs.Leads.{Leads, LeadsStart}
use Rattle.strategy_graph.specs.Tables.{Answers, answer, answers_of, is_winning}
use Rattle.strategy_graph.specs.declared.Node.{Node}
use Rattle.strategy_graph.specs.declared.Reply.{Reply}
use Rattle.strategy_checker.specs.declared.meeting.Course.{Course}
use Rattle.strategy_checker.specs.declared.meeting.Course.TheVariants.{Each, Listed, ListedThen}
use Rattle.strategy_checker.specs.declared.walk.Stage.{Stage}
use Rattle.strategy_checker.specs.declared.walk.Stop.{Stop}
use Rattle.strategy_checker.specs.declared.walk.Stop.TheVariants.{Spent}
use Rattle.strategy_checker.specs.declared.walk.Walk.{Walk}
use Rattle.strategy_checker.specs.Walks.{IsOutlook, IsReady, Stopped, WalkedReply}

-- the replies that a course still asks, in their order
abbrev pub to_ask : List Reply → Course → List Point
to_ask rs (Each ps) = ps
to_ask rs (Listed i) = map (λ r. r.at) (drop i rs)
to_ask rs (ListedThen i w) = map (λ r. r.at) (drop i rs) ++ w ∷ []

-- the same where the course may not be known yet: then all points of the board
abbrev pub all_to_ask : Grid → List Reply → Option Course → List Point
all_to_ask b rs None = points_of b
all_to_ask b rs (Some course) = to_ask rs course

-- the replies that are listed, and the one on w if it isn't
abbrev pub apart_points : List Reply → Point → List Point
apart_points rs w = map (λ r. r.at) rs ++ (if list_any (λ r. is_same_point r.at w) rs then [] else w ∷ [])

-- these are all points of a board, or those that are listed, which then are all that are empty
abbrev pub IsWhole : Grid → List Reply → List Point → Type 0
IsWhole b rs qs = (qs ≡ points_of b) ⊎ ((qs ≡ map (λ r. r.at) rs) × (count_by (λ r. is_empty b r.at) rs ≡ empties_of b))

-- each of these replies at b is met
abbrev pub AreMet : RuleKind → List Node → Answers → Grid → List Point → Type 0
AreMet rule t a b qs = All (Meets rule a (Accepted rule t) b) qs

-- the arrivals behind these replies at b
abbrev pub owed : RuleKind → List Node → Answers → Grid → List Point → ℕ
owed rule t a b qs = sum_by (arrivals_at rule a (arrivals rule t) b) qs

-- A walk from so many arrivals on, which is to show A with n arrivals, owes no more than these replies at b.
pub record Owes (rule : RuleKind) (t : List Node) (a : Answers) (b : Grid) (A : Type 0) (n : ℕ) (qs : List Point) (start : ℕ)
    (now : Walk) : Type 0 where
  pub counted : now.left + n ≡ start + owed rule t a b qs
  pub met : AreMet rule t a b qs → A
  pub ready : IsReady rule t b now

-- The course of the replies, all of which are these: it asks enough of them. Or there are not arrivals enough.
abbrev pub Planned : RuleKind → List Node → Answers → Grid → List Point → ℕ → Walk → Result Course Stop → Type 0
Planned rule t a b qs start now (Ok course) = Owes rule t a b (AreMet rule t a b qs) (owed rule t a b qs) (to_ask a.replies course) start
    now
Planned rule t a b qs start now (Err stop) = (stop ≡ Spent) × (start < owed rule t a b qs)

-- what a question to the reply q at b did: the reply is met, or it goes on to the node that answers it and nothing is changed
abbrev pub Asked : RuleKind → List Node → Answers → Grid → Point → Walk → Walk → Result (Option ℕ) Stop → Type 0
Asked rule t a b q old new (Ok None) = WalkedReply rule t a b q old new (Ok tt)
Asked rule t a b q old new (Ok (Some j)) = (outcome rule b q ≡ GoesOn) × (answer a q ≡ Some j) × (new ≡ old)
Asked rule t a b q old new (Err stop) = WalkedReply rule t a b q old new (Err stop)

-- Some of these replies at b were asked: all are met, or q has to be walked from and the later ones are left.
abbrev pub Advanced : RuleKind → List Node → Answers → Grid → List Point → Point → List Point → ℕ → Walk → Result (Option ℕ) Stop → Type 0
Advanced rule t a b qs q later start now (Ok None) = Owes rule t a b (AreMet rule t a b qs) (owed rule t a b qs) [] start now
Advanced rule t a b qs q later start now (Ok (Some j)) =
    Owes rule t a b (AreMet rule t a b qs) (owed rule t a b qs) (q ∷ later) start now × (outcome rule b q ≡ GoesOn) × (answer a q ≡ Some j)
Advanced rule t a b qs q later start now (Err stop) =
    Stopped (λ why. LeadsStart rule t a b (reverse now.line) why) (start < owed rule t a b qs) stop

-- a walk from node i at b, with so many arrivals left, has come to its end
pub record Settled (rule : RuleKind) (t : List Node) (i : ℕ) (b : Grid) (start : ℕ) (now : Walk) : Type 0 where
  pub accepted : Accepted rule t i b
  pub counted : now.left + arrivals rule t i b ≡ start
  pub ready : IsReady rule t b now

-- a walk from node i at b, with so many arrivals left, has stopped
abbrev pub Stops : RuleKind → List Node → ℕ → Grid → ℕ → Walk → Stop → Type 0
Stops rule t i b start now stop = Stopped (λ why. Leads rule t i b (reverse now.line) why) (start < arrivals rule t i b) stop

-- the attack of node n was played and led to c, and of the replies there these are left to be met
pub record IsStage (rule : RuleKind) (t : List Node) (n : Node) (c : Grid) (o : Stage) (qs : List Point) (left : ℕ) : Type 0 where
  pub at : slice_get t o.node ≡ Some n
  pub lawful : IsPosition rule (lift c n.attack)
  pub on : outcome rule (lift c n.attack) n.attack ≡ GoesOn
  pub back : after (lift c n.attack) n.attack ≡ c
  pub more : is_winning n.rest ≡ false
  pub outlook : IsOutlook rule t c o.meeting.outlook
  pub counted : left + arrivals rule t o.node (lift c n.attack) ≡ o.before + owed rule t (answers_of n) c qs
  pub met : AreMet rule t (answers_of n) c qs → Accepted rule t o.node (lift c n.attack)

-- its replies that are left to be asked
abbrev pub left_at : Node → Grid → Stage → List Point
left_at n c o = all_to_ask c n.replies o.meeting.course

-- Node i was entered at b with so many arrivals left: it is settled there, or open after its attack, or the walk has stopped
-- there.
abbrev pub Entered : RuleKind → List Node → ℕ → Grid → ℕ → Walk → Grid → Result (Option Stage) Stop → Type 0
Entered rule t i b start now c (Ok None) = Settled rule t i b start now × (c ≡ b)
Entered rule t i b start now c (Ok (Some o)) =
    (n : Node) × (IsStage rule t n c o (left_at n c o) now.left × (o.node ≡ i) × (o.before ≡ start) × (lift c n.attack ≡ b)
    × IsReady rule t c now)
Entered rule t i b start now c (Err stop) = Stops rule t i b start now stop × (c ≡ b)

-- an open node waits at c for what comes of node i, which answers its reply, entered with so many arrivals left
pub record Waits (rule : RuleKind) (t : List Node) (n : Node) (c : Grid) (o : Stage) (i start : ℕ) : Type 0 where
  pub stage : IsStage rule t n c o (o.meeting.reply ∷ left_at n c o) start
  pub lawful : IsPosition rule c
  pub on : outcome rule c o.meeting.reply ≡ GoesOn
  pub answered : answer (answers_of n) o.meeting.reply ≡ Some i

-- Node i is entered at b with so many arrivals left, and these nodes wait, each for the one before it. The last of them was
-- entered first, or if none waits it is i itself: it is node root, at start, with so many arrivals left.
abbrev pub Under : RuleKind → List Node → ℕ → Grid → ℕ → List Stage → ℕ → Grid → ℕ → Type 0
Under rule t root first all [] i b start = (i ≡ root) × (b ≡ first) × (start ≡ all)
Under rule t root first all (o ∷ os) i b start =
    (n : Node) × ((c : Grid) × (Waits rule t n c o i start × (b ≡ after c o.meeting.reply)
    × Under rule t root first all os o.node (lift c n.attack) o.before))

-- a node was entered, above the nodes that wait
pub record Handed (rule : RuleKind) (t : List Node) (root : ℕ) (first : Grid) (all : ℕ) (os : List Stage) (now : Walk) (c : Grid)
    (r : Result (Option Stage) Stop) : Type 0 where
  pub i : ℕ
  pub b : Grid
  pub start : ℕ
  pub under : Under rule t root first all os i b start
  pub entered : Entered rule t i b start now c r

-- an open node went down to the node that answers one of its replies, and waits for it as the last one
pub record WentDown (rule : RuleKind) (t : List Node) (n : Node) (c : Grid) (o : Stage) (olds news : List Stage) (now : Walk) (d : Grid)
    (r : Result (Option Stage) Stop) : Type 0 where
  pub top : Stage
  pub next : ℕ
  pub start : ℕ
  pub waiting : news ≡ olds ++ top ∷ []
  pub same_node : top.node ≡ o.node
  pub same_before : top.before ≡ o.before
  pub waits : Waits rule t n c top next start
  pub entered : Entered rule t next (after c top.meeting.reply) start now d r

-- what came of an open node: its walk has come to its end or stopped, or it went down
abbrev pub WentOn : RuleKind → List Node → Node → Grid → Stage → List Stage → List Stage → Walk → Grid → Result (Option Stage) Stop → Type 0
WentOn rule t n c o olds news now d r =
    ((news ≡ olds) × Entered rule t o.node (lift c n.attack) o.before now d r) ⊎ WentDown rule t n c o olds news now d r

-- what a walk has left to do at most, by the arrivals that are left and by how many nodes wait
abbrev pub to_do : ℕ → ℕ → Result (Option Stage) Stop → ℕ
to_do left waiting (Ok None) = 3 * left + waiting + 2
to_do left waiting (Ok (Some o)) = 3 * left + waiting + 3
to_do left waiting (Err stop) = waiting
