-- The replies to a move of the attacker, and what is known at once of the positions after them.
use Rattle.std.specs.Prelude.{◌≡◌, ℕ, ◌+◌, ◌<◌, ◌≤◌, nat_eq, Bool, false, true, ◌&&◌, not, if◌then◌else◌, List, [], ◌∷◌, map, length, All}
use Rattle.std.specs.Prelude.{Option, Some, None, Contains, take}
use Rattle.std.specs.List.{list_any, filter, find, sum_by}
use Rattle.game_rules.specs.Grid.{Grid, points_of, is_on, put}
use Rattle.game_rules.specs.Shapes.{five, is_same_point}
use Rattle.game_rules.specs.Play.{outcome, mover, after, goes_on, other}
use Rattle.game_rules.specs.Games.{WinsByThreats, has_five, five_points, is_double_point, behind_replies}
use Rattle.game_rules.specs.declared.RuleKind.{RuleKind}
use Rattle.game_rules.specs.declared.Side.{Side}
use Rattle.game_rules.specs.declared.Outcome.TheVariants.{GoesOn}
use Rattle.game_rules.specs.declared.Point.{Point}
use Rattle.open_windows.specs.PointSets.{has_point}
use Rattle.strategy_graph.specs.declared.Node.{Node}
use Rattle.strategy_graph.specs.declared.Rest.TheVariants.{To}
use Rattle.threat_game.specs.declared.doubles.DoublePoint.{DoublePoint}
use Rattle.threat_game.specs.declared.doubles.Kept.{Kept}
use Rattle.threat_game.specs.declared.doubles.TheConstants.{MOST_KEPT}
use Rattle.threat_game.specs.declared.replies.Judged.{Judged}
use Rattle.threat_game.specs.declared.replies.Judged.TheVariants.{Five, DoublePoint as DoubleWins, Last, Open}
use Rattle.threat_game.specs.declared.replies.Judgement.{Judgement}
use Rattle.threat_game.specs.declared.replies.Judgement.TheVariants.{NoReply, Escape, Known}
use Rattle.threat_game.specs.declared.replies.Child.{Child}
use Rattle.threat_game.specs.declared.replies.Children.{Children}
use Rattle.threat_game.specs.ThreatGame.{threat_tree}
use Rattle.threat_game.specs.Attacks.{is_last_move, IsDoubleWin, IsKept}

-- whether the reply w goes on
abbrev pub has_reply_at : RuleKind → Grid → Point → Bool
has_reply_at rule c w = list_any (λ q. goes_on (outcome rule c q) && is_same_point q w) (points_of c)

-- whether another reply than w goes on
abbrev pub has_reply_beside : RuleKind → Grid → Point → Bool
has_reply_beside rule c w = list_any (λ q. goes_on (outcome rule c q) && not (is_same_point q w)) (points_of c)

-- 1 for yes, and 0 for no
abbrev pub one_if : Bool → ℕ
one_if test = if test then 1 else 0

-- how many winning nodes answer the replies to a double point: one the reply on its first five point, and one all others
abbrev pub answer_nodes : RuleKind → Grid → DoublePoint → ℕ
answer_nodes rule b d = one_if (has_reply_at rule (after b d.at) d.first) + one_if (has_reply_beside rule (after b d.at) d.first)

-- a double point wins at b, where the side to move has no five point, and so many nodes answer the replies to it
pub record IsJudgedDouble (rule : RuleKind) (b : Grid) (d : DoublePoint) (nodes : ℕ) : Type 0 where
  pub no_five : has_five rule b (mover b) ≡ false
  pub wins : IsDoubleWin rule b d
  pub nodes_are : nodes ≡ answer_nodes rule b d

-- what is judged of b is true; of an open position nothing is but that the side to move has no five point
abbrev pub IsJudged : RuleKind → Grid → Judged → Type 0
IsJudged rule b (Five w) = five rule b (mover b) w ≡ true
IsJudged rule b (DoubleWins d nodes) = IsJudgedDouble rule b d nodes
IsJudged rule b (Last p) = is_last_move rule b p ≡ true
IsJudged rule b Open = has_five rule b (mover b) ≡ false

-- the moves that a win of this kind takes; an open position has two moves or more
abbrev pub moves_for : Judged → ℕ
moves_for (Five w) = 1
moves_for (DoubleWins d nodes) = 2
moves_for (Last p) = 1
moves_for Open = 2

-- whether nothing is known
abbrev pub is_open : Judged → Bool
is_open (Five w) = false
is_open (DoubleWins d nodes) = false
is_open (Last p) = false
is_open Open = true

-- how many positions of the attacker are counted for a position of which this is judged
abbrev pub counted_for : Judged → ℕ
counted_for (Five w) = 1
counted_for (DoubleWins d nodes) = 1 + nodes
counted_for (Last p) = 1
counted_for Open = 1

-- how many nodes are compiled at most for a win that is judged so; for an open position none is
abbrev pub nodes_for : Judged → ℕ
nodes_for (Five w) = 1
nodes_for (DoubleWins d nodes) = 1 + nodes
nodes_for (Last p) = 1
nodes_for Open = 0

-- the node that plays a double point and answers the reply on its first five point by node i, and each other by node j
abbrev pub standing_node : DoublePoint → ℕ → ℕ → Node
standing_node d i j = record { attack = d.at; replies = record { at = d.first; next = i } ∷ []; rest = To j }

-- whether a stone on q leaves the double point and its two five points empty
abbrev pub is_beside : DoublePoint → Point → Bool
is_beside d q = not (is_same_point d.at q) && not (is_same_point d.first q) && not (is_same_point d.second q)

-- a stone on q leaves the double point and its two five points empty
abbrev pub IsBeside : DoublePoint → Point → Type 0
IsBeside d q = is_beside d q ≡ true

-- one of the first MOST_KEPT double points of the side in reading order, with the first two five points that its stone leaves
pub record IsFirstDouble (rule : RuleKind) (b : Grid) (s : Side) (d : DoublePoint) : Type 0 where
  pub listed : Contains (take MOST_KEPT (filter (is_double_point rule b s) (points_of b))) d.at
  pub fives : take 2 (five_points rule (put b s d.at) s) ≡ d.first ∷ d.second ∷ []

-- the double point at p, if it is one, is kept as one to settle replies by, with the first two five points that its stone leaves
pub record IsKeptAt (rule : RuleKind) (b : Grid) (s : Side) (p : Point) (kept : Kept) : Type 0 where
  pub at : kept.double.at ≡ p
  pub double : is_double_point rule b s p ≡ true
  pub is : IsKept rule b s kept
  pub fives : take 2 (five_points rule (put b s p) s) ≡ kept.double.first ∷ kept.double.second ∷ []

-- these double points of the side are kept to settle replies by: the first ones are all among them, if the side has no five point
pub record AreKept (rule : RuleKind) (b : Grid) (s : Side) (doubles : List Kept) : Type 0 where
  pub each : All (IsKept rule b s) doubles
  pub all : has_five rule b s ≡ false → (d : DoublePoint) → IsFirstDouble rule b s d → Contains (map (λ kept. kept.double) doubles) d

-- at b, after the reply q, none of the double points that it leaves empty with its two five points goes on
pub record AreStopped (rule : RuleKind) (b : Grid) (q : Point) (doubles : List Kept) : Type 0 where
  pub each : All (λ kept. IsBeside kept.double q → ¬ (outcome rule b kept.double.at ≡ GoesOn)) doubles

-- The reply q, where the attacker has no five point before it and the other side none after it, stops each of the attacker's first
-- double points: it takes the point or one of its two five points, or a stone there no longer goes on.
pub record StopsDoubles (rule : RuleKind) (c : Grid) (q : Point) : Type 0 where
  pub stops : has_five rule c (other (mover c)) ≡ false → has_five rule (after c q) (mover c) ≡ false
      → (d : DoublePoint) → IsFirstDouble rule c (other (mover c)) d → IsBeside d q → ¬ (outcome rule (after c q) d.at ≡ GoesOn)

-- what is judged after a reply at c is true, and so many moves are enough for it; it is open only where it stops the double points
pub record IsChild (rule : RuleKind) (moves : ℕ) (c : Grid) (child : Child) : Type 0 where
  pub on : outcome rule c child.at ≡ GoesOn
  pub judged : IsJudged rule (after c child.at) child.judged
  pub enough : moves_for child.judged ≤ moves
  pub stopped : is_open child.judged ≡ true → StopsDoubles rule c child.at

-- there is no win by threats within so many moves after this reply, which goes on
pub record EscapesBy (rule : RuleKind) (moves : ℕ) (c : Grid) (q : Point) : Type 0 where
  pub on : outcome rule c q ≡ GoesOn
  pub no_win : ¬ WinsByThreats rule moves (after c q)

-- what is said of a point as a reply at c is true, where the attacker has so many more moves
abbrev pub IsJudgement : RuleKind → ℕ → Grid → Point → Judgement → Type 0
IsJudgement rule moves c q NoReply = goes_on (outcome rule c q) ≡ false
IsJudgement rule moves c q Escape = EscapesBy rule moves c q
IsJudgement rule moves c q (Known judged) = IsChild rule moves c (record { at = q; judged = judged })

-- P holds, if the reply is told to escape
abbrev pub IfEscape : Judgement → Type 0 → Type 0
IfEscape NoReply P = Unit {0}
IfEscape Escape P = P
IfEscape (Known judged) P = Unit {0}

-- the replies that go on, in reading order
abbrev pub replies_at : RuleKind → Grid → List Point
replies_at rule c = filter (λ q. goes_on (outcome rule c q)) (points_of c)

-- what is judged of each reply that goes on at c, in reading order, where the attacker has so many more moves
pub record AreJudged (rule : RuleKind) (moves : ℕ) (c : Grid) (judged : List Child) : Type 0 where
  pub points : map (λ child. child.at) judged ≡ replies_at rule c
  pub each : All (IsChild rule moves c) judged

-- whether a win that is judged so may stand after other replies
abbrev pub is_standing : Judged → Bool
is_standing (Five w) = true
is_standing (DoubleWins d nodes) = nat_eq nodes 2
is_standing (Last p) = false
is_standing Open = false

-- whether two double points and their five points are the same
abbrev pub is_same_double : DoublePoint → DoublePoint → Bool
is_same_double d e = is_same_point d.at e.at && is_same_point d.first e.first && is_same_point d.second e.second

-- whether the win that is compiled for what is judged first wins where the other is judged: it is by the same five point, or by the
-- same double point
abbrev pub stands_for : Judged → Judged → Bool
stands_for (Five w) (Five v) = is_same_point w v
stands_for (DoubleWins d nodes) (DoubleWins e more) = nat_eq nodes 2 && is_same_double d e
stands_for _ _ = false

-- whether the win after this reply, if there is one, wins where this is judged
abbrev pub is_met : Option Child → Judged → Bool
is_met None judged = false
is_met (Some first) judged = stands_for first.judged judged

-- the first child whose win may stand after other replies, where this is the first of those before, and one more is judged
abbrev pub first_with : Option Child → Child → Option Child
first_with None child = if is_standing child.judged then Some child else None
first_with (Some first) child = Some first

-- what is judged here of the position after the reply q at c is true, and the win after this first reply, if there is one, wins there
pub record IsMetAt (rule : RuleKind) (c : Grid) (first : Option Child) (q : Point) : Type 0 where
  pub judged : Judged
  pub is : IsJudged rule (after c q) judged
  pub met : is_met first judged ≡ true

-- The win after this first reply stands by the double point, whose points are on the board: after each reply beside it that goes on and
-- leaves neither side a five point, the win after the first wins.
pub record StandsBy (rule : RuleKind) (c : Grid) (first : Option Child) (d : DoublePoint) : Type 0 where
  pub at_on : is_on c d.at ≡ true
  pub first_on : is_on c d.first ≡ true
  pub second_on : is_on c d.second ≡ true
  pub met : (q : Point) → outcome rule c q ≡ GoesOn → IsBeside d q → has_five rule (after c q) (mover (after c q)) ≡ false
      → has_five rule (after c q) (mover c) ≡ false → IsMetAt rule c first q

-- the win after this first reply wins after each other reply that goes on and is not of the set
pub record TellsUnmet (rule : RuleKind) (c : Grid) (first : Option Child) (set : List ℕ) : Type 0 where
  pub met : (q : Point) → outcome rule c q ≡ GoesOn → has_point set q ≡ false → IsMetAt rule c first q

-- the child before the others, if there is one
abbrev pub put_first : Option Child → List Child → List Child
put_first None children = children
put_first (Some first) children = first ∷ children

-- the first child whose win may stand after other replies, and each child after which it does not
abbrev pub kept_children : List Child → List Child
kept_children judged =
    let first = find (λ child. is_standing child.judged) judged in
    put_first first (filter (λ child. not (is_met first child.judged)) judged)

-- This is judged of some of the replies that go on at c, where the attacker has so many more moves: what is kept of it is kept of what is
-- judged of each of them.
pub record AreJudgedInPart (rule : RuleKind) (moves : ℕ) (c : Grid) (part : List Child) : Type 0 where
  pub judged : List Child
  pub are : AreJudged rule moves c judged
  pub each : All (IsChild rule moves c) part
  pub fewer : length part ≤ length judged
  pub kept : kept_children part ≡ kept_children judged

-- The children are kept of what is judged of each reply that goes on at c, where the attacker has so many more moves. As many positions are
-- counted as for all of them, and no more than the game of threats has.
pub record AreChildren (rule : RuleKind) (moves : ℕ) (c : Grid) (children : Children) : Type 0 where
  pub judged : List Child
  pub are : AreJudged rule moves c judged
  pub kept : children.all.items ≡ kept_children judged
  pub some : 0 < length children.all.items
  pub count_is : children.count ≡ sum_by (λ child. counted_for child.judged) children.all.items
  pub few : children.count ≤ behind_replies rule (threat_tree rule moves) c

-- after some reply that goes on there is no win by threats within so many moves
pub record HasEscape (rule : RuleKind) (moves : ℕ) (c : Grid) : Type 0 where
  pub reply : Point
  pub on : outcome rule c reply ≡ GoesOn
  pub no_win : ¬ WinsByThreats rule moves (after c reply)

-- what the replies come to: children, or none where there is an escape
abbrev pub AreReplies : RuleKind → ℕ → Grid → Option Children → Type 0
AreReplies rule moves c None = HasEscape rule moves c
AreReplies rule moves c (Some children) = AreChildren rule moves c children
