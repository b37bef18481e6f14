-- The moves of the attacker: wins that need no search, and the moves that a search has to try.
use Rattle.std.specs.Prelude.{◌≡◌, ℕ, Bool, true, false, ◌&&◌, ◌||◌, not, if◌then◌else◌, List, None}
use Rattle.std.specs.List.{list_any, filter}
use Rattle.game_rules.specs.Grid.{Grid, points_of, is_empty, put}
use Rattle.game_rules.specs.Shapes.{five, is_same_point}
use Rattle.game_rules.specs.Play.{outcome, goes_on, saves, mover, after, other, foul_of}
use Rattle.game_rules.specs.Games.{has_five}
use Rattle.game_rules.specs.declared.RuleKind.{RuleKind}
use Rattle.game_rules.specs.declared.Side.{Side}
use Rattle.game_rules.specs.declared.Outcome.TheVariants.{GoesOn}
use Rattle.game_rules.specs.declared.Point.{Point}
use Rattle.open_windows.specs.PointSets.{has_point}
use Rattle.threat_moves.specs.OneBlock.{all_foul}
use Rattle.threat_game.specs.declared.attacks.Attacks.{Attacks}
use Rattle.threat_game.specs.declared.attacks.Attacks.TheVariants.{DoublePoint as DoubleWins, NoReply, Moves}
use Rattle.threat_game.specs.declared.attacks.Attempt.{Attempt}
use Rattle.threat_game.specs.declared.attacks.Attempt.TheVariants.{Tried, EachReplyFouls, Passed}
use Rattle.threat_game.specs.declared.attacks.BestReply.{BestReply}
use Rattle.threat_game.specs.declared.attacks.BestReply.TheVariants.{GoesOn as SomeGoesOn, Saves, Fouls as EachFouls}
use Rattle.threat_game.specs.declared.doubles.DoublePoint.{DoublePoint}
use Rattle.threat_game.specs.declared.doubles.Kept.{Kept}
use Rattle.threat_game.specs.ThreatGame.{is_threat_move, is_safe_threat}
use Rattle.threat_game.specs.NearDoubles.{points_of_two}

-- whether some move of the side to move goes on
abbrev pub has_reply : RuleKind → Grid → Bool
has_reply rule c = list_any (λ q. goes_on (outcome rule c q)) (points_of c)

-- whether some move of the side to move wins or fills the board
abbrev pub has_saving : RuleKind → Grid → Bool
has_saving rule c = list_any (λ q. saves (outcome rule c q)) (points_of c)

-- what the moves of the side to move come to
unfoldable pub best_reply : RuleKind → Grid → BestReply
best_reply rule c = if has_reply rule c then SomeGoesOn else if has_saving rule c then Saves else EachFouls

-- whether each of the moves that come to this fouls
abbrev pub is_fouled : BestReply → Bool
is_fouled SomeGoesOn = false
is_fouled Saves = false
is_fouled EachFouls = true

-- a move of the game of threats after which each reply fouls
unfoldable pub is_last_move : RuleKind → Grid → Point → Bool
is_last_move rule b p = is_threat_move rule b p && all_foul rule (after b p)

-- a move that has to be tried: one of the game of threats that leaves the other side no five point, but a reply that goes on
unfoldable pub is_tried : RuleKind → Grid → Point → Bool
is_tried rule b p = is_safe_threat rule b p && has_reply rule (after b p)

-- whether the move is none of the game of threats, has to be tried, or is met by a reply that wins or fills the board
unfoldable pub is_settled_move : RuleKind → Grid → Point → Bool
is_settled_move rule b p = not (is_threat_move rule b p) || is_tried rule b p || has_saving rule (after b p)

-- what is said of a move: it has to be tried, or each reply to it fouls, or it need not be tried
abbrev pub IsAttempt : RuleKind → Grid → Point → Attempt → Type 0
IsAttempt rule b p Tried = (is_tried rule b p ≡ true) × (is_settled_move rule b p ≡ true)
IsAttempt rule b p EachReplyFouls = is_last_move rule b p ≡ true
IsAttempt rule b p Passed = (is_tried rule b p ≡ false) × (is_settled_move rule b p ≡ true)

-- each move outside the set need not be tried
pub record AreCandidates (rule : RuleKind) (b : Grid) (set : List ℕ) : Type 0 where
  pub passed : (p : Point) → has_point set p ≡ false → IsAttempt rule b p Passed

-- the moves that have to be tried, in reading order
abbrev pub tried_moves : RuleKind → Grid → List Point
tried_moves rule b = filter (is_tried rule b) (points_of b)

-- to each other move of the game of threats some reply wins or fills the board
pub record OthersFail (rule : RuleKind) (b : Grid) : Type 0 where
  pub fails : (p : Point) → is_threat_move rule b p ≡ true → is_tried rule b p ≡ false → has_saving rule (after b p) ≡ true

-- a stone of the side on the empty point of the double point leaves it both five points
pub record LeavesBoth (rule : RuleKind) (b : Grid) (s : Side) (d : DoublePoint) : Type 0 where
  pub empty : is_empty b d.at ≡ true
  pub first : five rule (put b s d.at) s d.first ≡ true
  pub second : five rule (put b s d.at) s d.second ≡ true
  pub apart : is_same_point d.first d.second ≡ false

-- a double point, and if it is sure, its point is no foul of the side wherever the other side puts a stone
pub record IsKept (rule : RuleKind) (b : Grid) (s : Side) (kept : Kept) : Type 0 where
  pub both : LeavesBoth rule b s kept.double
  pub free : kept.sure ≡ true → (z : Point) → is_empty b z ≡ true → is_same_point kept.double.at z ≡ false
      → foul_of rule (put b (other s) z) s kept.double.at ≡ None

-- the same after a stone of the other side, where the side is to move
pub record IsStillKept (rule : RuleKind) (b : Grid) (kept : Kept) : Type 0 where
  pub both : LeavesBoth rule b (mover b) kept.double
  pub free : kept.sure ≡ true → foul_of rule b (mover b) kept.double.at ≡ None

-- a double point of the side to move that wins: its stone there goes on and leaves it both five points, and the other side has
-- none
pub record IsDoubleWin (rule : RuleKind) (b : Grid) (d : DoublePoint) : Type 0 where
  pub on : outcome rule b d.at ≡ GoesOn
  pub both : LeavesBoth rule b (mover b) d
  pub safe : has_five rule b (other (mover b)) ≡ false

-- whether some double point of the side to move goes on
abbrev pub has_standing_double : RuleKind → Grid → Bool
has_standing_double rule b = list_any (λ p. goes_on (outcome rule b p)) (points_of_two rule b (mover b))

-- a double point is told
abbrev pub IsDoubleTold : Attacks → Type 0
IsDoubleTold (DoubleWins d) = Unit {0}
IsDoubleTold (NoReply p) = ⊥
IsDoubleTold (Moves ps) = ⊥

-- what the moves of the side to move, which has no five point, come to
abbrev pub AreAttacks : RuleKind → Grid → Attacks → Type 0
AreAttacks rule b (DoubleWins d) = IsDoubleWin rule b d
AreAttacks rule b (NoReply p) = is_last_move rule b p ≡ true
AreAttacks rule b (Moves ps) = (ps ≡ tried_moves rule b) × OthersFail rule b
