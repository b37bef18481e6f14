-- What is true of a running game: how it came about, and that what the brain follows goes on whatever the opponent does.
use Rattle.std.specs.Prelude.{◌≡◌, ◌-◌, ◌<◌, Bool, true, false, length, List, [], ◌∷◌, Option, IfSome, is_some, All, AllPairs}
use Rattle.std.specs.Prelude.{IsSomeAnd}
use Rattle.game_rules.specs.Grid.{Grid, IsBoard, is_on}
use Rattle.game_rules.specs.Shapes.{is_same_point}
use Rattle.game_rules.specs.Play.{IsPosition, outcome, after, mover, other}
use Rattle.game_rules.specs.declared.Side.{Side}
use Rattle.game_rules.specs.Games.{LosesOr, WinsByFours}
use Rattle.game_rules.specs.declared.RuleKind.{RuleKind}
use Rattle.game_rules.specs.declared.Outcome.{Outcome}
use Rattle.game_rules.specs.declared.Outcome.TheVariants.{Refused, Wins, Fouls, Draws, GoesOn}
use Rattle.game_rules.specs.declared.Point.{Point}
use Rattle.strategy_graph.specs.Tables.{answer_at}
use Rattle.strategy_graph.specs.Acceptance.{Accepted}
use Rattle.strategy_checker.specs.HeldRoots.{HeldTable, IsHeld}
use Rattle.brain_session.specs.States.{Followed, HeldNode, OwnWin, Game, board_after, board_of, empty_board, Batch, Place, NoBoard, Fresh}
use Rattle.brain_session.specs.States.{InGame, State}
use Rattle.brain_session.specs.Steps.{board_in}

-- each of these moves went on, from a lawful position
abbrev pub GoesOnAlong : RuleKind → Grid → List Point → Type 0
GoesOnAlong rule start [] = IsPosition rule start
GoesOnAlong rule start (p ∷ before) = GoesOnAlong rule start before × (outcome rule (board_after start before) p ≡ GoesOn)

-- a move with this outcome ends a game
abbrev pub EndsGame : Outcome → Type 0
EndsGame Refused = ⊥
EndsGame Wins = Unit {0}
EndsGame (Fouls f) = Unit {0}
EndsGame Draws = Unit {0}
EndsGame GoesOn = ⊥

-- each of these moves but the last went on, and the last ended the game
abbrev pub EndsAlong : RuleKind → Grid → List Point → Type 0
EndsAlong rule start [] = ⊥
EndsAlong rule start (p ∷ before) = GoesOnAlong rule start before × EndsGame (outcome rule (board_after start before) p)

-- the moves of a game, ended or not
abbrev pub IsPlayed : Bool → RuleKind → Grid → List Point → Type 0
IsPlayed true rule start moves = EndsAlong rule start moves
IsPlayed false rule start moves = GoesOnAlong rule start moves

-- What is followed goes on at b, where the opponent is to move: a node is one of the table, and each move there is none, fouls, or goes on
-- to a board where the answer of the node to it is accepted, or where the brain still wins by fours within the moves that are left.
abbrev pub FollowsAt : HeldTable → RuleKind → Grid → Followed → Type 0
FollowsAt h rule b (HeldNode i) =
    (i < length h.table) × ((q : Point) → LosesOr (outcome rule b q)
    (IsSomeAnd (answer_at h.table i q) (λ j. Accepted rule h.table j (after b q))))
FollowsAt h rule b (OwnWin moves) = (q : Point) → LosesOr (outcome rule b q) (WinsByFours rule (moves - 1) (after b q))

-- what is followed, if anything, goes on where the game is not ended
abbrev pub FollowsOn : Bool → HeldTable → RuleKind → Grid → Option Followed → Type 0
FollowsOn true h rule b f = Unit {0}
FollowsOn false h rule b f = IfSome f (FollowsAt h rule b)

-- where something is followed and the game is not ended, the opponent is to move
abbrev pub IsOpponentNext : Bool → Bool → Grid → Side → Type 0
IsOpponentNext false true b brain = other (mover b) ≡ brain
IsOpponentNext false false b brain = Unit {0}
IsOpponentNext true following b brain = Unit {0}

-- a game that the brain plays while it holds this
pub record IsRunning (h : HeldTable) (g : Game) : Type 0 where
  pub played : IsPlayed g.ended g.rule g.start g.moves
  pub follows : FollowsOn g.ended h g.rule (board_of g) g.followed
  pub opponent_moves : IsOpponentNext g.ended (is_some g.followed) (board_of g) g.brain

-- the place of a brain that holds this
abbrev pub IsPlace : HeldTable → Place → Type 0
IsPlace h NoBoard = Unit {0}
IsPlace h (Fresh width height) = IsBoard (empty_board width height)
IsPlace h (InGame g) = IsRunning h g

-- each stone of a batch is on the board, and no two are on one point
pub record StonesFit (board : Grid) (b : Batch) : Type 0 where
  pub on_board : All (λ s. is_on board s.at ≡ true) b.stones
  pub distinct : AllPairs (λ s u. is_same_point s.at u.at ≡ false) b.stones

-- what the type of a brain keeps: each held root is accepted, a game that runs is as above, and the stones of a batch fit
pub record IsBrain (s : State) : Type 0 where
  pub held : IsHeld s.held
  pub place : IsPlace s.held s.place
  pub batch : IfSome s.batch (StonesFit (board_in s.place))
