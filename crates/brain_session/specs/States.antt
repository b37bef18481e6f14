-- The state of the brain, as plain values.
use Rattle.std.specs.Prelude.{ℕ, Bool, false, List, [], ◌∷◌, Option, None, replicate, ◌*◌}
use Rattle.game_rules.specs.Grid.{Grid}
use Rattle.game_rules.specs.Play.{after}
use Rattle.game_rules.specs.declared.RuleKind.{RuleKind}
use Rattle.game_rules.specs.declared.Side.{Side}
use Rattle.game_rules.specs.declared.Cell.TheVariants.{Empty}
use Rattle.game_rules.specs.declared.Point.{Point}
use Rattle.strategy_checker.specs.HeldRoots.{HeldTable}
use Rattle.brain_session.specs.declared.batch.BatchStone.{BatchStone}

-- What the brain follows, once it has played its move by it: a node of the held table, or the win by continuous fours that it
-- found itself, which was within so many moves before that move.
pub data Followed : Type 0 where
  HeldNode : (node : ℕ) → Followed
  OwnWin : (moves : ℕ) → Followed

-- a game: its rule, the position from which it began, the moves since, the last one first, the colour of the brain, whether it
-- is ended, and what the brain follows, if anything
pub record Game : Type 0 where
  pub rule : RuleKind
  pub start : Grid
  pub moves : List Point
  pub brain : Side
  pub ended : Bool
  pub followed : Option Followed

-- the board after these moves from a start, the last one first
abbrev pub board_after : Grid → List Point → Grid
board_after start [] = start
board_after start (p ∷ before) = after (board_after start before) p

-- the board of the game now
abbrev pub board_of : Game → Grid
board_of g = board_after g.start g.moves

-- the board of this width and height with no stone on it
abbrev pub empty_board : ℕ → ℕ → Grid
empty_board width height = record { width = width; height = height; cells = replicate (width * height) Empty }

-- the point with these coordinates
abbrev pub point_at : ℕ → ℕ → Point
point_at x y = record { x = x; y = y }

-- a game that begins from this position: nothing is played yet, and nothing followed
abbrev pub new_game : RuleKind → Grid → Side → Game
new_game rule start brain = record { rule = rule; start = start; moves = []; brain = brain; ended = false; followed = None }

-- where the brain is: it has no board, a board on which no game has begun, or a game
pub data Place : Type 0 where
  NoBoard : Place
  Fresh : (width height : ℕ) → Place
  InGame : (game : Game) → Place

-- the stones that BOARD has sent so far, in their order, and whether a line among them was bad
pub record Batch : Type 0 where
  pub stones : List BatchStone
  pub bad : Bool

-- the brain: the number of the rule that is wished for, what it holds, where it is, and the batch that it reads, if it does
pub record State : Type 0 where
  pub wish : ℕ
  pub held : HeldTable
  pub place : Place
  pub batch : Option Batch

-- a new brain that holds this
abbrev pub new_brain : HeldTable → State
new_brain held = record { wish = 0; held = held; place = NoBoard; batch = None }
