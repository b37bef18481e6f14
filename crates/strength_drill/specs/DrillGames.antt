-- The games of the drill: one against a brain that holds a table for the position, which is told the position stone by stone, and
-- is answered by moves that are drawn.
use Rattle.std.specs.Prelude.{◌≡◌, ℕ, zero, suc, ◌+◌, ◌/◌, ◌%◌, ◌<◌, Bool, true, false, ◌&&◌, not, if◌then◌else◌, List, [], ◌∷◌, map, fold}
use Rattle.std.specs.Prelude.{unwrap_or, Option, Some, None}
use Rattle.std.specs.List.{filter}
use Rattle.game_rules.specs.Grid.{Grid, is_empty, holds, points_of}
use Rattle.game_rules.specs.Play.{outcome, mover, is_foul, is_win}
use Rattle.game_rules.specs.declared.RuleKind.{RuleKind}
use Rattle.game_rules.specs.declared.RuleKind.TheVariants.{Freestyle, Exact, Renju}
use Rattle.game_rules.specs.declared.Side.{Side}
use Rattle.game_rules.specs.declared.Point.{Point}
use Rattle.stone_board.specs.Order.{first_empty_from}
use Rattle.strategy_graph.specs.declared.Node.{Node}
use Rattle.strategy_graph.specs.declared.roots.Root.TheVariants.{Attack}
use Rattle.strategy_compiler.specs.Walks.{last}
use Rattle.strategy_checker.specs.HeldRoots.{HeldTable}
use Rattle.gomocup_text.specs.declared.Command.{Command as Asked}
use Rattle.gomocup_text.specs.declared.Command.TheVariants.{Start, Rule, Board, Stone, Done, Turn}
use Rattle.gomocup_text.specs.declared.Answer.TheVariants.{Move, Error}
use Rattle.gomocup_text.specs.declared.ErrorText.TheVariants.{OpponentFoul}
use Rattle.brain_session.specs.declared.Reaction.{Reaction}
use Rattle.brain_session.specs.declared.Reaction.TheVariants.{Says}
use Rattle.brain_session.specs.States.{Game, board_after, board_of, empty_board, Place, NoBoard, Fresh, InGame, State, new_brain}
use Rattle.brain_session.specs.Steps.{same_side, brain_step}
use Rattle.strength_drill.specs.declared.positions.TheConstants.{SIDE}
use Rattle.strength_drill.specs.Draws.{number_after, draw_at}

-- what a brain holds for a game: the table, with its last node as root at the position
abbrev pub held_at : RuleKind → Grid → List Node → HeldTable
held_at rule b t = record { table = t; roots = record { root = Attack (last t); kind = rule; board = b } ∷ [] }

-- the wish by which a brain plays under the rule
abbrev pub wish_of : RuleKind → ℕ
wish_of Freestyle = 0
wish_of Exact = 1
wish_of Renju = 4

-- the line of the stone on a point, where the brain is the side to move: its own stones have field 1, the opponent's 2
abbrev pub stone_line : Grid → Point → Asked
stone_line b p = Stone p.x p.y (if holds b (mover b) p then 1 else 2)

-- the lines of the stones on these points
abbrev pub stone_lines : Grid → List Point → List Asked
stone_lines b ps = map (stone_line b) (filter (λ p. not (is_empty b p)) ps)

-- the lines by which a brain is told the position, up to DONE: the size, the rule, and the stones in reading order
abbrev pub position_lines : RuleKind → Grid → List Asked
position_lines rule b = Start SIDE ∷ Rule (wish_of rule) ∷ Board ∷ stone_lines b (points_of b)

-- the state of a brain after it was told these commands
abbrev pub told_all : State → List Asked → State
told_all s cs = fold (λ t c. (brain_step t c).next) s cs

-- the state of a brain that holds this, once it was told the position and has made its first move
abbrev pub state_begun : HeldTable → RuleKind → Grid → State
state_begun held rule b = (brain_step (told_all (new_brain held) (position_lines rule b)) Done).next

-- the move that the brain says, if it says one
abbrev pub move_said : Reaction → Option Point
move_said (Says (Move p)) = Some p
move_said _ = None

-- whether the brain says that the opponent's move was a foul
abbrev pub says_foul : Reaction → Bool
says_foul (Says (Error OpponentFoul)) = true
says_foul _ = false

-- the board in a place
abbrev pub board_now : Place → Grid
board_now NoBoard = empty_board 0 0
board_now (Fresh width height) = empty_board width height
board_now (InGame g) = board_of g

-- whether there is a game in the place, and it is ended
abbrev pub is_ended : Place → Bool
is_ended NoBoard = false
is_ended (Fresh width height) = false
is_ended (InGame g) = g.ended

-- the point of a draw: one of the 225 of the board
abbrev pub board_point : ℕ → Point
board_point v = let k = v % 225 in record { x = k % 15; y = k / 15 }

-- the opponent's move by a draw: the first empty point from that of the draw on
abbrev pub drawn_move : Grid → ℕ → Point
drawn_move b v = unwrap_or (first_empty_from b (board_point v)) (board_point v)

-- the line TURN of that move
abbrev pub drawn_turn : Grid → ℕ → Asked
drawn_turn b v = let q = drawn_move b v in Turn q.x q.y

-- the state after so many TURN lines by the draws of the number
unfoldable pub after_turns : State → ℕ → ℕ → State
after_turns s n zero = s
after_turns s n (suc k) = let t = after_turns s n k in (brain_step t (drawn_turn (board_now t.place) (draw_at n k))).next

-- The game from the state: a TURN is sent after each move of the brain until the game is ended, which is after so many.
pub record IsPlayedOut (s : State) (n turns : ℕ) (g : Game) : Type 0 where
  pub game : (after_turns s n turns).place ≡ InGame g
  pub ended : g.ended ≡ true
  pub no_sooner : (k : ℕ) → k < turns → is_ended (after_turns s n k).place ≡ false

-- how many of these moves from a start, the last one first, the side made
abbrev pub moves_by : Side → Grid → List Point → ℕ
moves_by s start [] = 0
moves_by s start (p ∷ before) = moves_by s start before + (if same_side (mover (board_after start before)) s then 1 else 0)

-- the moves of the brain in the game
abbrev pub moves_of_brain : Game → ℕ
moves_of_brain g = moves_by g.brain g.start g.moves

-- whether the last of these moves from a start wins for the side: its own wins, or one of the other side is a foul
abbrev pub last_wins : RuleKind → Side → Grid → List Point → Bool
last_wins rule s start [] = false
last_wins rule s start (p ∷ before) =
    let b = board_after start before in if same_side (mover b) s then is_win (outcome rule b p) else is_foul (outcome rule b p)

-- whether the brain won the game: it ended by its winning move, or by a foul of the opponent
abbrev pub is_won : Game → Bool
is_won g = g.ended && last_wins g.rule g.brain g.start g.moves

-- a game that was played to its end from the state, with so many moves of the brain, won or not; the number after it is u
pub record IsGamePlayed (s : State) (n moves : ℕ) (won : Bool) (u : ℕ) : Type 0 where
  pub turns : ℕ
  pub game : Game
  pub played : IsPlayedOut s n turns game
  pub moves_made : moves ≡ moves_of_brain game
  pub ends : won ≡ is_won game
  pub number : u ≡ number_after n turns
