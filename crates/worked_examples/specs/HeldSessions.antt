-- Sessions in which a brain follows what it holds, worked out by hand: what it holds, what it is sent, and what it answers.
use Rattle.std.specs.Prelude.{◌≡◌, ℕ, true, false, List, [], ◌∷◌, ◌++◌, Some, codes}
use Rattle.game_rules.specs.Grid.{Grid}
use Rattle.game_rules.specs.declared.RuleKind.TheVariants.{Freestyle, Renju}
use Rattle.game_rules.specs.declared.Side.{Side}
use Rattle.game_rules.specs.declared.Side.TheVariants.{Black, White}
use Rattle.game_rules.specs.declared.Point.{Point}
use Rattle.strategy_graph.specs.declared.Reply.{Reply}
use Rattle.strategy_graph.specs.declared.Rest.TheVariants.{Wins, To}
use Rattle.strategy_graph.specs.declared.Node.{Node}
use Rattle.strategy_graph.specs.declared.roots.Root.TheVariants.{Attack, Defend}
use Rattle.strategy_graph.specs.Games.{Won, game}
use Rattle.strategy_checker.specs.HeldRoots.{HeldTable}
use Rattle.gomocup_text.specs.Commands.{commands}
use Rattle.gomocup_text.specs.declared.Command.{Command}
use Rattle.gomocup_text.specs.declared.Answer.{Answer}
use Rattle.brain_session.specs.declared.Reaction.TheVariants.{Says}
use Rattle.brain_session.specs.declared.batch.BatchStone.{BatchStone}
use Rattle.brain_session.specs.States.{Game, OwnWin, board_of, empty_board, point_at, new_brain}
use Rattle.brain_session.specs.Batches.{with_batch_stones}
use Rattle.brain_session.specs.Steps.{brain_step}
use Rattle.brain_session.specs.Sessions.{state_after}
use Rattle.brain_session.specs.HeldGames.{BeginsHeldGame, replies, answers_to_replies}
use Rattle.brain_session.specs.OwnGames.{BeginsOwnGame, win_game}

-- Some line of the input, after those of the commands before, begins a held game from this node. Its replies are these points, the
-- answers to it and to them are these, and the game is won with so many attacks.
pub record PlaysHeldGame (held : HeldTable) (input : List ℕ) (node : ℕ) (points : List Point) (said : List Answer) (attacks : ℕ) :
    Type 0 where
  pub before : List Command
  pub command : Command
  pub later : List Command
  pub game_there : Game
  pub lines : commands input ≡ before ++ command ∷ later
  pub begins : BeginsHeldGame (state_after (new_brain held) before) command game_there node
  pub replied : replies (brain_step (state_after (new_brain held) before) command).next later ≡ points
  pub first : Answer
  pub says : (brain_step (state_after (new_brain held) before) command).reaction ≡ Says first
  pub answered : first ∷ answers_to_replies (brain_step (state_after (new_brain held) before) command).next later ≡ said
  pub won : game game_there.rule held.table node (board_of game_there) points ≡ Won attacks

-- Some line of the input, after those of the commands before, begins a game by a win of the brain's own within so many moves. Its
-- replies are these points, the answers to it and to them are these, and the game is won with so many attacks.
pub record PlaysOwnGame (held : HeldTable) (input : List ℕ) (moves : ℕ) (points : List Point) (said : List Answer) (attacks : ℕ) :
    Type 0 where
  pub before : List Command
  pub command : Command
  pub later : List Command
  pub game_there : Game
  pub lines : commands input ≡ before ++ command ∷ later
  pub begins : BeginsOwnGame (state_after (new_brain held) before) command game_there moves
  pub replied : replies (brain_step (state_after (new_brain held) before) command).next later ≡ points
  pub first : Answer
  pub says : (brain_step (state_after (new_brain held) before) command).reaction ≡ Says first
  pub answered : first ∷ answers_to_replies (brain_step (state_after (new_brain held) before) command).next later ≡ said
  pub won : win_game game_there.rule moves (board_of game_there) points ≡ Won attacks

-- a stone of the brain
abbrev pub own : ℕ → ℕ → BatchStone
own x y = record { at = point_at x y; own = true }

-- a stone of its opponent
abbrev pub others : ℕ → ℕ → BatchStone
others x y = record { at = point_at x y; own = false }

-- the board of 15 by 15 with these stones, where this side is the brain's
abbrev pub board_with : Side → List BatchStone → Grid
board_with brain stones = with_batch_stones brain (empty_board 15 15) stones

-- a winning node
abbrev pub wins_at : Point → Node
wins_at p = record { attack = p; replies = []; rest = Wins }

-- a node that answers each reply that it does not list by node j
abbrev pub answers_by : Point → List Reply → ℕ → Node
answers_by p listed j = record { attack = p; replies = listed; rest = To j }

-- Renju. White, the brain, has three in the row, and Black stands at one end of it. White's 6,3 makes a four. The one point that
-- blocks it is 7,3, and there Black would make six in the column, a foul.
unfoldable pub overline_board : Grid
overline_board = board_with White
    (own 3 3 ∷ own 4 3 ∷ own 5 3 ∷ own 12 14 ∷ own 14 14 ∷ others 7 0 ∷ others 7 1 ∷ others 7 2 ∷ others 2 3 ∷ others 7 4 ∷ others 7 5 ∷ [])

-- the table that wins there: 6,3, and after any reply 7,3
abbrev pub overline_table : HeldTable
overline_table = record {
  table = wins_at (point_at 7 3) ∷ answers_by (point_at 6 3) [] 0 ∷ [];
  roots = record { root = Attack 1; kind = Renju; board = overline_board } ∷ [];
}

-- the position is sent, and the opponent plays elsewhere, and once more when the game is over
unfoldable pub elsewhere_input : List ℕ
elsewhere_input =
    codes "START 15\r\nINFO rule 4\r\nBOARD\r\n3,3,1\r\n4,3,1\r\n5,3,1\r\n12,14,1\r\n14,14,1\r\n7,0,2\r\n7,1,2\r\n7,2,2\r\n2,3,2\r\n7,4,2\r\n7,5,2\r\nDONE\r\nTURN 0,14\r\nTURN 1,14\r\nEND\r\n"

-- the same, where the opponent blocks
unfoldable pub block_input : List ℕ
block_input =
    codes "START 15\r\nINFO rule 4\r\nBOARD\r\n3,3,1\r\n4,3,1\r\n5,3,1\r\n12,14,1\r\n14,14,1\r\n7,0,2\r\n7,1,2\r\n7,2,2\r\n2,3,2\r\n7,4,2\r\n7,5,2\r\nDONE\r\nTURN 7,3\r\nTURN 1,14\r\nEND\r\n"

-- Freestyle. Black, the brain, has three in the row, open at both ends, and is to move.
unfoldable pub three_board : Grid
three_board = board_with Black (own 5 7 ∷ own 6 7 ∷ own 7 7 ∷ others 0 0 ∷ others 2 0 ∷ others 4 0 ∷ [])

-- the same with a fourth stone of Black, where White is to move
unfoldable pub four_board : Grid
four_board = board_with Black (own 4 7 ∷ own 5 7 ∷ own 6 7 ∷ own 7 7 ∷ others 0 0 ∷ others 2 0 ∷ others 4 0 ∷ [])

-- Two roots over one table: 4,7 with a five at either end after it; and the start after 4,7, at which White moves first.
abbrev pub two_roots : HeldTable
two_roots = record {
  table = wins_at (point_at 3 7) ∷ wins_at (point_at 8 7) ∷ answers_by (point_at 4 7) (record { at = point_at 3 7; next = 1 } ∷ []) 0 ∷ [];
  roots =
      record { root = Attack 2; kind = Freestyle; board = three_board }
      ∷ record {
        root = Defend (record { replies = record { at = point_at 8 7; next = 0 } ∷ []; rest = To 1 });
        kind = Freestyle;
        board = four_board;
      }
      ∷ [];
}

-- the start alone: with three in the row the brain finds the win itself
abbrev pub one_start : HeldTable
one_start = record {
  table = wins_at (point_at 8 7) ∷ wins_at (point_at 3 7) ∷ [];
  roots = record {
    root = Defend (record { replies = record { at = point_at 8 7; next = 1 } ∷ []; rest = To 0 });
    kind = Freestyle;
    board = four_board;
  } ∷ [];
}

-- the position with three is sent and played to its end; two moves are taken back, and the opponent plays another
unfoldable pub taken_back_input : List ℕ
taken_back_input =
    codes "START 15\r\nBOARD\r\n5,7,1\r\n6,7,1\r\n7,7,1\r\n0,0,2\r\n2,0,2\r\n4,0,2\r\nDONE\r\nTURN 0,14\r\nTAKEBACK 3,7\r\nTAKEBACK 0,14\r\nTURN 1,14\r\nEND\r\n"

-- the position with three is sent, and the opponent blocks the four that comes at its nearer end
unfoldable pub blocked_input : List ℕ
blocked_input = codes "START 15\r\nBOARD\r\n5,7,1\r\n6,7,1\r\n7,7,1\r\n0,0,2\r\n2,0,2\r\n4,0,2\r\nDONE\r\nTURN 3,7\r\nEND\r\n"

-- the same, where the opponent plays elsewhere
unfoldable pub passed_input : List ℕ
passed_input = codes "START 15\r\nBOARD\r\n5,7,1\r\n6,7,1\r\n7,7,1\r\n0,0,2\r\n2,0,2\r\n4,0,2\r\nDONE\r\nTURN 0,14\r\nEND\r\n"

-- the board with a fourth stone of Black, once the opponent has played elsewhere
unfoldable pub passed_board : Grid
passed_board =
    board_with Black (own 4 7 ∷ own 5 7 ∷ own 6 7 ∷ own 7 7 ∷ others 0 0 ∷ others 2 0 ∷ others 4 0 ∷ others 0 14 ∷ [])

-- one root, held at that board: 8,7 makes five, as 3,7 does
abbrev pub one_five : HeldTable
one_five = record {
  table = wins_at (point_at 8 7) ∷ [];
  roots = record { root = Attack 0; kind = Freestyle; board = passed_board } ∷ [];
}

-- the game to which these lines lead there, in which the brain follows the rest of its own win
abbrev pub passed_game : Game
passed_game = record {
  rule = Freestyle;
  start = three_board;
  moves = point_at 0 14 ∷ point_at 4 7 ∷ [];
  brain = Black;
  ended = false;
  followed = Some (OwnWin 2);
}
