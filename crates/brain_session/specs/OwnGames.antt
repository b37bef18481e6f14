-- The games in which the brain follows a win by continuous fours that it found itself: where one begins, and how it goes.
use Rattle.std.specs.Prelude.{◌≡◌, ℕ, ◌-◌, ◌≤◌, List, [], ◌∷◌, length, Option, Some, None}
use Rattle.game_rules.specs.Grid.{Grid}
use Rattle.game_rules.specs.Play.{outcome, after}
use Rattle.game_rules.specs.Games.{WinsByFours, four_move}
use Rattle.game_rules.specs.declared.RuleKind.{RuleKind}
use Rattle.game_rules.specs.declared.Point.{Point}
use Rattle.strategy_graph.specs.declared.Node.{Node}
use Rattle.strategy_graph.specs.Tables.{depth}
use Rattle.strategy_graph.specs.Games.{End, NoMove, Open, after_attack, after_reply, one_later, points_on, game, attacks}
use Rattle.strategy_compiler.specs.Walks.{IsTableOf, last}
use Rattle.strategy_checker.specs.HeldRoots.{HeldTable, IsHeld}
use Rattle.four_search.specs.Plans.{four_plan}
use Rattle.gomocup_text.specs.declared.Command.{Command}
use Rattle.gomocup_text.specs.declared.Answer.{Answer}
use Rattle.brain_session.specs.declared.TheConstants.{OWN_MOVES}
use Rattle.brain_session.specs.declared.Reaction.TheVariants.{Says}
use Rattle.brain_session.specs.States.{Game, board_of, State, new_brain}
use Rattle.brain_session.specs.ChosenMoves.{first_node, by_followed, own_win}
use Rattle.brain_session.specs.Steps.{Chooses, row_of, brain_step}
use Rattle.brain_session.specs.Sessions.{answers_from, state_after}
use Rattle.brain_session.specs.HeldGames.{replies, answers_to_replies, answers_by, turns, AreReplies, IsWonWithin}

-- The command begins a game by a win of the brain's own: the brain chooses its answer in the game g, it follows nothing there yet,
-- no held root leads to a node there, and m is the fewest moves of the win by fours that its short search finds there.
pub record BeginsOwnGame (s : State) (c : Command) (g : Game) (m : ℕ) : Type 0 where
  pub chooses : row_of s c ≡ Chooses g
  pub not_followed : by_followed s.held g ≡ None
  pub not_held : first_node g s.held.roots ≡ None
  pub found : own_win g.rule (board_of g) ≡ Some m

-- the end of a game at the chosen move, where that is the end if the game goes on after it
abbrev pub end_by : RuleKind → Grid → Option Point → (Point → End) → End
end_by rule b None end_after = NoMove
end_by rule b (Some p) end_after = after_attack (outcome rule b p) (end_after p)

-- the end of a game from b against these replies, in which each attack is the chosen move of the win by fours in the moves that are
-- left, n at b and one fewer after each
unfoldable pub win_game : RuleKind → ℕ → Grid → List Point → End
win_game rule n b [] = end_by rule b (four_move rule n b) (λ p. Open)
win_game rule n b (q ∷ qs) =
    end_by rule b (four_move rule n b) (λ p. after_reply (outcome rule (after b p) q)
    (one_later (win_game rule (n - 1) (after (after b p) q) qs)))

-- the chosen move, and the attacks after it where the game goes on
abbrev pub attacks_by : RuleKind → Grid → Option Point → (Point → List Point) → List Point
attacks_by rule b None later = []
attacks_by rule b (Some p) later = p ∷ points_on (outcome rule b p) (later p)

-- the attacks that are played in such a game
unfoldable pub win_attacks : RuleKind → ℕ → Grid → List Point → List Point
win_attacks rule n b [] = attacks_by rule b (four_move rule n b) (λ p. [])
win_attacks rule n b (q ∷ qs) =
    attacks_by rule b (four_move rule n b) (λ p. points_on (outcome rule (after b p) q) (win_attacks rule (n - 1) (after (after b p) q) qs))

-- the answers in such a game
abbrev pub win_answers : RuleKind → ℕ → Grid → List Point → List Answer
win_answers rule n b qs = answers_by rule b (win_attacks rule n b qs) qs

-- who answers by the table from its last node on plays the game of the win by fours within n moves from b, and the node is no deeper
pub record PlaysWin (rule : RuleKind) (n : ℕ) (b : Grid) (t : List Node) : Type 0 where
  pub plays : (qs : List Point) → attacks rule t (last t) b qs ≡ win_attacks rule n b qs
  pub ends : (qs : List Point) → game rule t (last t) b qs ≡ win_game rule n b qs
  pub no_deeper : depth t (last t) ≤ n

-- How a game by a win of the brain's own goes that the command c begins at the state s, where these commands come later: there is a
-- win by fours within m moves, which is few; the brain's answers are the attacks of the win against the replies, one for one, and
-- the game is won within m moves, or still open; and these are the attacks and the end of a game against the table of the win.
pub record OwnGameGoesWell (s : State) (c : Command) (later : List Command) (g : Game) (m : ℕ) : Type 0 where
  pub few : m ≤ OWN_MOVES
  pub wins : WinsByFours g.rule m (board_of g)
  pub first : Answer
  pub says : (brain_step s c).reaction ≡ Says first
  pub answers : first ∷ answers_to_replies (brain_step s c).next later
      ≡ win_answers g.rule m (board_of g) (replies (brain_step s c).next later)
  pub won : IsWonWithin m (length (replies (brain_step s c).next later))
      (win_game g.rule m (board_of g) (replies (brain_step s c).next later))
  pub table : (t : List Node) → IsTableOf (four_plan g.rule m (board_of g)) t → PlaysWin g.rule m (board_of g) t

-- Each game by a win of the brain's own goes well: whatever a brain that holds accepted roots was told before, and whatever it is
-- told later.
abbrev pub OwnGamesGoWell : Type 0
OwnGamesGoWell =
    (held : HeldTable) → IsHeld held → (before : List Command) (c : Command) (later : List Command) (g : Game) (m : ℕ)
    → BeginsOwnGame (state_after (new_brain held) before) c g m
    → OwnGameGoesWell (state_after (new_brain held) before) c later g m

-- Every list of legal replies that is sent to a brain in a game by a win of its own is answered by the attacks of the win against them.
abbrev pub OwnRepliesAreAnswered : Type 0
OwnRepliesAreAnswered =
    (held : HeldTable) → IsHeld held → (before : List Command) (c : Command) (g : Game) (m : ℕ) (qs : List Point)
    → BeginsOwnGame (state_after (new_brain held) before) c g m
    → AreReplies g.rule (board_of g) (win_attacks g.rule m (board_of g) qs) qs
    → answers_from (state_after (new_brain held) before) (c ∷ turns qs) ≡ win_answers g.rule m (board_of g) qs
