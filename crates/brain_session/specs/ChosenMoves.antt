-- The move that the brain chooses where it is to move: the first of seven rules that applies.
use Rattle.std.specs.Prelude.{ℕ, ◌+◌, ◌-◌, ◌*◌, max, Bool, false, true, ◌&&◌, not, ◌==◌, nat_le, if◌then◌else◌, List, [], ◌∷◌, Option, Some}
use Rattle.std.specs.Prelude.{None, slice_get, unwrap_or}
use Rattle.std.specs.List.{filter, find, list_all}
use Rattle.std.specs.Option.{option_map, option_and_then, option_or}
use lib.Pointwise.{pointwise}
use Rattle.game_rules.specs.Grid.{Grid, is_empty, points_of, is_empty_cell, is_stone_of}
use Rattle.game_rules.specs.Shapes.{five}
use Rattle.game_rules.specs.Play.{outcome, mover, other, is_foul}
use Rattle.game_rules.specs.Games.{four_move}
use Rattle.game_rules.specs.declared.RuleKind.{RuleKind}
use Rattle.game_rules.specs.declared.RuleKind.TheVariants.{Freestyle, Exact, Renju}
use Rattle.game_rules.specs.declared.Cell.{Cell}
use Rattle.game_rules.specs.declared.Cell.TheVariants.{Empty, Black as BlackStone, White as WhiteStone}
use Rattle.game_rules.specs.declared.Side.TheVariants.{Black, White}
use Rattle.game_rules.specs.declared.Point.{Point}
use Rattle.strategy_graph.specs.declared.roots.Root.{Root}
use Rattle.strategy_graph.specs.declared.roots.Root.TheVariants.{Attack, Defend}
use Rattle.strategy_graph.specs.Tables.{Answers, answer, answer_at}
use Rattle.strategy_checker.specs.declared.held.HeldRoot.{HeldRoot}
use Rattle.strategy_checker.specs.HeldRoots.{HeldTable}
use Rattle.four_search.specs.FourGame.{four_cost, least_moves}
use Rattle.brain_session.specs.declared.TheConstants.{OWN_MOVES, OWN_POSITIONS}
use Rattle.brain_session.specs.States.{Followed, HeldNode, OwnWin, Game, board_after, board_of}

-- a move of the brain, and what it follows with it, if anything
pub record Choice : Type 0 where
  pub at : Point
  pub followed : Option Followed

-- what the option has, and where it has nothing the other
abbrev pub or_else : {X : Type 0} → Option X → (Unit {0} → X) → X
or_else (Some x) other = x
or_else None other = other tt

-- Rule 1: what is followed goes on.

-- what is followed after the reply q: at a node of the held table its answer to q, if it has one, and in the brain's own win
-- the win with one move fewer
abbrev pub followed_after : HeldTable → Followed → Point → Option Followed
followed_after h (HeldNode i) q = option_map (λ j. HeldNode j) (answer_at h.table i q)
followed_after h (OwnWin moves) q = Some (OwnWin (moves - 1))

-- the move at b by what is followed: the attack of the node, or the chosen move of the win by fours
abbrev pub move_by : HeldTable → RuleKind → Grid → Followed → Option Point
move_by h rule b (HeldNode i) = option_map (λ n. n.attack) (slice_get h.table i)
move_by h rule b (OwnWin moves) = four_move rule moves b

-- the choice to follow this in the game
abbrev pub by_following : HeldTable → Game → Followed → Option Choice
by_following h g f = option_map (λ p. record { at = p; followed = Some f }) (move_by h g.rule (board_of g) f)

-- the last of the moves, if there is one
abbrev pub last_move : List Point → Option Point
last_move [] = None
last_move (p ∷ before) = Some p

-- what is followed after the last move of the game, if anything was and goes on
abbrev pub followed_on : HeldTable → Game → Option Followed
followed_on h g = option_and_then (λ f. option_and_then (followed_after h f) (last_move g.moves)) g.followed

-- rule 1: what was followed before the opponent's move is followed after it
abbrev pub by_followed : HeldTable → Game → Option Choice
by_followed h g = option_and_then (by_following h g) (followed_on h g)

-- Rule 2: a held root that applies is followed.

-- whether two rules are one
abbrev pub same_rule : RuleKind → RuleKind → Bool
same_rule Freestyle Freestyle = true
same_rule Exact Exact = true
same_rule Renju Renju = true
same_rule _ _ = false

-- whether two cells hold the same
abbrev pub same_cell : Cell → Cell → Bool
same_cell Empty c = is_empty_cell c
same_cell BlackStone c = is_stone_of Black c
same_cell WhiteStone c = is_stone_of White c

-- whether two boards have the same width, height and cells
abbrev pub same_board : Grid → Grid → Bool
same_board b c = b.width == c.width && b.height == c.height && pointwise same_cell b.cells c.cells

-- the answer of a start that is held at b to the last of these moves, if they are from b on
abbrev pub start_answer : Answers → Grid → Grid → List Point → Option ℕ
start_answer a b start [] = None
start_answer a b start (q ∷ before) = if same_board b (board_after start before) then answer a q else None

-- the node to which a root that is held at b leads in the game: that of the root where the game is at b, or, where the opponent's
-- last move was made at b, the answer of the start to it
abbrev pub node_at : Root → Grid → Game → Option ℕ
node_at (Attack i) b g = if same_board b (board_of g) then Some i else None
node_at (Defend a) b g = start_answer a b g.start g.moves

-- the node to which a held root leads in the game, if it is held under the rule of the game
abbrev pub root_node : Game → HeldRoot → Option ℕ
root_node g r = if same_rule r.kind g.rule then node_at r.root r.board g else None

-- the node to which the first of the roots leads that leads to one
abbrev pub first_node : Game → List HeldRoot → Option ℕ
first_node g [] = None
first_node g (r ∷ rs) = option_or (root_node g r) (first_node g rs)

-- rule 2: the node to which the first held root leads is followed
abbrev pub by_held : HeldTable → Game → Option Choice
by_held h g = option_and_then (λ i. by_following h g (HeldNode i)) (first_node g h.roots)

-- Rule 3: a win by continuous fours that a short search finds is followed.

-- the least number of moves within which the side to move wins by fours, where there is such a win within OWN_MOVES moves and a
-- search of it looks at no more than OWN_POSITIONS positions
abbrev pub own_win : RuleKind → Grid → Option ℕ
own_win rule b = if nat_le (four_cost rule OWN_MOVES b) OWN_POSITIONS then least_moves rule OWN_MOVES b else None

-- rule 3: such a win is followed
abbrev pub by_own_win : HeldTable → Game → Option Choice
by_own_win h g = option_and_then (λ moves. by_following h g (OwnWin moves)) (own_win g.rule (board_of g))

-- Rules 4 to 7: a plain move, with which nothing is followed.

-- rule 4: the least five point of the side to move. Where rules 1 to 3 are asked before it, it never applies: a five point is
-- a win by fours within one move.
abbrev pub five_to_make : RuleKind → Grid → Option Point
five_to_make rule b = find (five rule b (mover b)) (points_of b)

-- rule 5: the least five point of the other side at which the side to move makes no foul
abbrev pub five_to_block : RuleKind → Grid → Option Point
five_to_block rule b = find (λ p. five rule b (other (mover b)) p && not (is_foul (outcome rule b p))) (points_of b)

-- how far apart two numbers are
abbrev pub apart : ℕ → ℕ → ℕ
apart m n = (m - n) + (n - m)

-- twice the distance of the point from the middle of the board, along the row or the column, whichever is more
abbrev pub off_middle : Grid → Point → ℕ
off_middle b p = max (apart (2 * p.x) (b.width - 1)) (apart (2 * p.y) (b.height - 1))

-- the first of the points to which none is nearer to the middle
abbrev pub most_central : Grid → List Point → Option Point
most_central b ps = find (λ p. list_all (λ q. nat_le (off_middle b p) (off_middle b q)) ps) ps

-- rule 6: of the empty points at which the side to move makes no foul, the least of those next to the middle
abbrev pub next_to_middle : RuleKind → Grid → Option Point
next_to_middle rule b = most_central b (filter (λ p. is_empty b p && not (is_foul (outcome rule b p))) (points_of b))

-- rule 7: the least empty point; a board with none, which is no position, is told the first point
abbrev pub least_empty : Grid → Point
least_empty b = unwrap_or (find (is_empty b) (points_of b)) (record { x = 0; y = 0 })

-- rules 4 to 7, in their order
abbrev pub plain_move : RuleKind → Grid → Point
plain_move rule b =
    or_else (five_to_make rule b) (λ _. or_else (five_to_block rule b) (λ _. or_else (next_to_middle rule b) (λ _. least_empty b)))

-- the choice of a plain move
abbrev pub by_plain_move : Game → Choice
by_plain_move g = record { at = plain_move g.rule (board_of g); followed = None }

-- the choice where nothing is followed yet: by rule 2, by rule 3, or by rules 4 to 7
unfoldable pub chosen_anew : HeldTable → Game → Choice
chosen_anew h g = or_else (by_held h g) (λ _. or_else (by_own_win h g) (λ _. by_plain_move g))

-- the chosen move in a game in which the brain is to move
unfoldable pub chosen : HeldTable → Game → Choice
chosen h g = or_else (by_followed h g) (λ _. chosen_anew h g)
