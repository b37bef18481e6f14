-- How the state is kept: what a board with its moves, a game in play and a guide mean.
use Rattle.brain_session.specs.Running.{IsRunning}
use Rattle.std.specs.Prelude.{◌≡◌, ℕ, ◌+◌, ◌-◌, ◌*◌, ◌<◌, ◌≤◌, Bool, true, false, List, [], ◌∷◌, length, Option, Some, None, IfSome}
use Rattle.std.specs.Prelude.{MatchOption, is_none, is_some, ◌&&◌, if◌then◌else◌, IsSomeAnd}
use Rattle.std.specs.Option.{option_map}
use Rattle.game_rules.specs.Grid.{Grid, IsBoard, is_on, is_empty, empties_of}
use Rattle.game_rules.specs.Shapes.{is_same_point}
use Rattle.game_rules.specs.Play.{outcome, after, mover}
use Rattle.game_rules.specs.Games.{LosesOr, wins_by_fours}
use Rattle.game_rules.specs.declared.RuleKind.{RuleKind}
use Rattle.game_rules.specs.declared.Point.{Point}
use Rattle.strategy_graph.specs.declared.Node.{Node}
use Rattle.strategy_graph.specs.Tables.{IsTable, answer_at}
use Rattle.strategy_graph.specs.Acceptance.{Accepted}
use Rattle.strategy_compiler.specs.Trees.{StandsFor}
use Rattle.strategy_compiler.specs.Walks.{IsTableOf, last}
use Rattle.strategy_checker.specs.HeldRoots.{HeldTable}
use Rattle.four_search.specs.declared.fewest.FourTable.{FourTable}
use Rattle.four_search.specs.Plans.{four_plan}
use Rattle.brain_session.specs.declared.guide.Guide.{Guide}
use Rattle.brain_session.specs.declared.guide.Guide.TheVariants.{HeldNode as HeldGuide, OwnWin as OwnGuide}
use Rattle.brain_session.specs.declared.game.SessionGame.{SessionGame}
use Rattle.brain_session.specs.declared.choice.ChosenMove.{ChosenMove}
use Rattle.brain_session.specs.States.{Followed, HeldNode, OwnWin, Game, board_after, board_of, empty_board, Place, NoBoard, Fresh, InGame}
use Rattle.brain_session.specs.States.{State}
use Rattle.gomocup_text.specs.declared.Command.{Command}
use Rattle.gomocup_text.specs.declared.Command.TheVariants.{Begin, Turn, Takeback, Malformed, Unknown}
use Rattle.gomocup_text.specs.declared.Answer.TheVariants.{Move}
use Rattle.gomocup_text.specs.declared.ErrorText.{ErrorText}
use Rattle.gomocup_text.specs.declared.ErrorText.TheVariants.{NoBoard as NoBoardText, UnsupportedRule, GameOver, WrongTurn}
use Rattle.brain_session.specs.declared.Reaction.{Reaction}
use Rattle.brain_session.specs.declared.Reaction.TheVariants.{Says}
use Rattle.brain_session.specs.ChosenMoves.{Choice, chosen, last_move, own_win}
use Rattle.brain_session.specs.Steps.{Row, Reacts, Chooses, rule_of, same_side, step_by, with_choice}

-- a board from which a game began, and the moves since, the last one first
pub record Moves : Type 0 where
  pub start : Grid
  pub moves : List Point

-- each of these moves took an empty point
abbrev pub TookEmpty : Grid → List Point → Type 0
TookEmpty start [] = Unit {0}
TookEmpty start (p ∷ before) = TookEmpty start before × (is_empty (board_after start before) p ≡ true)

-- What a board keeps beside its meaning: the board now is that after the moves, the moves took an empty point each, and there
-- is room for a move on each point.
pub record IsKept (m : Moves) (board : Grid) (made room : ℕ) : Type 0 where
  pub start_board : IsBoard m.start
  pub now : board ≡ board_after m.start m.moves
  pub took_empty : TookEmpty m.start m.moves
  pub taken : made + empties_of board ≡ empties_of m.start
  pub room_for_all : m.start.width * m.start.height ≤ room

-- the moves without the last
abbrev pub without_last : List Point → List Point
without_last [] = []
without_last (p ∷ before) = before

-- what a guide follows
abbrev pub followed_of : Guide → Followed
followed_of (HeldGuide node) = HeldNode node
followed_of (OwnGuide own) = OwnWin own.moves

-- the game that is in play with these moves
abbrev pub game_of : Moves → SessionGame → Game
game_of m c = record {
  rule = c.kind;
  start = m.start;
  moves = m.moves;
  brain = c.brain;
  ended = c.ended;
  followed = option_map followed_of c.guide;
}

-- the place where a board with these moves has this game, or none yet
abbrev pub place_of : Moves → Option SessionGame → Place
place_of m None = Fresh m.start.width m.start.height
place_of m (Some c) = InGame (game_of m c)

-- the place of the session's board, if there is one
abbrev pub place_in : Option Place → Place
place_in None = NoBoard
place_in (Some place) = place

-- A table of the brain's own goes on at b, where the opponent is to move: each move there is none, fouls, or goes on to a board
-- where the answer of the node to it stands for the plan of the win that is left, and is accepted.
pub record OwnGoesOn (rule : RuleKind) (b : Grid) (own : FourTable) : Type 0 where
  pub moves_left : 1 ≤ own.moves
  pub in_table : own.node < length own.table
  pub answers : (q : Point) → LosesOr (outcome rule b q) (IsSomeAnd (answer_at own.table own.node q)
      (λ j. StandsFor own.table j (four_plan rule (own.moves - 1) (after b q)) × Accepted rule own.table j (after b q)))

-- the guide goes on at b, if it is a table of the brain's own
abbrev pub GuidesAt : RuleKind → Grid → Guide → Type 0
GuidesAt rule b (HeldGuide node) = Unit {0}
GuidesAt rule b (OwnGuide own) = OwnGoesOn rule b own

-- the guide, if there is one, goes on where the game is not ended
abbrev pub GuidesOn : Bool → RuleKind → Grid → Option Guide → Type 0
GuidesOn true rule b guide = Unit {0}
GuidesOn false rule b guide = IfSome guide (GuidesAt rule b)

-- where no game has begun there are no moves, and no stone is on the board
pub record IsUntouched (m : Moves) : Type 0 where
  pub unmoved : m.moves ≡ []
  pub bare : m.start ≡ empty_board m.start.width m.start.height

-- a board with these moves and this game, or none yet
abbrev pub IsSessionBoard : Moves → Option SessionGame → Type 0
IsSessionBoard m None = IsUntouched m
IsSessionBoard m (Some c) = IsBoard m.start × GuidesOn c.ended c.kind (board_after m.start m.moves) c.guide

-- a table of the brain's own with its node at b: the node stands for the plan of the win, and is accepted
pub record OwnStandsAt (rule : RuleKind) (b : Grid) (own : FourTable) : Type 0 where
  pub in_table : own.node < length own.table
  pub wins : wins_by_fours rule own.moves b ≡ true
  pub stands : StandsFor own.table own.node (four_plan rule own.moves b)
  pub accepted : Accepted rule own.table own.node b

-- the guide names a node of its table that is accepted at b; in a table of the brain's own it stands for the plan of the win
abbrev pub NodeStandsAt : HeldTable → RuleKind → Grid → Guide → Type 0
NodeStandsAt h rule b (HeldGuide node) = (node < length h.table) × Accepted rule h.table node b
NodeStandsAt h rule b (OwnGuide own) = OwnStandsAt rule b own

-- the nodes of the table in which the guide's node is
abbrev pub nodes_of : HeldTable → Guide → List Node
nodes_of h (HeldGuide node) = h.table
nodes_of h (OwnGuide own) = own.table

-- the guide is a node that is accepted at b, where its attack is to be played
pub record StandsAt (h : HeldTable) (rule : RuleKind) (b : Grid) (guide : Guide) : Type 0 where
  pub table : IsTable (nodes_of h guide)
  pub node : NodeStandsAt h rule b guide

-- the guide after the reply q, if its node answers it
abbrev pub guide_after : HeldTable → Guide → Point → Option Guide
guide_after h (HeldGuide node) q = option_map (λ j. HeldGuide j) (answer_at h.table node q)
guide_after h (OwnGuide own) q = option_map (λ j. OwnGuide (record own { node = j; moves = own.moves - 1 }))
    (answer_at own.table own.node q)

-- the guide, if there is one, names a node of its table
abbrev pub IsInTable : HeldTable → Guide → Type 0
IsInTable h (HeldGuide node) = node < length h.table
IsInTable h (OwnGuide own) = (own.node < length own.table) × (1 ≤ own.moves)

-- the choice of a chosen move
abbrev pub choice_of : ChosenMove → Choice
choice_of c = record { at = c.at; followed = option_map followed_of c.guide }

-- The table of the brain's own win at b: it is the table of the plan of the win, and its last node, which is followed, is
-- accepted.
pub record IsOwnTable (rule : RuleKind) (b : Grid) (own : FourTable) : Type 0 where
  pub fewest : own_win rule b ≡ Some own.moves
  pub plan : IsTableOf (four_plan rule own.moves b) own.table
  pub last_node : own.node ≡ last own.table
  pub accepted : Accepted rule own.table own.node b

-- a table is found exactly where there is such a win
abbrev pub IsFound : RuleKind → Grid → Option FourTable → Type 0
IsFound rule b None = own_win rule b ≡ None
IsFound rule b (Some own) = IsOwnTable rule b own

-- what was followed goes on at b after the reply q: its node answers q, and there the guide is a node with the plan of b
pub record GoesOnAfter (h : HeldTable) (rule : RuleKind) (b : Grid) (guide : Guide) (q : Point) : Type 0 where
  pub in_table : IsInTable h guide
  pub answers : MatchOption (guide_after h guide q) ⊥ (NodeStandsAt h rule b)

-- what the game follows, if anything, goes on at b after the last of these moves, if there is one
abbrev pub IsReady : HeldTable → Moves → SessionGame → Type 0
IsReady h m c = IfSome c.guide (λ guide. IfSome (last_move m.moves) (GoesOnAfter h c.kind (board_after m.start m.moves) guide))

-- the game in play with these moves runs, and the guide goes on, if it is a table of the brain's own
pub record IsKeptUp (h : HeldTable) (m : Moves) (c : SessionGame) : Type 0 where
  pub running : IsRunning h (game_of m c)
  pub guided : GuidesOn c.ended c.kind (board_after m.start m.moves) c.guide

-- a state that holds this and is in this place, where no batch is read
abbrev pub in_place : HeldTable → Place → State
in_place h place = record { wish = 0; held = h; place = place; batch = None }

-- the reaction of a row, and the place after it, which is this one where the brain makes its chosen move
abbrev pub IsRow : HeldTable → Row → Reaction → Place → Type 0
IsRow h (Reacts reaction next) r place = (r ≡ reaction) × (place ≡ next.place)
IsRow h (Chooses g) r place = (r ≡ Says (Move (chosen h g).at)) × (place ≡ InGame (with_choice g (chosen h g)))

-- a state that holds this, is in this place, has this rule by its wish, and reads no batch
pub record IsStateOf (h : HeldTable) (place : Place) (rule : Option RuleKind) (s : State) : Type 0 where
  pub held_is : s.held ≡ h
  pub place_is : s.place ≡ place
  pub rule_is : rule_of s.wish ≡ rule
  pub unread : s.batch ≡ None

-- the point p, told only if it is on the board
abbrev pub IsPointOn : Grid → Point → Option Point → Type 0
IsPointOn b p None = is_on b p ≡ false
IsPointOn b p (Some q) = (is_on b p ≡ true) × (q ≡ p)

-- a place and a reaction, if the game of a batch began: the brain made its chosen move in it
abbrev pub IsBegun : HeldTable → Option Game → Option (Place × Reaction) → Type 0
IsBegun h None None = Unit {0}
IsBegun h None (Some made) = ⊥
IsBegun h (Some g) None = ⊥
IsBegun h (Some g) (Some made) = IsRow h (Chooses g) made.1 made.0

-- the step of this row was taken from a state: this was the reaction, and this is the state now
abbrev pub Takes : Row → State → Reaction → State → Type 0
Takes row old r new = step_by old row ≡ record { reaction = r; next = new }

-- whether the command has no place in a batch
abbrev pub has_no_place_in_batch : Command → Bool
has_no_place_in_batch Begin = true
has_no_place_in_batch (Turn x y) = true
has_no_place_in_batch (Takeback x y) = true
has_no_place_in_batch Malformed = true
has_no_place_in_batch Unknown = true
has_no_place_in_batch _ = false

-- whether a batch is read in which the command has no place
abbrev pub is_spoiled : State → Command → Bool
is_spoiled s c = is_some s.batch && has_no_place_in_batch c

-- the width and the height of the board in this place, if there is one
abbrev pub size_in : Place → Option (ℕ × ℕ)
size_in NoBoard = None
size_in (Fresh width height) = Some (width, height)
size_in (InGame g) = Some (g.start.width, g.start.height)

-- what is held, or a table with no nodes and no roots
abbrev pub held_or_none : Option HeldTable → HeldTable
held_or_none None = record { table = []; roots = [] }
held_or_none (Some h) = h

-- why no TURN may come in this place, with this rule by the wish, if none may
abbrev pub turn_refusal : Place → Option RuleKind → Option ErrorText
turn_refusal NoBoard rule = Some NoBoardText
turn_refusal (Fresh width height) rule = if is_none rule then Some UnsupportedRule else None
turn_refusal (InGame g) rule =
    if g.ended then Some GameOver
    else if same_side (mover (board_of g)) g.brain then Some WrongTurn
    else if is_none rule then Some UnsupportedRule else None

-- whether there are both points, and they are one
abbrev pub are_one : Option Point → Option Point → Bool
are_one None o = false
are_one (Some p) None = false
are_one (Some p) (Some q) = is_same_point p q
