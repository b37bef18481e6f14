-- Which steps take no memory.
use Rattle.std.specs.Prelude.{Bool, true, false, ◌||◌, not, Option, Some, None, is_some, is_none}
use Rattle.gomocup_text.specs.declared.Command.{Command}
use Rattle.gomocup_text.specs.declared.Command.TheVariants.{Start, RectStart, Done, Begin, Turn}
use Rattle.strategy_checker.specs.HeldRoots.{HeldTable}
use Rattle.brain_session.specs.States.{Place, NoBoard, Fresh, InGame, Batch, State}
use Rattle.brain_session.specs.Batches.{colour_in}
use Rattle.brain_session.specs.ChosenMoves.{first_node}
use Rattle.brain_session.specs.Steps.{Row, Reacts, Chooses, rule_of, is_side, row_of}

-- whether something is followed in the place
abbrev pub is_following : Place → Bool
is_following NoBoard = false
is_following (Fresh width height) = false
is_following (InGame g) = is_some g.followed

-- whether the row is a reaction, or the brain is to choose a move where a held root applies
abbrev pub is_settled : HeldTable → Row → Bool
is_settled h (Reacts reaction next) = true
is_settled h (Chooses g) = is_some (first_node g h.roots)

-- whether the place is a game
abbrev pub is_game : Place → Bool
is_game NoBoard = false
is_game (Fresh width height) = false
is_game (InGame g) = true

-- whether a game may begin in the place: it has a board, and no game
abbrev pub is_fresh : Place → Bool
is_fresh NoBoard = false
is_fresh (Fresh width height) = true
is_fresh (InGame g) = false

-- whether there is no batch, or one from which no game begins whatever its position: a line of it was bad, or by the numbers of its
-- stones the brain is not to move
abbrev pub begins_none : Option Batch → Bool
begins_none None = true
begins_none (Some b) = b.bad || is_none (colour_in b.stones)

-- Whether the step takes no memory. START takes some, and a command that begins a game, but one that is refused before: for the size,
-- for want of a board or of a batch, for a batch that is bad, for a game that runs, for the wish, or as a line that has no place in a
-- batch. So does a TURN that the brain is to answer while it follows nothing and no held root applies. All others take none: RESTART
-- begins its board on the memory of the one before.
abbrev pub takes_none : State → Command → Bool
takes_none s (Start n) = not (is_side n)
takes_none s (RectStart width height) = not (is_side width) || not (is_side height)
takes_none s Done = begins_none s.batch || is_none (rule_of s.wish)
takes_none s Begin = is_some s.batch || not (is_fresh s.place) || is_none (rule_of s.wish)
takes_none s (Turn x y) = is_following s.place || is_settled s.held (row_of s (Turn x y))
takes_none s c = true
