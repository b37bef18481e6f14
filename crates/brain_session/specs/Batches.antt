-- Positions that are sent stone by stone.
use Rattle.std.specs.Prelude.{ℕ, ◌+◌, Bool, true, false, ◌&&◌, ◌||◌, not, ◌==◌, if◌then◌else◌, List, [], ◌∷◌, ◌++◌, Option, Some, None}
use Rattle.std.specs.Prelude.{is_none}
use Rattle.std.specs.List.{fold, list_any, count_by}
use Rattle.std.specs.Option.{option_and_then}
use Rattle.game_rules.specs.Grid.{Grid, put}
use Rattle.game_rules.specs.Shapes.{is_same_point}
use Rattle.game_rules.specs.Play.{other}
use Rattle.game_rules.specs.declared.RuleKind.{RuleKind}
use Rattle.game_rules.specs.declared.Side.{Side}
use Rattle.game_rules.specs.declared.Side.TheVariants.{Black, White}
use Rattle.game_rules.specs.declared.Point.{Point}
use Rattle.foul_judge.specs.Lawful.{refusal}
use Rattle.brain_session.specs.declared.batch.BatchStone.{BatchStone}
use Rattle.brain_session.specs.States.{Game, Batch, new_game}

-- a batch with no stones
abbrev pub new_batch : Batch
new_batch = record { stones = []; bad = false }

-- the batch, of which a line was bad
abbrev pub spoiled : Batch → Batch
spoiled b = record b { bad = true }

-- whether one of the stones is on the point
abbrev pub has_stone_at : List BatchStone → Point → Bool
has_stone_at stones p = list_any (λ s. is_same_point s.at p) stones

-- the batch after a line X,Y,FIELD, where on tells whether X,Y is on the board: the field is 1 for a stone of the brain and 2 for
-- one of the opponent; a point off the board, another field and a point that has a stone make the batch bad
abbrev pub with_batch_stone : Bool → Batch → Point → ℕ → Batch
with_batch_stone on b p field =
    if on && (field == 1 || field == 2) && not (has_stone_at b.stones p) then record b
    { stones = b.stones ++ record { at = p; own = field == 1 } ∷ [] }
    else spoiled b

-- the same where the point is told only if it is on the board
abbrev pub with_stone_at : Batch → Option Point → ℕ → Batch
with_stone_at b None field = spoiled b
with_stone_at b (Some p) field = with_batch_stone true b p field

-- the brain's colour by the numbers of its stones and the opponent's: Black where they are equal, White where the opponent has
-- one more, and else the position is none in which the brain is to move
abbrev pub colour_by : ℕ → ℕ → Option Side
colour_by own others = if own == others then Some Black else if others == own + 1 then Some White else None

-- the brain's colour in a batch of these stones
abbrev pub colour_in : List BatchStone → Option Side
colour_in stones = colour_by (count_by (λ s. s.own) stones) (count_by (λ s. not s.own) stones)

-- the side of a stone, where this side is the brain's
abbrev pub side_of : Side → BatchStone → Side
side_of brain s = if s.own then brain else other brain

-- the board with these stones put on it
abbrev pub with_batch_stones : Side → Grid → List BatchStone → Grid
with_batch_stones brain b stones = fold (λ c s. put c (side_of brain s) s.at) b stones

-- the game from this position, if it is lawful
abbrev pub lawful_game : RuleKind → Grid → Side → Option Game
lawful_game rule start brain = if is_none (refusal rule start) then Some (new_game rule start brain) else None

-- the game from the position of the batch on a board that is empty, if no line of the batch was bad and the position is lawful,
-- with the brain to move
abbrev pub game_from : RuleKind → Grid → Batch → Option Game
game_from rule empty b =
    if b.bad then None
    else option_and_then (λ brain. lawful_game rule (with_batch_stones brain empty b.stones) brain) (colour_in b.stones)
