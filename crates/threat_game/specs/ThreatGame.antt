-- The game of threats: its moves, and how many positions a search of it looks at.
use Rattle.std.specs.Prelude.{ℕ, zero, suc, ◌+◌, Bool, ◌&&◌, not, if◌then◌else◌, List, slice_index_or}
use Rattle.std.specs.List.{sum_by}
use Rattle.game_rules.specs.Grid.{Grid, points_of}
use Rattle.game_rules.specs.Play.{outcome, mover, after, other, goes_on_with}
use Rattle.game_rules.specs.Games.{LosesOr, WinsByThreats, has_five, has_threat, behind_replies}
use Rattle.game_rules.specs.declared.RuleKind.{RuleKind}
use Rattle.game_rules.specs.declared.Point.{Point}

-- a move of the game of threats: it goes on and leaves its side a five point or a double point
unfoldable pub is_threat_move : RuleKind → Grid → Point → Bool
is_threat_move rule b p = goes_on_with (outcome rule b p) (has_threat rule (after b p) (mover b))

-- such a move that leaves the other side no five point
abbrev pub is_safe_threat : RuleKind → Grid → Point → Bool
is_safe_threat rule b p = is_threat_move rule b p && not (has_five rule (after b p) (other (mover b)))

-- The positions of the game of threats within n moves, with the attacker to move: 1, and where the attacker has no five point
-- and n is 2 or more, those after each reply to each move that leaves the other side no five point.
unfoldable pub threat_tree : RuleKind → ℕ → Grid → ℕ
threat_tree rule zero b = 1
threat_tree rule (suc zero) b = 1
threat_tree rule (suc (suc n)) b =
    if has_five rule b (mover b) then 1
    else 1 + sum_by (λ p. if is_safe_threat rule b p then behind_replies rule (threat_tree rule (suc n)) (after b p) else 0) (points_of b)

-- whatever the reply, it is no move, fouls, or leads to a win by threats within so many moves
abbrev pub LosesToThreats : RuleKind → ℕ → Grid → Type 0
LosesToThreats rule n c = (q : Point) → LosesOr (outcome rule c q) (WinsByThreats rule n (after c q))

-- what a read past the end of a list of moves gives
abbrev pub nowhere : Point
nowhere = record { x = 0; y = 0 }

-- the move that leads to node i
abbrev pub move_at : List Point → ℕ → Point
move_at moves i = slice_index_or moves i nowhere
