-- Won games: forced wins, wins by continuous fours, wins by threats, and the double points of the latter.
use Rattle.std.specs.Prelude.{ℕ, zero, suc, Bool, true, false, ◌&&◌, ◌||◌, not, nat_le, if◌then◌else◌, IsTrue, List, length, Option, None}
use Rattle.std.specs.Prelude.{is_none}
use Rattle.std.specs.List.{list_any, list_all, filter, find, sum_by}
use Rattle.game_rules.specs.Grid.{Grid, is_empty, put, points_of}
use Rattle.game_rules.specs.Shapes.{five}
use Rattle.game_rules.specs.Play.{outcome, foul_of, mover, after}
use Rattle.game_rules.specs.declared.RuleKind.{RuleKind}
use Rattle.game_rules.specs.declared.Side.{Side}
use Rattle.game_rules.specs.declared.Outcome.{Outcome}
use Rattle.game_rules.specs.declared.Outcome.TheVariants.{Refused, Wins, Fouls, GoesOn}
use Rattle.game_rules.specs.declared.Point.{Point}

-- what the attacker needs of a move with this outcome: it wins, or the game goes on and W holds
abbrev pub WinsOr : Outcome → Type 0 → Type 0
WinsOr Wins W = Unit {0}
WinsOr GoesOn W = W
WinsOr o W = ⊥

-- what the attacker needs of a reply with this outcome: it is no move, it fouls, or the game goes on and W holds
abbrev pub LosesOr : Outcome → Type 0 → Type 0
LosesOr Refused W = Unit {0}
LosesOr (Fouls f) W = Unit {0}
LosesOr GoesOn W = W
LosesOr o W = ⊥

-- The side to move wins within n moves of its own, whatever the replies: some move wins, or it goes on, leaves a board
-- that meets the demand of its side, and each reply is no move, fouls, or leads to a win within n - 1 moves. Within 0
-- moves nobody wins.
abbrev pub WinsUnder : (Grid → Side → Bool) → RuleKind → ℕ → Grid → Type 0
WinsUnder demand rule zero b = ⊥
WinsUnder demand rule (suc n) b = (p : Point) × WinsOr (outcome rule b p)
    (IsTrue (demand (after b p) (mover b))
    × ((q : Point) → LosesOr (outcome rule (after b p) q) (WinsUnder demand rule n (after (after b p) q))))

-- the side has a five point
abbrev pub has_five : RuleKind → Grid → Side → Bool
has_five rule b s = list_any (five rule b s) (points_of b)

-- the five points of the side, in reading order
abbrev pub five_points : RuleKind → Grid → Side → List Point
five_points rule b s = filter (five rule b s) (points_of b)

-- a double point of the side: an empty point where its stone neither wins nor fouls, and after which it has two five
-- points or more
unfoldable pub is_double_point : RuleKind → Grid → Side → Point → Bool
is_double_point rule b s p =
    is_empty b p && not (five rule b s p) && is_none (foul_of rule b s p) && nat_le 2 (length (five_points rule (put b s p) s))

-- the side has a five point or a double point
abbrev pub has_threat : RuleKind → Grid → Side → Bool
has_threat rule b s = has_five rule b s || list_any (is_double_point rule b s) (points_of b)

-- the side to move wins within n moves of its own, whatever the replies
abbrev pub WinsWithin : RuleKind → ℕ → Grid → Type 0
WinsWithin rule n b = WinsUnder (λ c s. true) rule n b

-- the same by continuous fours: each move that goes on leaves the attacker a five point
abbrev pub WinsByFours : RuleKind → ℕ → Grid → Type 0
WinsByFours rule n b = WinsUnder (has_five rule) rule n b

-- the same by threats: each move that goes on leaves the attacker a five point or a double point
abbrev pub WinsByThreats : RuleKind → ℕ → Grid → Type 0
WinsByThreats rule n b = WinsUnder (has_threat rule) rule n b

-- the other side wins within n moves, whatever the side to move plays first; asked of a lawful position
abbrev pub WinsAfter : RuleKind → ℕ → Grid → Type 0
WinsAfter rule n b = (q : Point) → LosesOr (outcome rule b q) (WinsWithin rule n (after b q))

-- the test of WinsOr
abbrev pub wins_or : Outcome → Bool → Bool
wins_or Wins w = true
wins_or GoesOn w = w
wins_or o w = false

-- the test of LosesOr
abbrev pub loses_or : Outcome → Bool → Bool
loses_or Refused w = true
loses_or (Fouls f) w = true
loses_or GoesOn w = w
loses_or o w = false

-- whether the move p wins, or goes on, meets the demand, and each reply is no move, fouls, or leads to a board that next
-- says is won
abbrev pub starts_win : (Grid → Side → Bool) → RuleKind → Grid → (Grid → Bool) → Point → Bool
starts_win demand rule b next p =
    wins_or (outcome rule b p)
    (demand (after b p) (mover b) && list_all (λ q. loses_or (outcome rule (after b p) q) (next (after (after b p) q))) (points_of b))

-- the test of WinsUnder: some point of the board starts a win
unfoldable pub wins_under : (Grid → Side → Bool) → RuleKind → ℕ → Grid → Bool
wins_under demand rule zero b = false
wins_under demand rule (suc n) b = list_any (starts_win demand rule b (wins_under demand rule n)) (points_of b)

-- the test of WinsByFours
abbrev pub wins_by_fours : RuleKind → ℕ → Grid → Bool
wins_by_fours rule n b = wins_under (has_five rule) rule n b

-- the test of WinsByThreats
abbrev pub wins_by_threats : RuleKind → ℕ → Grid → Bool
wins_by_threats rule n b = wins_under (has_threat rule) rule n b

-- the chosen move of a win by fours: the least five point of the attacker where it has one, and else the least point
-- that starts a win by fours within n moves; none where there is no such win
unfoldable pub four_move : RuleKind → ℕ → Grid → Option Point
four_move rule zero b = None
four_move rule (suc n) b =
    if has_five rule b (mover b) then find (five rule b (mover b)) (points_of b)
    else find (starts_win (has_five rule) rule b (wins_by_fours rule n)) (points_of b)

-- n where the game goes on, and else 0
abbrev pub if_goes_on : Outcome → ℕ → ℕ
if_goes_on GoesOn n = n
if_goes_on o n = 0

-- the sum of the counts at the boards after each reply at c that goes on
abbrev pub behind_replies : RuleKind → (Grid → ℕ) → Grid → ℕ
behind_replies rule count c = sum_by (λ q. if_goes_on (outcome rule c q) (count (after c q))) (points_of c)
