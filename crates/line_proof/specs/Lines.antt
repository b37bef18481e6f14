-- Wins along a list of threats, and how many positions a proof of one looks at.
use Rattle.std.specs.Prelude.{ℕ, zero, suc, ◌+◌, min, Bool, true, false, if◌then◌else◌, List, [], ◌∷◌, Option, Some, None}
use Rattle.std.specs.List.{list_all, find}
use Rattle.game_rules.specs.Grid.{Grid, points_of}
use Rattle.game_rules.specs.Shapes.{five}
use Rattle.game_rules.specs.Play.{outcome, mover, after, other, goes_on_with}
use Rattle.game_rules.specs.Games.{wins_by_fours, loses_or, if_goes_on, behind_replies}
use Rattle.game_rules.specs.declared.RuleKind.{RuleKind}
use Rattle.game_rules.specs.declared.Point.{Point}
use Rattle.threat_moves.specs.declared.threat_list.Threat.{Threat}

-- the gain of the first threat, and the threats after it
abbrev pub first_gain : List Threat → Option (Point × List Threat)
first_gain [] = None
first_gain (t ∷ ts) = Some (t.gain, ts)

-- the block, with all the threats, if there is one, and else the gain of the first threat
abbrev pub block_or_gain : Option Point → List Threat → Option (Point × List Threat)
block_or_gain None ts = first_gain ts
block_or_gain (Some p) ts = Some (p, ts)

-- the least five point of the side that is not to move, if it has one
abbrev pub block_of : RuleKind → Grid → Option Point
block_of rule b = find (five rule b (other (mover b))) (points_of b)

-- the move of the line where the attacker has no quick win, with the threats that are left after it: the least five point of the
-- defender, and else the gain of the first threat; there is none where no threat is left
abbrev pub line_move : RuleKind → List Threat → Grid → Option (Point × List Threat)
line_move rule ts b = block_or_gain (block_of rule b) ts

-- whether each move at c is no move, fouls, or leads to a board that is won
abbrev pub each_loses : RuleKind → Grid → (Grid → Bool) → Bool
each_loses rule c won = list_all (λ q. loses_or (outcome rule c q) (won (after c q))) (points_of c)

-- whether there is a move, and it goes on to a board where each reply is no move, fouls, or leads to a board that is won with the
-- threats that are left
abbrev pub move_wins : RuleKind → Grid → (List Threat → Grid → Bool) → Option (Point × List Threat) → Bool
move_wins rule b won None = false
move_wins rule b won (Some m) = goes_on_with (outcome rule b m.0) (each_loses rule (after b m.0) (won m.1))

-- Whether the side to move wins within n moves along these threats, whatever the replies: it wins by continuous fours within two
-- of them, or by the move of the line.
unfoldable pub line_wins : RuleKind → List Threat → ℕ → Grid → Bool
line_wins rule ts zero b = false
line_wins rule ts (suc n) b =
    if wins_by_fours rule (min (suc n) 2) b then true else move_wins rule b (λ ts. line_wins rule ts n) (line_move rule ts b)

-- the sum of the counts behind the replies to a move that goes on
abbrev pub behind_line_move : RuleKind → Grid → (List Threat → Grid → ℕ) → Option (Point × List Threat) → ℕ
behind_line_move rule b count None = 0
behind_line_move rule b count (Some m) = if_goes_on (outcome rule b m.0) (behind_replies rule (count m.1) (after b m.0))

-- How many nodes a proof of such a win may put into a compiler: 4 for a win by fours within two moves, and else 1 and those behind
-- each reply that goes on.
unfoldable pub line_tree : RuleKind → List Threat → ℕ → Grid → ℕ
line_tree rule ts zero b = 1
line_tree rule ts (suc n) b =
    if wins_by_fours rule (min (suc n) 2) b then 4 else 1 + behind_line_move rule b (λ ts. line_tree rule ts n) (line_move rule ts b)
