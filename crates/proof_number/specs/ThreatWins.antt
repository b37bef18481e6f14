-- How many positions of the game of threats are won.
use Rattle.std.specs.Prelude.{ℕ, zero, suc, ◌+◌, if◌then◌else◌}
use Rattle.std.specs.List.{sum_by}
use Rattle.game_rules.specs.Grid.{Grid, points_of}
use Rattle.game_rules.specs.Play.{mover, after}
use Rattle.game_rules.specs.Games.{has_five, wins_by_threats, behind_replies}
use Rattle.game_rules.specs.declared.RuleKind.{RuleKind}
use Rattle.threat_game.specs.ThreatGame.{is_safe_threat}
use Rattle.threat_game.specs.Replies.{one_if}

-- the sum of the counts at the boards after each reply to each move of the game of threats that leaves the other side no five point, where
-- the side to move has no five point itself; else 0
abbrev pub behind_threats : RuleKind → (Grid → ℕ) → Grid → ℕ
behind_threats rule count b =
    if has_five rule b (mover b) then 0
    else sum_by (λ p. if is_safe_threat rule b p then behind_replies rule count (after b p) else 0) (points_of b)

-- How many positions of the game of threats within n moves, with the attacker to move, are won by threats within the moves that are left,
-- each counted once for each line of moves that leads to it: this one, if it is, and those behind its moves and the replies.
unfoldable pub threat_wins : RuleKind → ℕ → Grid → ℕ
threat_wins rule zero b = 0
threat_wins rule (suc n) b = one_if (wins_by_threats rule (suc n) b) + behind_threats rule (threat_wins rule n) b
