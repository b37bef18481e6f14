use Rattle.std.proofs.Common.{◌≡◌, ℕ, ◌<◌, false}
use Rattle.game_rules.specs.Grid.{along}
use Rattle.threat_moves.specs.FiveEnds.{is_straight_at}
use Rattle.threat_moves.proofs.gains.has_straight_point.Given as goal

-- none of the places so far gives a straight four
abbrev pub invariant-loop-place : goal.invariant-loop-place
invariant-loop-place g l = (l.board ≡ l.fn.board)
    × ((i : ℕ) → i < l.place → is_straight_at g.R.Rule.KIND l.fn.board l.side l.axis l.gain (along l.axis l.gain i 5) ≡ false)
