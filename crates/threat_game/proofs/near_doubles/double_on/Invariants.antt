use Rattle.std.proofs.Common.{◌≡◌, ℕ, ◌≤◌, ◌<◌, false}
use Rattle.game_rules.specs.Ways.{towards}
use Rattle.game_rules.specs.declared.Way.{Way}
use Rattle.threat_game.specs.NearDoubles.{is_double_on}
use Rattle.threat_game.proofs.near_doubles.double_on.Given as goal

-- the board is as before; none of the points that were asked is a double point of the axis
abbrev pub invariant-loop-k : goal.invariant-loop-k
invariant-loop-k g l = (l.board ≡ l.fn.board)
    × ((w : Way) (k : ℕ) → 1 ≤ k → k < l.k → is_double_on g.R.Rule.KIND l.fn.board l.side l.fn.axis (towards w l.fn.axis l.fn.p k) ≡ false)
