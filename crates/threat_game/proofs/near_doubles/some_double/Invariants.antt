use Rattle.std.proofs.Common.{◌≡◌, drop}
use Rattle.std.specs.List.{list_any}
use Rattle.game_rules.specs.Games.{is_double_point}
use Rattle.threat_game.proofs.near_doubles.some_double.Given as goal

-- the board is as before; some point left is a double point exactly where some of them all is
abbrev pub invariant-loop-q : goal.invariant-loop-q
invariant-loop-q g l = (l.board ≡ l.fn.board)
    × (list_any (is_double_point g.R.Rule.KIND l.fn.board l.side) (drop l.q-index l.points)
    ≡ list_any (is_double_point g.R.Rule.KIND l.fn.board l.side) l.points)
