use Rattle.std.proofs.Common.{ap, sym, ◌∙◌}
use Rattle.game_rules.proofs.Common.{Grid, five_points, has_fouls, mover}
use Rattle.game_rules.specs.declared.Side.{Side}
use Rattle.row_shapes.specs.FivePoints.{in_short}
use Rattle.open_windows.proofs.Points.{windows-of}
use Rattle.threat_game.proofs.TwoMoves.{no_double-no_win}
use Rattle.threat_game.proofs.escapes.has_no_double.Goals as goal

pub all_twos-requires-clause-windows : goal.all_twos-requires-clause-windows
all_twos-requires-clause-windows g c =
    windows-of _ _ _ (mover (g.V.Seen.position c.args.view.now)) 3 _ c.board.ensures.board c.side.ensures.side
    c.window_points-windows.ensures.points

pub returns-clause-no_win : goal.returns-clause-no_win
returns-clause-no_win g c = λ yes.
    let b : Grid = g.V.Seen.position c.args.view.now in
    no_double-no_win g.R.Rule.KIND b c.requires.lawful c.requires.none
    (ap (has_fouls g.R.Rule.KIND) (sym c.requires.defender) ∙ c.requires.calm)
    c.fives_in_short-threat.result
    (c.fives_in_short-threat.ensures.fives ∙ ap (λ (s : Side). in_short (five_points g.R.Rule.KIND b s)) c.requires.defender)
    c.as_slice.result.now (c.as_slice.ensures.items ∙ c.in_ok-twos.ensures.twos) (c.none_counters.ensures.none yes)
