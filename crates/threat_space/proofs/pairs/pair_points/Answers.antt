use Rattle.std.proofs.Common.{sym, ◌∙◌}
use Rattle.threat_space.proofs.FarFinals.{all-pairs, window-pairs}
use Rattle.threat_space.proofs.pairs.pair_points.Goals as goal

pub returns-then-has_five_among-clause-pairs : goal.returns-then-has_five_among-clause-pairs
returns-then-has_five_among-clause-pairs g c = all-pairs _ _ _ _ c.window_points-windows.ensures.points.board c.all.ensures.all

pub returns-clause-pairs : goal.returns-clause-pairs
returns-clause-pairs g c =
    window-pairs _ _ _ _ c.window_points-windows.ensures.points (sym c.has_five_among.ensures.five ∙ c.if-has_five_among.false)
