use Rattle.std.proofs.Common.{◌≡◌, false, ap, sym, ◌∙◌}
use Rattle.game_rules.proofs.Common.{Grid, is_empty, put, mover, after, has_five}
use Rattle.game_rules.specs.declared.Side.{Side}
use Rattle.open_windows.proofs.Points.{windows-of}
use Rattle.threat_moves.specs.ThreeMoves.{has_double_point}
use Rattle.threat_moves.proofs.GainLaws.{threat-by_five, threat-by_double}
use Rattle.threat_game.specs.NearDoubles.{is_some_point, points_of_two}
use Rattle.threat_game.proofs.DoubleLaws.{some-five}
use Rattle.threat_game.proofs.attacks.leaves_threat.Goals as goal

pub returns-then-is_some_point-clause-threat : goal.returns-then-is_some_point-clause-threat
returns-then-is_some_point-clause-threat g c =
    let b : Grid = g.V.Seen.position c.args.view.now in
    threat-by_five g.R.Rule.KIND (after b c.args.p) (mover b)
    (sym (some-five g.R.Rule.KIND (after b c.args.p) (mover b)) ∙ ap is_some_point (sym c.fives_by.ensures.made)
    ∙ sym c.is_some_point.ensures.some ∙ c.if-is_some_point.true)

pub leaves_double-requires-clause-empty : goal.leaves_double-requires-clause-empty
leaves_double-requires-clause-empty g c = ap (λ (w : Grid). is_empty w c.args.p) c.requires.copy ∙ c.requires.empty

pub leaves_double-requires-clause-twos : goal.leaves_double-requires-clause-twos
leaves_double-requires-clause-twos g c =
    let b : Grid = g.V.Seen.position c.args.view.now in
    c.requires.twos
    ∙ ap (points_of_two g.R.Rule.KIND b) (sym c.side-side.ensures.side)
    ∙ ap (λ (w : Grid). points_of_two g.R.Rule.KIND w c.side-side.result) (sym c.requires.copy)

pub leaves_double-requires-clause-before : goal.leaves_double-requires-clause-before
leaves_double-requires-clause-before g c =
    let b : Grid = g.V.Seen.position c.args.view.now in
    ap (λ (w : Grid). has_five g.R.Rule.KIND w c.side-side.result) c.requires.copy
    ∙ ap (has_five g.R.Rule.KIND b) c.side-side.ensures.side ∙ c.requires.none

pub leaves_double-requires-clause-windows : goal.leaves_double-requires-clause-windows
leaves_double-requires-clause-windows g c =
    windows-of _ _ _ _ 3 _ (sym c.requires.copy) (sym c.side-side.ensures.side) c.requires.windows

pub leaves_double-requires-clause-none : goal.leaves_double-requires-clause-none
leaves_double-requires-clause-none g c =
    let b : Grid = g.V.Seen.position c.args.view.now in
    ap (λ (w : Grid). has_five g.R.Rule.KIND (put w c.side-side.result c.args.p) c.side-side.result) c.requires.copy
    ∙ ap (λ (t : Side). has_five g.R.Rule.KIND (put b t c.args.p) t) c.side-side.ensures.side
    ∙ sym (some-five g.R.Rule.KIND (after b c.args.p) (mover b))
    ∙ ap is_some_point (sym c.fives_by.ensures.made)
    ∙ sym c.is_some_point.ensures.some
    ∙ c.if-is_some_point.false

pub returns-clause-threat : goal.returns-clause-threat
returns-clause-threat g c =
    let b : Grid = g.V.Seen.position c.args.view.now in
    let none : has_five g.R.Rule.KIND (after b c.args.p) (mover b) ≡ false =
    sym (some-five g.R.Rule.KIND (after b c.args.p) (mover b)) ∙ ap is_some_point (sym c.fives_by.ensures.made)
    ∙ sym c.is_some_point.ensures.some ∙ c.if-is_some_point.false in
    c.leaves_double.ensures.double
    ∙ ap (λ (w : Grid). has_double_point g.R.Rule.KIND (put w c.side-side.result c.args.p) c.side-side.result) c.requires.copy
    ∙ ap (λ (t : Side). has_double_point g.R.Rule.KIND (put b t c.args.p) t) c.side-side.ensures.side
    ∙ threat-by_double g.R.Rule.KIND (after b c.args.p) (mover b) none
