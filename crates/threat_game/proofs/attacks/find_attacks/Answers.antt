use Rattle.std.proofs.Common.{◌≡◌, true, false, ap, sym, subst, ◌∙◌, Option, IfNone}
use Rattle.std.specs.List.{list_any}
use Rattle.std.proofs.lemmas.Bool.{true≢false}
use Rattle.std.proofs.lemmas.List.Elements.{All-same, filter_passes}
use Rattle.game_rules.proofs.Common.{Grid, points_of, mover, other, five_points, outcome, goes_on}
use Rattle.game_rules.specs.declared.Side.{Side}
use Rattle.row_shapes.specs.FivePoints.{in_short}
use Rattle.row_shapes.proofs.FiveLaws.{has_five-none, none-short}
use Rattle.open_windows.proofs.Points.{windows-of}
use Rattle.threat_game.specs.declared.doubles.DoublePoint.{DoublePoint}
use Rattle.threat_game.proofs.Common.{makes_two, points_of_two}
use Rattle.threat_game.proofs.attacks.find_attacks.Goals as goal

pub all_twos-requires-clause-windows : goal.all_twos-requires-clause-windows
all_twos-requires-clause-windows g c =
    let b : Grid = g.V.Seen.position c.args.view.now in
    windows-of _ b _ (mover b) 3 _ c.board.ensures.board c.side-attacker.ensures.side c.window_points-windows.ensures.points

pub find_double-requires-clause-safe : goal.find_double-requires-clause-safe
find_double-requires-clause-safe g c =
    let b : Grid = g.V.Seen.position c.args.view.now in
    has_five-none g.R.Rule.KIND b (other (mover b))
    (ap (λ (s : Side). in_short (five_points g.R.Rule.KIND b s)) (sym (c.other.ensures.other ∙ ap other c.side-attacker.ensures.side))
    ∙ sym c.in-None.ensures.fives)

pub find_double-requires-clause-twos : goal.find_double-requires-clause-twos
find_double-requires-clause-twos g c =
    let b : Grid = g.V.Seen.position c.args.view.now in
    All-same (λ p. makes_two g.R.Rule.KIND b (mover b) p ≡ true) c.as_slice.result.now (points_of_two g.R.Rule.KIND b (mover b))
    (c.as_slice.ensures.items ∙ c.in_ok-twos.ensures.twos) (filter_passes (makes_two g.R.Rule.KIND b (mover b)) (points_of b))

-- no double point goes on
pub returns-in-None-clause-standing : goal.returns-in-None-clause-standing
returns-in-None-clause-standing g c = λ safe stands.
    let rule = g.R.Rule.KIND in
    let b : Grid = g.V.Seen.position c.args.view.now in
    let none : list_any (λ p. goes_on (outcome rule b p)) c.as_slice.result.now ≡ false =
    subst (λ (found : Option DoublePoint). IfNone found (list_any (λ p. goes_on (outcome rule b p)) c.as_slice.result.now ≡ false))
    c.in-None-2.is c.in_ok-double.ensures.none in
    let twos : c.as_slice.result.now ≡ points_of_two rule b (mover b) = c.as_slice.ensures.items ∙ c.in_ok-twos.ensures.twos in
    absurd (true≢false (sym stands ∙ ap (list_any (λ p. goes_on (outcome rule b p))) (sym twos) ∙ none))

-- the other side has a five point
pub returns-clause-standing : goal.returns-clause-standing
returns-clause-standing g c = λ safe stands.
    let b : Grid = g.V.Seen.position c.args.view.now in
    absurd (c.in_default.not-None (c.fives_in_short-threat.ensures.fives
    ∙ ap (λ (s : Side). in_short (five_points g.R.Rule.KIND b s)) (c.other.ensures.other ∙ ap other c.side-attacker.ensures.side)
    ∙ none-short g.R.Rule.KIND b (other (mover b)) safe))
