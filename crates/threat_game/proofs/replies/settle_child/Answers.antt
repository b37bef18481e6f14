use Rattle.std.proofs.Common.{◌≡◌, ◌∙◌, true, ap, subst, arith}
use Rattle.threat_game.specs.declared.replies.Judged.{Judged}
use Rattle.threat_game.proofs.Common.{moves_for, stands_for}
use Rattle.threat_game.proofs.Kept.{last-stands, standing-double, standing-five, two-stands}
use Rattle.game_rules.proofs.Undo.{stone_back, lift_back, unwon_back}
use Rattle.game_rules.proofs.Common.{Grid, after}
use Rattle.game_rules.proofs.Positions.{IsPosition-after}
use Rattle.threat_game.proofs.WrittenLaws.{double-settled, double-wins, five-settled, last-settled}
use Rattle.threat_game.proofs.replies.settle_child.Goals as goal

pub undo-requires-clause-stone : goal.undo-requires-clause-stone
undo-requires-clause-stone g c =
    stone_back g.R.Rule.KIND (g.V.Seen.position c.args.view.now) _ c.args.child.at c.play.ensures.lawful c.requires.on
    (c.compile_double-found.ensures.same ∙ c.play.ensures.played)

pub undo-requires-clause-unwon : goal.undo-requires-clause-unwon
undo-requires-clause-unwon g c =
    unwon_back g.R.Rule.KIND (g.V.Seen.position c.args.view.now) _ c.args.child.at c.play.ensures.lawful c.requires.on
    (c.compile_double-found.ensures.same ∙ c.play.ensures.played)

pub returns-in_err-found-in-DoublePoint-clause-same : goal.returns-in_err-found-in-DoublePoint-clause-same
returns-in_err-found-in-DoublePoint-clause-same g c =
    c.undo.ensures.undone ∙ lift_back g.R.Rule.KIND (g.V.Seen.position c.args.view.now) _ c.args.child.at c.play.ensures.lawful
    c.requires.on (c.compile_double-found.ensures.same ∙ c.play.ensures.played)

pub returns-in_ok-found-in-DoublePoint-clause-same : goal.returns-in_ok-found-in-DoublePoint-clause-same
returns-in_ok-found-in-DoublePoint-clause-same g c =
    c.undo.ensures.undone ∙ lift_back g.R.Rule.KIND (g.V.Seen.position c.args.view.now) _ c.args.child.at c.play.ensures.lawful
    c.requires.on (c.compile_double-found.ensures.same ∙ c.play.ensures.played)

pub returns-in_ok-compile_five-in-Five-clause-win : goal.returns-in_ok-compile_five-in-Five-clause-win
returns-in_ok-compile_five-in-Five-clause-win g c =
    five-settled g.R.Rule.KIND (g.V.Seen.position c.args.view.now) c.args.child.at c.requires.on c.args.child.judged c.requires.judged
    c.in-Five.five c.in-Five.is c.side.ensures.lawful
    c.compile_five.new.compiler c.in_ok-compile_five-in-Five.field-0 c.in_ok-compile_five-in-Five.ensures.win

pub returns-in_ok-compile_last-in-Last-clause-win : goal.returns-in_ok-compile_last-in-Last-clause-win
returns-in_ok-compile_last-in-Last-clause-win g c =
    last-settled g.R.Rule.KIND (g.V.Seen.position c.args.view.now) c.args.child.at c.requires.on c.args.child.judged c.requires.judged
    c.in-Last.attack c.in-Last.is c.side.ensures.lawful
    c.compile_last.new.compiler c.in_ok-compile_last-in-Last.field-0 c.in_ok-compile_last-in-Last.ensures.win

pub returns-in_ok-found-in-DoublePoint-clause-win : goal.returns-in_ok-found-in-DoublePoint-clause-win
returns-in_ok-found-in-DoublePoint-clause-win g c =
    double-settled g.R.Rule.KIND (g.V.Seen.position c.args.view.now) c.args.child.at c.requires.on c.args.child.judged c.requires.judged
    c.in-DoublePoint.double c.in-DoublePoint.nodes c.in-DoublePoint.is
    (g.V.Seen.position c.play.new.self) c.play.ensures.played c.compile_double-found.new.compiler c.in_ok-found-in-DoublePoint.field-0
    c.in_ok-found-in-DoublePoint.ensures.win

pub returns-in_ok-compile_five-in-Five-clause-stands : goal.returns-in_ok-compile_five-in-Five-clause-stands
returns-in_ok-compile_five-in-Five-clause-stands g c = λ moves met stands is.
    standing-five g.R.Rule.KIND (g.V.Seen.position c.args.view.now) c.side.ensures.lawful c.compile_five.new.compiler
    c.in_ok-compile_five-in-Five.field-0 moves met is c.in-Five.five
    c.in_ok-compile_five-in-Five.ensures.win (subst (λ (j : Judged). stands_for j met.judged ≡ true) c.in-Five.is stands)

pub returns-in_ok-compile_last-in-Last-clause-stands : goal.returns-in_ok-compile_last-in-Last-clause-stands
returns-in_ok-compile_last-in-Last-clause-stands g c = λ moves met stands is.
    absurd (last-stands c.in-Last.attack met.judged (subst (λ (j : Judged). stands_for j met.judged ≡ true) c.in-Last.is stands))

pub returns-in_ok-found-in-DoublePoint-clause-stands : goal.returns-in_ok-found-in-DoublePoint-clause-stands
returns-in_ok-found-in-DoublePoint-clause-stands g c = λ moves met stands is.
    absurd (c.if-nodes-eq2.false
    (two-stands c.in-DoublePoint.double c.in-DoublePoint.nodes met.judged
    (subst (λ (j : Judged). stands_for j met.judged ≡ true) c.in-DoublePoint.is stands)))

pub returns-then-nodes-eq2-clause-win : goal.returns-then-nodes-eq2-clause-win
returns-then-nodes-eq2-clause-win g c = λ moves l.
    let b : Grid = g.V.Seen.position c.args.view.now in
    let least : moves_for c.args.child.judged ≡ 2 = ap moves_for c.in-DoublePoint.is in
    c.in_ok-win-in-DoublePoint.ensures.win g.R.Rule.KIND (after b c.args.child.at) moves
    (IsPosition-after g.R.Rule.KIND b c.args.child.at c.side.ensures.lawful c.requires.on)
    (double-wins g.R.Rule.KIND b c.args.child.at c.requires.on c.args.child.judged c.requires.judged c.in-DoublePoint.double
    c.in-DoublePoint.nodes
    c.in-DoublePoint.is) (omega (arith, least, l))

pub returns-then-nodes-eq2-clause-stands : goal.returns-then-nodes-eq2-clause-stands
returns-then-nodes-eq2-clause-stands g c = λ moves met stands is.
    let b : Grid = g.V.Seen.position c.args.view.now in
    standing-double g.R.Rule.KIND b c.side.ensures.lawful c.compile_standing.new.compiler c.in_ok-win-in-DoublePoint.win moves met is
    c.in-DoublePoint.double c.in-DoublePoint.nodes
    c.in_ok-win-in-DoublePoint.ensures.win
    (subst (λ (j : Judged). stands_for j met.judged ≡ true) c.in-DoublePoint.is stands)
