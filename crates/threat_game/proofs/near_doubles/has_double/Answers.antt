use Rattle.std.proofs.Common.{◌≡◌, true, sym, ◌∙◌, subst}
use Rattle.game_rules.specs.Grid.{Grid}
use Rattle.game_rules.specs.declared.Axis.TheVariants.{Row, Column, Down, Up}
use Rattle.threat_moves.specs.ThreeMoves.{has_double_point}
use Rattle.threat_game.specs.NearDoubles.{AreCrossings}
use Rattle.threat_game.proofs.NearDoubles.{NoneOn, last-told, some-found}
use Rattle.threat_game.proofs.near_doubles.has_double.Goals as goal

pub returns-then-some_double-clause-double : goal.returns-then-some_double-clause-double
returns-then-some_double-clause-double g c =
    some-found g.R.Rule.KIND c.args.board.now c.args.side c.args.twos.now
    (sym c.some_double.ensures.double ∙ c.if-some_double.true)

pub double_on-requires-clause-crossings : goal.double_on-requires-clause-crossings
double_on-requires-clause-crossings g c =
    subst (λ (b : Grid). AreCrossings g.R.Rule.KIND b c.args.side c.args.p c.args.windows.now) (sym (c.some_double.ensures.same))
    c.requires.crossings

pub double_on-requires-2-clause-crossings : goal.double_on-requires-2-clause-crossings
double_on-requires-2-clause-crossings g c =
    subst (λ (b : Grid). AreCrossings g.R.Rule.KIND b c.args.side c.args.p c.args.windows.now)
    (sym (c.double_on.ensures.same ∙ c.some_double.ensures.same)) c.requires.crossings

pub double_on-requires-3-clause-crossings : goal.double_on-requires-3-clause-crossings
double_on-requires-3-clause-crossings g c =
    subst (λ (b : Grid). AreCrossings g.R.Rule.KIND b c.args.side c.args.p c.args.windows.now)
    (sym (c.double_on-2.ensures.same ∙ c.double_on.ensures.same ∙ c.some_double.ensures.same)) c.requires.crossings

pub double_on-requires-4-clause-crossings : goal.double_on-requires-4-clause-crossings
double_on-requires-4-clause-crossings g c =
    subst (λ (b : Grid). AreCrossings g.R.Rule.KIND b c.args.side c.args.p c.args.windows.now)
    (sym (c.double_on-3.ensures.same ∙ c.double_on-2.ensures.same ∙ c.double_on.ensures.same ∙ c.some_double.ensures.same))
    c.requires.crossings

pub returns-clause-double : goal.returns-clause-double
returns-clause-double g c =
    let zeroth = c.some_double.ensures.same in
    let first = c.double_on.ensures.same ∙ zeroth in
    let second = c.double_on-2.ensures.same ∙ first in
    let third = c.double_on-3.ensures.same ∙ second in
    last-told g.R.Rule.KIND c.args.board.now c.args.side c.args.p c.args.near c.requires.near
    (c.requires.far.near (sym c.some_double.ensures.double ∙ c.if-some_double.false))
    (subst (λ (b : Grid). NoneOn g.R.Rule.KIND b c.args.side c.args.p Row c.args.near.row) zeroth
    (c.double_on.ensures.none c.if-double_on.false))
    (subst (λ (b : Grid). NoneOn g.R.Rule.KIND b c.args.side c.args.p Column c.args.near.column) first
    (c.double_on-2.ensures.none c.if-double_on-2.false))
    (subst (λ (b : Grid). NoneOn g.R.Rule.KIND b c.args.side c.args.p Down c.args.near.down) second
    (c.double_on-3.ensures.none c.if-double_on-3.false))
    c.double_on-4.result
    (λ h. subst (λ (b : Grid). has_double_point g.R.Rule.KIND b c.args.side ≡ true) third (c.double_on-4.ensures.some h))
    (λ h. subst (λ (b : Grid). NoneOn g.R.Rule.KIND b c.args.side c.args.p Up c.args.near.up) third (c.double_on-4.ensures.none h))
