use Rattle.std.proofs.Common.{◌≡◌, true, sym, ◌∙◌, subst, arith}
use Rattle.game_rules.specs.Grid.{Grid}
use Rattle.stone_board.specs.Lines.{line_of, TellsLine}
use Rattle.threat_moves.specs.ThreeMoves.{has_double_point}
use Rattle.threat_game.specs.NearDoubles.{AreCrossings}
use Rattle.threat_game.specs.OpenThrees.{AreStarts}
use Rattle.threat_game.proofs.NearDoubles.{at-found}
use Rattle.threat_game.proofs.OpenThrees.{none-away}
use Rattle.threat_game.proofs.near_doubles.double_on.Goals as goal

pub returns-then-far-eq0-clause-none : goal.returns-then-far-eq0-clause-none
returns-then-far-eq0-clause-none g c = λ off w k low high.
    absurd (let at = c.reach-far.ensures.reach in let zero = c.if-far-eq0.true in omega (arith, low, high, at, zero))

pub returns-then-starts-eq0-clause-none : goal.returns-then-starts-eq0-clause-none
returns-then-starts-eq0-clause-none g c = λ off w k low high.
    none-away g.R.Rule.KIND c.args.board.now c.args.side c.args.axis c.args.p c.line_through-own.result c.line_starts-starts.result
    c.requires.on c.line_through-own.ensures.tells c.line_starts-starts.ensures.starts c.if-starts-eq0.true w k

pub double_towards-requires-clause-own : goal.double_towards-requires-clause-own
double_towards-requires-clause-own g c =
    subst (λ (b : Grid). TellsLine b c.args.side c.args.axis (line_of c.args.axis c.args.p) c.line_through-own.result)
    (sym c.loop-k.invariant.0) c.line_through-own.ensures.tells

pub double_towards-requires-in-loop-k-clause-own : goal.double_towards-requires-in-loop-k-clause-own
double_towards-requires-in-loop-k-clause-own g c =
    subst (λ (b : Grid). TellsLine b c.args.side c.args.axis (line_of c.args.axis c.args.p) c.line_through-own.result)
    (sym (c.double_towards.ensures.same ∙ c.loop-k.invariant.0)) c.line_through-own.ensures.tells

pub double_towards-requires-clause-starts : goal.double_towards-requires-clause-starts
double_towards-requires-clause-starts g c =
    subst (λ (b : Grid). AreStarts b c.args.side c.args.axis (line_of c.args.axis c.args.p) c.line_starts-starts.result)
    (sym c.loop-k.invariant.0) c.line_starts-starts.ensures.starts

pub double_towards-requires-in-loop-k-clause-starts : goal.double_towards-requires-in-loop-k-clause-starts
double_towards-requires-in-loop-k-clause-starts g c =
    subst (λ (b : Grid). AreStarts b c.args.side c.args.axis (line_of c.args.axis c.args.p) c.line_starts-starts.result)
    (sym (c.double_towards.ensures.same ∙ c.loop-k.invariant.0)) c.line_starts-starts.ensures.starts

pub double_towards-requires-clause-crossings : goal.double_towards-requires-clause-crossings
double_towards-requires-clause-crossings g c =
    subst (λ (b : Grid). AreCrossings g.R.Rule.KIND b c.args.side c.args.p c.args.windows.now) (sym c.loop-k.invariant.0)
    c.requires.crossings

pub double_towards-requires-in-loop-k-clause-crossings : goal.double_towards-requires-in-loop-k-clause-crossings
double_towards-requires-in-loop-k-clause-crossings g c =
    subst (λ (b : Grid). AreCrossings g.R.Rule.KIND b c.args.side c.args.p c.args.windows.now)
    (sym (c.double_towards.ensures.same ∙ c.loop-k.invariant.0)) c.requires.crossings

pub returns-then-double_towards-clause-some : goal.returns-then-double_towards-clause-some
returns-then-double_towards-clause-some g c = λ h.
    subst (λ (b : Grid). has_double_point g.R.Rule.KIND b c.args.side ≡ true) c.loop-k.invariant.0
    (at-found g.R.Rule.KIND _ c.args.side c.args.axis _ (sym c.double_towards.ensures.double ∙ c.if-double_towards.true))

pub returns-then-double_towards-2-clause-some : goal.returns-then-double_towards-2-clause-some
returns-then-double_towards-2-clause-some g c = λ h.
    subst (λ (b : Grid). has_double_point g.R.Rule.KIND b c.args.side ≡ true) (c.double_towards.ensures.same ∙ c.loop-k.invariant.0)
    (at-found g.R.Rule.KIND _ c.args.side c.args.axis _ (sym c.double_towards-in-loop-k.ensures.double ∙ c.if-double_towards-2.true))
