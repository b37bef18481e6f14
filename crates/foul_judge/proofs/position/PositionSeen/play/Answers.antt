use Rattle.std.proofs.Common.{◌≡◌, ap, ◌∙◌}
use Rattle.game_rules.proofs.Common.{Grid, put, IsPosition, outcome, mover, after}
use Rattle.game_rules.specs.declared.Point.{Point}
use Rattle.game_rules.specs.declared.RuleKind.{RuleKind}
use Rattle.game_rules.specs.declared.Side.{Side}
use Rattle.game_rules.specs.declared.Outcome.TheVariants.{GoesOn}
use Rattle.game_rules.proofs.Positions.{IsPosition-after, GoesOn-empty}
use Rattle.foul_judge.proofs.position.PositionSeen.play.Goals as goal

-- the board d with the stone of the side to move is a lawful position
next : (rule : RuleKind) (b d : Grid) (s : Side) (p : Point) → IsPosition rule b → outcome rule b p ≡ GoesOn → s ≡ mover b → d ≡ put b s p
    → IsPosition rule d
next rule b d s p lawful on side played =
    let same : d ≡ after b p = played ∙ ap (λ (t : Side). put b t p) side in
    rw same (IsPosition-after rule b p lawful on)

pub put-requires : goal.put-requires
put-requires g c =
    let b : Grid = c.self.inside.board in
    let on : outcome g.R.Rule.KIND b c.args.p ≡ GoesOn =
    ap (λ (w : Grid). outcome g.R.Rule.KIND w c.args.p) c.self.view_is ∙ c.requires.goes_on in
    record { empty = GoesOn-empty g.R.Rule.KIND b c.args.p on }

pub invariant_of-self : goal.invariant_of-self
invariant_of-self g c =
    let on : outcome g.R.Rule.KIND c.self.inside.board c.args.p ≡ GoesOn =
    ap (λ (w : Grid). outcome g.R.Rule.KIND w c.args.p) c.self.view_is ∙ c.requires.goes_on in
    next g.R.Rule.KIND c.self.inside.board _ _ c.args.p c.self.invariant on c.mover-side.ensures.mover c.put.ensures.put

pub returns-clause-goes_on : goal.returns-clause-goes_on
returns-clause-goes_on g c =
    let on : outcome g.R.Rule.KIND c.self.inside.board c.args.p ≡ GoesOn =
    ap (λ (w : Grid). outcome g.R.Rule.KIND w c.args.p) c.self.view_is ∙ c.requires.goes_on in
    next g.R.Rule.KIND c.self.inside.board _ _ c.args.p c.self.invariant on c.mover-side.ensures.mover c.put.ensures.put
