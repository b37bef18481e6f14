use Rattle.std.proofs.Common.{rules}
use Rattle.std.proofs.Common.{◌≡◌, Bool, true, false, ap, sym, ◌∙◌, get_or, Option, Result, IfOk, IfNone}
use Rattle.std.proofs.lemmas.Bool.{true≢false}
use Rattle.std.proofs.lemmas.List.Elements.{All-get_or}
use Rattle.game_rules.proofs.Common.{Grid, is_empty, mover}
use Rattle.game_rules.specs.declared.Side.{Side}
use Rattle.game_rules.specs.declared.Point.{Point}
use Rattle.game_rules.proofs.Positions.{GoesOn-empty}
use Rattle.threat_game.specs.declared.doubles.DoublePoint.{DoublePoint}
use Rattle.threat_game.proofs.Common.{makes_two}
use Rattle.threat_game.proofs.attacks.find_double.Goals as goal

pub double_at-requires : goal.double_at-requires
double_at-requires g c =
    let b : Grid = g.V.Seen.position c.loop-p.view in
    let p : Point = get_or c.args.twos.now c.loop-p.p-index (record { x = 0; y = 0 }) in
    let here : is_empty b p ≡ true = GoesOn-empty g.R.Rule.KIND b p (sym c.in-GoesOn.ensures.outcome) in
    record { empty = ap (λ (w : Grid). is_empty w p) (c.loop-p.invariant.1 ∙ c.requires.copy ∙ sym c.loop-p.invariant.0) ∙ here }

-- where a stone leaves two, a double point is told
is_told : {E : Type 0} (r : Result (Option DoublePoint) E) (makes other : Bool) → makes ≡ true
    → IfOk r (λ found. IfNone found (makes ≡ false))
    → IfOk r (λ found. IfNone found (other ≡ false))
is_told r makes other two told = search (rules, true≢false)

pub returns-in-GoesOn-clause-none : goal.returns-in-GoesOn-clause-none
returns-in-GoesOn-clause-none g c =
    let rule = g.R.Rule.KIND in
    let b : Grid = g.V.Seen.position c.args.view.now in
    let p : Point = get_or c.args.twos.now c.loop-p.p-index (record { x = 0; y = 0 }) in
    let side : c.side-side.result ≡ mover b = c.side-side.ensures.side ∙ ap mover (c.outcome.ensures.same ∙ c.loop-p.invariant.0) in
    let two : makes_two rule b (mover b) p ≡ true =
    All-get_or (λ q. makes_two rule b (mover b) q ≡ true) c.args.twos.now c.loop-p.p-index (record { x = 0; y = 0 }) c.loop-p-test.true
    c.requires.twos in
    let here : makes_two rule c.loop-p.board c.side-side.result p ≡ true =
    ap (λ (w : Grid). makes_two rule w c.side-side.result p) (c.loop-p.invariant.1 ∙ c.requires.copy)
    ∙ ap (λ (s : Side). makes_two rule b s p) side
    ∙ two in
    is_told c.double_at.result _ _ here c.double_at.ensures.told
