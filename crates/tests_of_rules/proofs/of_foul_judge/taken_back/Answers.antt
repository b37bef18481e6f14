use Rattle.std.proofs.Common.{◌≡◌, ap, sym, ◌∙◌}
use Rattle.game_rules.proofs.Common.{Grid, outcome}
use Rattle.game_rules.specs.declared.RuleKind.TheVariants.{Renju}
use Rattle.game_rules.specs.declared.Outcome.TheVariants.{GoesOn}
use Rattle.game_rules.proofs.Undo.{stone_back, unwon_back}
use Rattle.tests_of_rules.proofs.of_foul_judge.taken_back.Goals as goal

pub undo-requires-clause-stone : goal.undo-requires-clause-stone
undo-requires-clause-stone c =
    let b : Grid = c.outcome.new.self in
    let on : outcome Renju b c.args.p ≡ GoesOn =
    ap (λ (w : Grid). outcome Renju w c.args.p) c.outcome.ensures.same ∙ sym c.in-GoesOn.ensures.outcome in
    stone_back Renju b _ c.args.p c.side-side.ensures.lawful on c.play.ensures.played

pub undo-requires-clause-unwon : goal.undo-requires-clause-unwon
undo-requires-clause-unwon c =
    let b : Grid = c.outcome.new.self in
    let on : outcome Renju b c.args.p ≡ GoesOn =
    ap (λ (w : Grid). outcome Renju w c.args.p) c.outcome.ensures.same ∙ sym c.in-GoesOn.ensures.outcome in
    unwon_back Renju b _ c.args.p c.side-side.ensures.lawful on c.play.ensures.played
