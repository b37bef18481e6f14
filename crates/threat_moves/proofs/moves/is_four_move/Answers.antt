use Rattle.std.proofs.Common.{◌≡◌, ap, sym, ◌∙◌}
use Rattle.game_rules.proofs.Common.{Grid, outcome}
use Rattle.game_rules.specs.declared.Outcome.TheVariants.{GoesOn}
use Rattle.game_rules.proofs.Undo.{stone_back, lift_back, unwon_back}
use Rattle.threat_moves.proofs.moves.is_four_move.Goals as goal

pub undo-requires-clause-stone : goal.undo-requires-clause-stone
undo-requires-clause-stone g c =
    let b : Grid = g.V.Seen.position c.outcome.new.self in
    let on : outcome g.R.Rule.KIND b c.args.p ≡ GoesOn =
    ap (λ (w : Grid). outcome g.R.Rule.KIND w c.args.p) c.outcome.ensures.same ∙ sym c.in-GoesOn.ensures.outcome in
    stone_back g.R.Rule.KIND b _ c.args.p c.side-side.ensures.lawful on c.play.ensures.played

pub undo-requires-clause-unwon : goal.undo-requires-clause-unwon
undo-requires-clause-unwon g c =
    let b : Grid = g.V.Seen.position c.outcome.new.self in
    let on : outcome g.R.Rule.KIND b c.args.p ≡ GoesOn =
    ap (λ (w : Grid). outcome g.R.Rule.KIND w c.args.p) c.outcome.ensures.same ∙ sym c.in-GoesOn.ensures.outcome in
    unwon_back g.R.Rule.KIND b _ c.args.p c.side-side.ensures.lawful on c.play.ensures.played

pub returns-in-GoesOn-clause-same : goal.returns-in-GoesOn-clause-same
returns-in-GoesOn-clause-same g c =
    let b : Grid = g.V.Seen.position c.outcome.new.self in
    let on : outcome g.R.Rule.KIND b c.args.p ≡ GoesOn =
    ap (λ (w : Grid). outcome g.R.Rule.KIND w c.args.p) c.outcome.ensures.same ∙ sym c.in-GoesOn.ensures.outcome in
    c.undo.ensures.undone ∙ lift_back g.R.Rule.KIND b _ c.args.p c.side-side.ensures.lawful on c.play.ensures.played
    ∙ c.outcome.ensures.same
