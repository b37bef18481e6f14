use Rattle.std.proofs.Common.{◌≡◌, ap, sym, ◌∙◌}
use Rattle.game_rules.proofs.Common.{Grid, has_five, outcome, mover, after}
use Rattle.game_rules.specs.declared.Outcome.TheVariants.{GoesOn}
use Rattle.game_rules.proofs.Outcomes.{goes_on-is}
use Rattle.threat_game.proofs.ReplyLaws.{none-beside}
use Rattle.threat_game.proofs.escapes.escapes_by.Goals as goal

pub last_after-requires-clause-none : goal.last_after-requires-clause-none
last_after-requires-clause-none g c =
    let b : Grid = g.V.Seen.position c.args.view.now in
    let on : outcome g.R.Rule.KIND b c.args.q ≡ GoesOn =
    goes_on-is (outcome g.R.Rule.KIND b c.args.q) (sym c.goes_on.ensures.on ∙ c.if-not-goes_on.false) in
    ap (λ (w : Grid). has_five g.R.Rule.KIND (after w c.args.q) (mover (after w c.args.q))) c.goes_on.ensures.same
    ∙ none-beside g.R.Rule.KIND b c.args.q c.goes_on.ensures.lawful on c.args.fives.now c.requires.fives c.in-None.ensures.beside
