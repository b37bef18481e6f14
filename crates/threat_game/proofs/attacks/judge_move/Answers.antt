use Rattle.std.proofs.Common.{◌≡◌, true, false, ap, sym, ◌∙◌}
use Rattle.game_rules.proofs.Common.{Grid, has_five, outcome, mover, other, after}
use Rattle.game_rules.specs.declared.Outcome.TheVariants.{GoesOn}
use Rattle.game_rules.proofs.Positions.{GoesOn-empty}
use Rattle.threat_game.proofs.Common.{is_threat_move, best_reply}
use Rattle.row_shapes.proofs.FiveLaws.{not_taken-five, taken-none}
use Rattle.threat_game.proofs.AttackLaws.{threat-goes_on, no_threat-passed, unsafe-passed, reply-tried, saved-passed, fouls-last}
use Rattle.threat_game.proofs.attacks.judge_move.Goals as goal

pub returns-then-not-takes-clause-attempt : goal.returns-then-not-takes-clause-attempt
returns-then-not-takes-clause-attempt g c =
    let b : Grid = g.V.Seen.position c.args.view.now in
    unsafe-passed g.R.Rule.KIND b c.args.p c.requires.lawful
    (λ empty. not_taken-five g.R.Rule.KIND b (mover b) c.args.p c.requires.lawful.board empty c.args.threat c.requires.told
    (sym c.takes.ensures.takes ∙ c.if-not-takes.true))

pub returns-then-not-is_new_threat-clause-attempt : goal.returns-then-not-is_new_threat-clause-attempt
returns-then-not-is_new_threat-clause-attempt g c =
    no_threat-passed g.R.Rule.KIND (g.V.Seen.position c.args.view.now) c.args.p
    (sym c.is_new_threat.ensures.threat ∙ c.if-not-is_new_threat.true)

pub best_reply_to-requires : goal.best_reply_to-requires
best_reply_to-requires g c =
    let b : Grid = g.V.Seen.position c.args.view.now in
    let threat : is_threat_move g.R.Rule.KIND b c.args.p ≡ true = sym c.is_new_threat.ensures.threat ∙ c.if-not-is_new_threat.false in
    record {
      on = ap (λ (w : Grid). outcome g.R.Rule.KIND w c.args.p) c.is_new_threat.ensures.same
          ∙ threat-goes_on g.R.Rule.KIND b c.args.p threat;
    }

pub returns-in-GoesOn-clause-attempt : goal.returns-in-GoesOn-clause-attempt
returns-in-GoesOn-clause-attempt g c =
    let b : Grid = g.V.Seen.position c.args.view.now in
    let threat : is_threat_move g.R.Rule.KIND b c.args.p ≡ true = sym c.is_new_threat.ensures.threat ∙ c.if-not-is_new_threat.false in
    let on : outcome g.R.Rule.KIND b c.args.p ≡ GoesOn = threat-goes_on g.R.Rule.KIND b c.args.p threat in
    let safe : has_five g.R.Rule.KIND (after b c.args.p) (other (mover b)) ≡ false =
    taken-none g.R.Rule.KIND b (mover b) c.args.p c.requires.lawful.board (GoesOn-empty g.R.Rule.KIND b c.args.p on) c.args.threat
    c.requires.told (sym c.takes.ensures.takes ∙ c.if-not-takes.false) in
    reply-tried g.R.Rule.KIND b c.args.p threat safe
    (ap (λ (w : Grid). best_reply g.R.Rule.KIND (after w c.args.p)) (sym c.is_new_threat.ensures.same) ∙ sym c.in-GoesOn.ensures.best)

pub returns-in-Saves-clause-attempt : goal.returns-in-Saves-clause-attempt
returns-in-Saves-clause-attempt g c =
    let b : Grid = g.V.Seen.position c.args.view.now in
    let threat : is_threat_move g.R.Rule.KIND b c.args.p ≡ true = sym c.is_new_threat.ensures.threat ∙ c.if-not-is_new_threat.false in
    let on : outcome g.R.Rule.KIND b c.args.p ≡ GoesOn = threat-goes_on g.R.Rule.KIND b c.args.p threat in
    let safe : has_five g.R.Rule.KIND (after b c.args.p) (other (mover b)) ≡ false =
    taken-none g.R.Rule.KIND b (mover b) c.args.p c.requires.lawful.board (GoesOn-empty g.R.Rule.KIND b c.args.p on) c.args.threat
    c.requires.told (sym c.takes.ensures.takes ∙ c.if-not-takes.false) in
    saved-passed g.R.Rule.KIND b c.args.p threat safe
    (ap (λ (w : Grid). best_reply g.R.Rule.KIND (after w c.args.p)) (sym c.is_new_threat.ensures.same) ∙ sym c.in-Saves.ensures.best)

pub returns-in-Fouls-clause-attempt : goal.returns-in-Fouls-clause-attempt
returns-in-Fouls-clause-attempt g c =
    let b : Grid = g.V.Seen.position c.args.view.now in
    let threat : is_threat_move g.R.Rule.KIND b c.args.p ≡ true = sym c.is_new_threat.ensures.threat ∙ c.if-not-is_new_threat.false in
    fouls-last g.R.Rule.KIND b c.args.p threat
    (ap (λ (w : Grid). best_reply g.R.Rule.KIND (after w c.args.p)) (sym c.is_new_threat.ensures.same) ∙ sym c.in-Fouls.ensures.best)
