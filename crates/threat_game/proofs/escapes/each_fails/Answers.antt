use Rattle.std.proofs.Common.{◌≡◌, sym, subst, ◌∙◌, All, get_or}
use Rattle.std.proofs.lemmas.List.{take_all}
use Rattle.std.proofs.lemmas.List.Elements.{All-more}
use Rattle.game_rules.proofs.Common.{Grid, outcome, after}
use Rattle.game_rules.specs.declared.Outcome.TheVariants.{GoesOn}
use Rattle.game_rules.specs.declared.Point.{Point}
use Rattle.threat_game.specs.Replies.{HasEscape}
use Rattle.threat_game.proofs.escapes.each_fails.Goals as goal

-- the point that stands where none is
abbrev corner : Point
corner = record { x = 0; y = 0 }

pub fails_by-requires-clause-on : goal.fails_by-requires-clause-on
fails_by-requires-clause-on g c =
    subst (λ (b : Grid). outcome g.R.Rule.KIND b (get_or c.args.moves.now c.loop-p.p-index corner) ≡ GoesOn) (sym c.loop-p.invariant.0)
    (c.requires.on c.loop-p.p-index corner c.loop-p-test.true)

pub fails_by-requires-clause-copy : goal.fails_by-requires-clause-copy
fails_by-requires-clause-copy g c = c.loop-p.invariant.1 ∙ c.requires.copy ∙ sym c.loop-p.invariant.0

pub loop-p-preserved : goal.loop-p-preserved
loop-p-preserved g c = (
  c.in_ok-fails_by.ensures.same ∙ c.loop-p.invariant.0,
  c.in_ok-fails_by.ensures.same_board ∙ c.loop-p.invariant.1,
  All-more (λ p. HasEscape g.R.Rule.KIND 1 (after (g.V.Seen.position c.args.view.now) p)) c.args.moves.now c.loop-p.p-index corner
      c.loop-p-test.true c.loop-p.invariant.2
      (subst (λ (b : Grid). HasEscape g.R.Rule.KIND 1 (after b (get_or c.args.moves.now c.loop-p.p-index corner))) c.loop-p.invariant.0
      (c.in_ok-fails_by.ensures.escape c.if-not-branch.false)),
)

pub returns-clause-escapes : goal.returns-clause-escapes
returns-clause-escapes g c = λ yes.
    subst (All (λ p. HasEscape g.R.Rule.KIND 1 (after (g.V.Seen.position c.args.view.now) p)))
    (take_all c.loop-p.p-index c.args.moves.now c.loop-p-test.false) c.loop-p.invariant.2
