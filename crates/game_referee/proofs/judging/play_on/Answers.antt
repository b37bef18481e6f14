use Rattle.std.proofs.Common.{◌≡◌, ◌+◌, List, ◌∷◌, sym, ap, ◌∙◌, drop, slice_index_or}
use Rattle.std.proofs.lemmas.List.{drop_more}
use Rattle.game_rules.proofs.Common.{Grid, outcome, after, mover}
use Rattle.game_rules.specs.declared.Outcome.TheVariants.{GoesOn}
use Rattle.game_rules.specs.declared.Point.{Point}
use Rattle.game_referee.proofs.Playing.{played-end, played-more}
use Rattle.game_referee.proofs.judging.play_on.Goals as goal

pub returns-in-Some-clause-verdict : goal.returns-in-Some-clause-verdict
returns-in-Some-clause-verdict g c =
    let none : Point = record { x = 0; y = 0 } in
    let ms : List Point = c.args.moves.now in
    let p : Point = slice_index_or ms c.loop-played.played none in
    let at : drop c.loop-played.played ms ≡ p ∷ drop (c.loop-played.played + 1) ms =
    drop_more ms c.loop-played.played none c.loop-played-test.true in
    let side = c.side-mover.ensures.side ∙ ap mover c.outcome-outcome.ensures.same in
    played-end g.R.Rule.KIND c.args.position.now ms c.loop-played.played c.loop-played.position p c.outcome-outcome.result
    c.side-mover.result
    c.in-Some.verdict c.loop-played.invariant at c.outcome-outcome.ensures.outcome side c.in-Some.ensures.verdict

pub loop-played-preserved : goal.loop-played-preserved
loop-played-preserved g c =
    let none : Point = record { x = 0; y = 0 } in
    let ms : List Point = c.args.moves.now in
    let p : Point = slice_index_or ms c.loop-played.played none in
    let at : drop c.loop-played.played ms ≡ p ∷ drop (c.loop-played.played + 1) ms =
    drop_more ms c.loop-played.played none c.loop-played-test.true in
    let on : outcome g.R.Rule.KIND c.loop-played.position p ≡ GoesOn =
    sym c.outcome-outcome.ensures.outcome ∙ c.in_default.ensures.goes_on in
    let played : c.play.new.self ≡ after c.loop-played.position p = c.play.ensures.played
    ∙ ap (λ (w : Grid). after w p) c.outcome-outcome.ensures.same in
    played-more g.R.Rule.KIND c.args.position.now ms c.loop-played.played c.loop-played.position c.play.new.self p c.loop-played.invariant
    at on played
