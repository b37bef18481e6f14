use Rattle.std.proofs.Common.{◌≡◌, length, sym, ap, subst, ◌∙◌, arith, slice_index_or, option_and_then}
use Rattle.std.proofs.lemmas.List.{drop_more}
use Rattle.game_rules.proofs.Common.{Grid, after, outcome}
use Rattle.game_rules.specs.declared.Outcome.TheVariants.{GoesOn}
use Rattle.game_rules.specs.declared.Point.{Point}
use Rattle.game_referee.proofs.Common.{WentOn, in_turn}
use Rattle.game_referee.proofs.Playing.{played-few, follows-end, replayed-none, replayed-all, replayed-stray, replayed-over, replayed-end}
use Rattle.game_referee.proofs.Playing.{replayed-more}
use Rattle.game_referee.proofs.replaying.play_by.Goals as goal

pub loop-played-init : goal.loop-played-init
loop-played-init g c =
    replayed-none g.R.Rule.KIND c.args.table.now (in_turn c.args.table.now c.args.first) c.args.position.now c.args.moves.now
    c.requires.lawful

pub overflow_cast-result : goal.overflow_cast-result
overflow_cast-result g c =
    let few = played-few g.R.Rule.KIND c.args.position.now c.args.moves.now c.loop-played.played c.loop-played.position
    c.requires.lawful.board c.loop-played.invariant.on in
    omega (arith, few)

pub overflow_add-result : goal.overflow_add-result
overflow_add-result g c =
    let few = played-few g.R.Rule.KIND c.args.position.now c.args.moves.now c.loop-played.played c.loop-played.position
    c.requires.lawful.board c.loop-played.invariant.on in
    omega (arith, few)

pub returns-then-is_stray-clause-played : goal.returns-then-is_stray-clause-played
returns-then-is_stray-clause-played g c = c.loop-played.invariant.on.went

pub returns-then-is_stray-clause-answer : goal.returns-then-is_stray-clause-answer
returns-then-is_stray-clause-answer g c =
    let none : Point = record { x = 0; y = 0 } in
    replayed-stray g.R.Rule.KIND c.args.table.now (in_turn c.args.table.now c.args.first) c.args.position.now c.args.moves.now
    c.loop-played.played (in_turn c.args.table.now c.loop-played.turn) c.loop-played.position c.loop-played.invariant
    (slice_index_or c.args.moves.now c.loop-played.played none)
    (drop_more c.args.moves.now c.loop-played.played none c.loop-played-test.true)
    (sym c.is_stray.ensures.stray ∙ c.if-is_stray.true)

pub returns-in_default-clause-played : goal.returns-in_default-clause-played
returns-in_default-clause-played g c = c.loop-played.invariant.on.went

pub returns-in_default-clause-answer : goal.returns-in_default-clause-answer
returns-in_default-clause-answer g c =
    let none : Point = record { x = 0; y = 0 } in
    replayed-over g.R.Rule.KIND c.args.table.now (in_turn c.args.table.now c.args.first) c.args.position.now c.args.moves.now
    c.loop-played.played (in_turn c.args.table.now c.loop-played.turn) c.loop-played.position c.loop-played.invariant
    (slice_index_or c.args.moves.now c.loop-played.played none)
    (drop_more c.args.moves.now c.loop-played.played none c.loop-played-test.true)
    (sym c.is_stray.ensures.stray ∙ c.if-is_stray.false)
    (sym c.next_turn.ensures.next ∙ ap (option_and_then (in_turn c.args.table.now)) c.in_default.is)

pub loop-played-preserved : goal.loop-played-preserved
loop-played-preserved g c =
    let none : Point = record { x = 0; y = 0 } in
    let p : Point = slice_index_or c.args.moves.now c.loop-played.played none in
    let on : outcome g.R.Rule.KIND c.loop-played.position p ≡ GoesOn = sym c.outcome.ensures.outcome ∙ c.in-GoesOn.is in
    let played : c.play.new.self ≡ after c.loop-played.position p = c.play.ensures.played
    ∙ ap (λ (w : Grid). after w p) c.outcome.ensures.same in
    replayed-more g.R.Rule.KIND c.args.table.now (in_turn c.args.table.now c.args.first) c.args.position.now c.args.moves.now
    c.loop-played.played (in_turn c.args.table.now c.loop-played.turn) c.loop-played.position c.loop-played.invariant p
    (drop_more c.args.moves.now c.loop-played.played none c.loop-played-test.true) (sym c.is_stray.ensures.stray ∙ c.if-is_stray.false)
    (in_turn c.args.table.now c.in-Some.next) c.play.new.self c.in-Some.ensures.next on played

pub returns-clause-played : goal.returns-clause-played
returns-clause-played g c =
    let all : c.loop-played.played ≡ length c.args.moves.now = omega (arith, c.loop-played-test.false, c.loop-played.auto.played-end) in
    subst (λ n. WentOn g.R.Rule.KIND c.args.position.now c.args.moves.now n c.loop-played.position) all c.loop-played.invariant.on.went

pub returns-clause-answer : goal.returns-clause-answer
returns-clause-answer g c =
    replayed-all g.R.Rule.KIND c.args.table.now (in_turn c.args.table.now c.args.first) c.args.position.now c.args.moves.now
    c.loop-played.played (in_turn c.args.table.now c.loop-played.turn) c.loop-played.position c.loop-played.invariant
    (omega (arith, c.loop-played-test.false, c.loop-played.auto.played-end))

pub returns-in-Refused : goal.returns-in-Refused
returns-in-Refused g c =
    let none : Point = record { x = 0; y = 0 } in
    record {
      played = subst (WentOn g.R.Rule.KIND c.args.position.now c.args.moves.now c.loop-played.played) (sym c.outcome.ensures.same)
          c.loop-played.invariant.on.went;
      within = c.loop-played.auto.played-end;
      answer = replayed-end g.R.Rule.KIND c.args.table.now (in_turn c.args.table.now c.args.first) c.args.position.now c.args.moves.now
          c.loop-played.played (in_turn c.args.table.now c.loop-played.turn) c.loop-played.position c.loop-played.invariant
          (slice_index_or c.args.moves.now c.loop-played.played none)
          (drop_more c.args.moves.now c.loop-played.played none c.loop-played-test.true)
          (sym c.is_stray.ensures.stray ∙ c.if-is_stray.false)
          c.outcome.result c.outcome.ensures.outcome (follows-end c.outcome.result c.in-Refused.is c.loop-played.played);
    }
