use Rattle.std.proofs.Common.{◌≡◌, ℕ, zero, ◌+◌, ◌-◌, sym, subst, ◌∙◌, arith, slice_index_or}
use Rattle.std.proofs.lemmas.List.{drop_more}
use Rattle.game_rules.proofs.Common.{Grid, IsPosition}
use Rattle.game_rules.specs.declared.Point.{Point}
use Rattle.game_rules.proofs.Undo.{stone_back, lift_back, unwon_back}
use Rattle.game_referee.proofs.Common.{WentOn}
use Rattle.game_referee.proofs.Playing.{LastMove, went-last}
use Rattle.game_referee.proofs.judging.take_back.Given.{Over}
use Rattle.game_referee.proofs.judging.take_back.Goals as goal

last_move : (g : Over) (c : goal.After-undo-arg-in-loop-back-1 g) (b : Grid) → IsPosition g.R.Rule.KIND b
    → WentOn g.R.Rule.KIND b c.args.moves.now (c.args.played - c.loop-back.back) c.loop-back.position
    → LastMove g.R.Rule.KIND b c.args.moves.now (c.args.played - 1 - c.loop-back.back)
    (slice_index_or c.args.moves.now (c.args.played - 1 - c.loop-back.back) (record { x = 0; y = 0 })) c.loop-back.position
last_move g c b lawful went =
    let none : Point = record { x = 0; y = 0 } in
    let n : ℕ = c.args.played - 1 - c.loop-back.back in
    let here = c.loop-back-test.true in
    let within = c.requires.within in
    went-last g.R.Rule.KIND b c.args.moves.now (c.args.played - c.loop-back.back) n
    (slice_index_or c.args.moves.now n none) c.loop-back.position lawful (omega (arith, here))
    (drop_more c.args.moves.now n none (omega (arith, here, within))) went

pub undo-requires-clause-stone : goal.undo-requires-clause-stone
undo-requires-clause-stone g c =
    let from = c.loop-back.invariant.0 in
    let last = last_move g c from.0 from.1 from.2 in
    stone_back g.R.Rule.KIND last.board c.loop-back.position _ last.lawful last.on last.played

pub undo-requires-clause-unwon : goal.undo-requires-clause-unwon
undo-requires-clause-unwon g c =
    let from = c.loop-back.invariant.0 in
    let last = last_move g c from.0 from.1 from.2 in
    unwon_back g.R.Rule.KIND last.board c.loop-back.position _ last.lawful last.on last.played

pub loop-back-preserved : goal.loop-back-preserved
loop-back-preserved g c =
    let n : c.args.played - 1 - c.loop-back.back ≡ c.args.played - (c.loop-back.back + 1) = omega arith in
    let less : (b : Grid) → IsPosition g.R.Rule.KIND b
    → WentOn g.R.Rule.KIND b c.args.moves.now (c.args.played - c.loop-back.back) c.loop-back.position
    → WentOn g.R.Rule.KIND b c.args.moves.now (c.args.played - (c.loop-back.back + 1)) c.undo.new.self = λ b lawful went.
    let last = last_move g c.before b lawful went in
    let board = c.undo.ensures.undone ∙ lift_back g.R.Rule.KIND last.board c.loop-back.position _ last.lawful last.on last.played in
    subst (λ k. WentOn g.R.Rule.KIND b c.args.moves.now k c.undo.new.self) n
    (subst (WentOn g.R.Rule.KIND b c.args.moves.now (c.args.played - 1 - c.loop-back.back)) (sym board) last.went) in
    let from = c.loop-back.invariant.0 in
    ((from.0, from.1, less from.0 from.1 from.2), λ b lawful went. less b lawful (c.loop-back.invariant.1 b lawful went))

pub returns : goal.returns
returns g c = record {
  back = λ b lawful went.
      let none : c.args.played - c.loop-back.back ≡ zero = omega (arith, c.loop-back-test.false) in
      subst (λ k. WentOn g.R.Rule.KIND b c.args.moves.now k c.loop-back.position) none (c.loop-back.invariant.1 b lawful went);
}
