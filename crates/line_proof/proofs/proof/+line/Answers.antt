use Rattle.std.proofs.Common.{rules, ◌≡◌, ℕ, ◌+◌, Bool, true, sym, ap, ◌∙◌, arith, refl}
use Rattle.std.proofs.Common.{None, sum_by}
use Rattle.game_rules.proofs.Common.{Grid, points_of, outcome, after, goes_on_with, has_five, loses_or, if_goes_on, behind_replies}
use Rattle.game_rules.specs.declared.Outcome.TheVariants.{GoesOn}
use Rattle.game_rules.proofs.Undo.{stone_back, lift_back, unwon_back}
use Rattle.line_proof.proofs.Common.{line_wins, line_tree, each_loses}
use Rattle.strategy_compiler.proofs.Growing.{grows-not, grows-then, writes-fails, writes-memory, writes-nothing, writes-tells, writes-then}
use Rattle.strategy_compiler.proofs.Growing.{writes-then-fails}
use Rattle.strategy_compiler.proofs.Standing.{compiled-lower}
use Rattle.strategy_graph.proofs.Rising.{replies-rising}
use Rattle.line_proof.proofs.Gathering.{answered-more, answers-below, answers-few, few-step, rest-step, lose-step, fails-step}
use Rattle.line_proof.proofs.Doubling.{hint-grown}
use Rattle.line_proof.proofs.Steps.{no_moves-wins, quick-wins, quick-most, told-move, move-tree, five-refutes, on-ok, writes-grown}
use Rattle.line_proof.proofs.proof.+line.Goals as goal

-- ---- the walk along the threats

pub prove_slow-returns-in_err-block-clause-writes : goal.prove_slow-returns-in_err-block-clause-writes
prove_slow-returns-in_err-block-clause-writes g t c = writes-memory _ _ _ _ (grows-not _ _ _ refl) (search rules)

pub prove_slow-returns-in-Some-clause-told : goal.prove_slow-returns-in-Some-clause-told
prove_slow-returns-in-Some-clause-told g t c =
    told-move _ _ _ _ _ c.requires.some (sym c.in-Some.is ∙ c.in_ok-block.ensures.block) c.requires.slow _ _ c.prove_move.ensures.told

pub prove_slow-returns-in-Some-clause-writes : goal.prove_slow-returns-in-Some-clause-writes
prove_slow-returns-in-Some-clause-writes g t c =
    rw (move-tree _ _ _ _ _ c.requires.some (sym c.in-Some.is ∙ c.in_ok-block.ensures.block) c.requires.slow) at c.prove_move.ensures.writes

pub prove_slow-returns-in-None-clause-told : goal.prove_slow-returns-in-None-clause-told
prove_slow-returns-in-None-clause-told g t c =
    told-move _ _ _ _ None c.requires.some (sym c.in-None.is ∙ c.in_ok-block.ensures.block) c.requires.slow _ _ c.prove_gain.ensures.told

pub prove_slow-returns-in-None-clause-writes : goal.prove_slow-returns-in-None-clause-writes
prove_slow-returns-in-None-clause-writes g t c =
    rw (move-tree _ _ _ _ None c.requires.some (sym c.in-None.is ∙ c.in_ok-block.ensures.block) c.requires.slow) at
    c.prove_gain.ensures.writes

-- ---- the move

pub prove_move-returns-in-GoesOn-clause-told : goal.prove_move-returns-in-GoesOn-clause-told
prove_move-returns-in-GoesOn-clause-told g t c =
    let b : Grid = g.V.Seen.position c.args.view.now in
    let on : outcome g.R.Rule.KIND b c.args.p ≡ GoesOn = search rules in
    let lost : Grid → Bool = λ w. each_loses g.R.Rule.KIND (after w c.args.p)
    (line_wins g.R.Rule.KIND c.args.line.threats.now c.args.line.moves) in
    rw (ap (λ o. goes_on_with o (lost b)) on) (rw c.in-GoesOn.ensures.same at c.prove_on.ensures.told)

pub prove_move-returns-in-GoesOn-clause-writes : goal.prove_move-returns-in-GoesOn-clause-writes
prove_move-returns-in-GoesOn-clause-writes g t c =
    let b : Grid = g.V.Seen.position c.args.view.now in
    let on : outcome g.R.Rule.KIND b c.args.p ≡ GoesOn = search rules in
    let count : Grid → ℕ = λ w. behind_replies g.R.Rule.KIND (line_tree g.R.Rule.KIND c.args.line.threats.now c.args.line.moves)
    (after w c.args.p) in
    rw (ap (λ o. if_goes_on o (count b)) on) (rw c.in-GoesOn.ensures.same at c.prove_on.ensures.writes)

-- ---- its replies, and the node

pub prove_on-returns-in_err-answers_after-clause-writes : goal.prove_on-returns-in_err-answers_after-clause-writes
prove_on-returns-in_err-answers_after-clause-writes g t c =
    writes-fails _ _ _ _ _ _ c.in_err-answers_after.ensures.writes (omega arith) (search rules)

pub prove_on-returns-in-None-clause-told : goal.prove_on-returns-in-None-clause-told
prove_on-returns-in-None-clause-told g t c = rw c.in-None.is at c.in_ok-answers_after.ensures.found

pub prove_on-returns-in-None-clause-writes : goal.prove_on-returns-in-None-clause-writes
prove_on-returns-in-None-clause-writes g t c = writes-tells _ _ _ _ _ _ c.in_ok-answers_after.ensures.writes (omega arith)

pub prove_on-fork-requires-clause-rising : goal.prove_on-fork-requires-clause-rising
prove_on-fork-requires-clause-rising g t c =
    let d : Grid = after (g.V.Seen.position c.args.view.now) c.args.p in
    let found = rw c.in-Some.is at c.in_ok-answers_after.ensures.found in
    replies-rising d (λ q. goes_on_with (outcome g.R.Rule.KIND d q) true) _ found.1.all

pub prove_on-fork-requires-clause-below : goal.prove_on-fork-requires-clause-below
prove_on-fork-requires-clause-below g t c =
    let found = rw c.in-Some.is at c.in_ok-answers_after.ensures.found in
    answers-below _ _ _ _ _ found.1.answers.wins

pub prove_on-fork-requires-clause-few_moves : goal.prove_on-fork-requires-clause-few_moves
prove_on-fork-requires-clause-few_moves g t c =
    let found = rw c.in-Some.is at c.in_ok-answers_after.ensures.found in
    let few = answers-few _ _ _ _ _ found.1.answers in
    omega (arith, few, c.requires.fits)

pub prove_on-returns-in_err-fork-in-Some-clause-writes : goal.prove_on-returns-in_err-fork-in-Some-clause-writes
prove_on-returns-in_err-fork-in-Some-clause-writes g t c =
    writes-then-fails _ _ _ _ _ _ _ _ _ c.in_ok-answers_after.ensures.writes c.in_err-fork-in-Some.ensures.writes (omega arith)
    (search rules)

pub prove_on-returns-in_ok-fork-in-Some-clause-told : goal.prove_on-returns-in_ok-fork-in-Some-clause-told
prove_on-returns-in_ok-fork-in-Some-clause-told g t c =
    let b : Grid = g.V.Seen.position c.args.view.now in
    let found = rw c.in-Some.is at c.in_ok-answers_after.ensures.found in (
      found.0,
      c.in_ok-fork-in-Some.ensures.win g.R.Rule.KIND c.args.line.moves b (line_wins g.R.Rule.KIND c.args.line.threats.now c.args.line.moves)
          c.requires.goes_on found.0 found.1,
    )

pub prove_on-returns-in_ok-fork-in-Some-clause-writes : goal.prove_on-returns-in_ok-fork-in-Some-clause-writes
prove_on-returns-in_ok-fork-in-Some-clause-writes g t c =
    writes-tells _ _ _ _ _ _ (writes-then _ _ _ _ _
    (1 + behind_replies g.R.Rule.KIND (line_tree g.R.Rule.KIND c.args.line.threats.now c.args.line.moves)
    (after (g.V.Seen.position c.args.view.now) c.args.p)) _ _ c.in_ok-answers_after.ensures.writes c.in_ok-fork-in-Some.ensures.writes
    (omega arith)) (omega arith)

-- ---- a move, taken back

pub answers_after-undo-requires-clause-stone : goal.answers_after-undo-requires-clause-stone
answers_after-undo-requires-clause-stone g t c =
    stone_back _ _ _ _ c.play.ensures.lawful c.requires.goes_on (c.answer_each-found.ensures.same ∙ c.play.ensures.played)

pub answers_after-undo-requires-clause-unwon : goal.answers_after-undo-requires-clause-unwon
answers_after-undo-requires-clause-unwon g t c =
    unwon_back _ _ _ _ c.play.ensures.lawful c.requires.goes_on (c.answer_each-found.ensures.same ∙ c.play.ensures.played)

pub answers_after-returns-clause-found : goal.answers_after-returns-clause-found
answers_after-returns-clause-found g t c = rw c.play.ensures.played at c.answer_each-found.ensures.found

pub answers_after-returns-clause-writes : goal.answers_after-returns-clause-writes
answers_after-returns-clause-writes g t c = rw c.play.ensures.played at c.answer_each-found.ensures.writes

pub answers_after-returns-clause-same : goal.answers_after-returns-clause-same
answers_after-returns-clause-same g t c =
    c.undo.ensures.undone ∙ lift_back _ _ _ _ c.play.ensures.lawful c.requires.goes_on
    (c.answer_each-found.ensures.same ∙ c.play.ensures.played)

-- ---- all replies

pub answer_each-returns-then-has_five-clause-found : goal.answer_each-returns-then-has_five-clause-found
answer_each-returns-then-has_five-clause-found g t c =
    let b : Grid = g.V.Seen.position c.args.view.now in
    five-refutes g.R.Rule.KIND b (line_wins g.R.Rule.KIND c.args.line.threats.now c.args.line.moves)
    (sym (ap (has_five g.R.Rule.KIND b) c.side-defender.ensures.side) ∙ sym c.has_five.ensures.five ∙ c.if-has_five.true)

pub answer_each-returns-then-has_five-clause-writes : goal.answer_each-returns-then-has_five-clause-writes
answer_each-returns-then-has_five-clause-writes g t c = writes-nothing _ _ _ _ c.requires.compiled refl

pub answer_each-returns-in_err-block-clause-writes : goal.answer_each-returns-in_err-block-clause-writes
answer_each-returns-in_err-block-clause-writes g t c = writes-memory _ _ _ _ (grows-not _ _ _ refl) (search rules)

pub answer_each-loop-q-init : goal.answer_each-loop-q-init
answer_each-loop-q-init g t c =
    let b : Grid = g.V.Seen.position c.args.view.now in
    let points : c.into_iter-q-iterator.result ≡ points_of b = c.into_iter-q-iterator.ensures.into_iter_gives
    ∙ c.points-q-items.ensures.points ∙ ap points_of c.board.ensures.board in
    let all = ap (sum_by (λ q. if_goes_on (outcome g.R.Rule.KIND b q)
    (line_tree g.R.Rule.KIND c.args.line.threats.now c.args.line.moves (after b q)))) points in
    record {
      same = refl;
      compiled = c.requires.compiled;
      left = omega (arith, all);
      grows = grows-not _ _ _ refl;
      hint = tt;
      answers = search rules;
      rest = search rules;
      lose = search rules;
    }

pub answer_each-loop-q-preserved : goal.answer_each-loop-q-preserved
answer_each-loop-q-preserved g t c =
    let b : Grid = g.V.Seen.position c.args.view.now in
    let v : Grid = g.V.Seen.position c.loop-q.view in
    let same : v ≡ b = c.loop-q.invariant.same in
    let loses : c.in_ok-answer_reply.field-0 ≡ true = c.if-not-branch.false in
    let left = c.loop-q.invariant.left in
    let more = rw loses at c.in_ok-answer_reply.ensures.answered in
    let split = few-step g.R.Rule.KIND b v same c.in-Some.q c.loop-q.q-iterator c.next.new.self c.in-Some.ensures.steps
    (line_tree g.R.Rule.KIND c.args.line.threats.now c.args.line.moves) in
    record {
      same = c.in_ok-answer_reply.ensures.same ∙ same;
      compiled = c.in_ok-answer_reply.ensures.writes.compiled;
      left = omega (arith, left, split);
      grows = grows-then _ _ _ _ _ _ c.loop-q.invariant.grows c.in_ok-answer_reply.ensures.writes.grows (omega (arith, left, split));
      hint = rw same at c.in_ok-answer_reply.ensures.hint;
      answers = rw same at more.1;
      rest = rest-step g.R.Rule.KIND b v same c.in-Some.q c.loop-q.q-iterator c.next.new.self c.in-Some.ensures.steps _ _ more.2
          ∙ c.loop-q.invariant.rest;
      lose = lose-step g.R.Rule.KIND b v same c.in-Some.q c.loop-q.q-iterator c.next.new.self c.in-Some.ensures.steps
          (line_wins g.R.Rule.KIND c.args.line.threats.now c.args.line.moves) true (sym more.0) refl ∙ c.loop-q.invariant.lose;
    }

pub answer_each-returns-then-not-branch-clause-found : goal.answer_each-returns-then-not-branch-clause-found
answer_each-returns-then-not-branch-clause-found g t c =
    let won : Grid → Bool = line_wins g.R.Rule.KIND c.args.line.threats.now c.args.line.moves in
    let stays = rw c.if-not-branch.true at c.in_ok-answer_reply.ensures.answered in
    sym c.loop-q.invariant.lose ∙ fails-step _ _ _ c.loop-q.invariant.same _ _ _ c.in-Some.ensures.steps won stays

pub answer_each-returns-in_err-answer_reply-clause-writes : goal.answer_each-returns-in_err-answer_reply-clause-writes
answer_each-returns-in_err-answer_reply-clause-writes g t c =
    let b : Grid = g.V.Seen.position c.args.view.now in
    let v : Grid = g.V.Seen.position c.loop-q.view in
    let left = c.loop-q.invariant.left in
    let split = few-step g.R.Rule.KIND b v c.loop-q.invariant.same c.in-Some.q c.loop-q.q-iterator c.next.new.self c.in-Some.ensures.steps
    (line_tree g.R.Rule.KIND c.args.line.threats.now c.args.line.moves) in
    let before = writes-grown c.args.compiler.now c.loop-q.compiler _ c.args.line.moves c.loop-q.invariant.grows
    c.loop-q.invariant.compiled in
    writes-then-fails _ _ _ _ _ _ _ _ _ before c.in_err-answer_reply.ensures.writes (omega (arith, left, split)) (search rules)

pub answer_each-returns-then-not-branch-clause-writes : goal.answer_each-returns-then-not-branch-clause-writes
answer_each-returns-then-not-branch-clause-writes g t c =
    let b : Grid = g.V.Seen.position c.args.view.now in
    let v : Grid = g.V.Seen.position c.loop-q.view in
    let left = c.loop-q.invariant.left in
    let split = few-step g.R.Rule.KIND b v c.loop-q.invariant.same c.in-Some.q c.loop-q.q-iterator c.next.new.self c.in-Some.ensures.steps
    (line_tree g.R.Rule.KIND c.args.line.threats.now c.args.line.moves) in
    let before = writes-grown c.args.compiler.now c.loop-q.compiler _ c.args.line.moves c.loop-q.invariant.grows
    c.loop-q.invariant.compiled in
    writes-tells _ _ _ _ _ _ (writes-then _ _ _ _ _
    (behind_replies g.R.Rule.KIND (line_tree g.R.Rule.KIND c.args.line.threats.now c.args.line.moves) b) _ _
    before c.in_ok-answer_reply.ensures.writes (omega (arith, left, split))) (omega arith)

-- ---- one reply

pub answer_reply-returns-in-Refused-clause-writes : goal.answer_reply-returns-in-Refused-clause-writes
answer_reply-returns-in-Refused-clause-writes g t c = writes-nothing _ _ _ _ c.requires.compiled refl

pub answer_reply-returns-in-Wins-clause-writes : goal.answer_reply-returns-in-Wins-clause-writes
answer_reply-returns-in-Wins-clause-writes g t c = writes-nothing _ _ _ _ c.requires.compiled refl

pub answer_reply-returns-in-GoesOn-clause-answered : goal.answer_reply-returns-in-GoesOn-clause-answered
answer_reply-returns-in-GoesOn-clause-answered g t c = rw c.in-GoesOn.ensures.same at c.answer_on.ensures.answered

pub answer_reply-returns-in-GoesOn-clause-hint : goal.answer_reply-returns-in-GoesOn-clause-hint
answer_reply-returns-in-GoesOn-clause-hint g t c = rw c.in-GoesOn.ensures.same at c.answer_on.ensures.hint

pub answer_reply-returns-in-GoesOn-clause-writes : goal.answer_reply-returns-in-GoesOn-clause-writes
answer_reply-returns-in-GoesOn-clause-writes g t c =
    let b : Grid = g.V.Seen.position c.args.view.now in
    let on : outcome g.R.Rule.KIND b c.args.q ≡ GoesOn = search rules in
    let count : Grid → ℕ = λ w. line_tree g.R.Rule.KIND c.args.line.threats.now c.args.line.moves (after w c.args.q) in
    rw (ap (λ o. if_goes_on o (count b)) on) (rw c.in-GoesOn.ensures.same at c.answer_on.ensures.writes)

pub answer_on-returns-in_err-prove_after-clause-writes : goal.answer_on-returns-in_err-prove_after-clause-writes
answer_on-returns-in_err-prove_after-clause-writes g t c =
    writes-fails _ _ _ _ _ _ c.in_err-prove_after.ensures.writes (omega arith) (search rules)

pub answer_on-returns-in_err-add-in-Proved-clause-writes : goal.answer_on-returns-in_err-add-in-Proved-clause-writes
answer_on-returns-in_err-add-in-Proved-clause-writes g t c = writes-memory _ _ _ _ c.in_ok-prove_after.ensures.writes.grows (search rules)

pub answer_on-returns-in-Fails-clause-answered : goal.answer_on-returns-in-Fails-clause-answered
answer_on-returns-in-Fails-clause-answered g t c =
    let b : Grid = g.V.Seen.position c.args.view.now in
    let won : Grid → Bool = line_wins g.R.Rule.KIND c.args.line.threats.now c.args.line.moves in
    let told = rw c.in-Fails.is at c.in_ok-prove_after.ensures.told in
    ap (λ o. loses_or o (won (after b c.args.q))) c.requires.goes_on ∙ told

pub answer_on-returns-in-Fails-clause-writes : goal.answer_on-returns-in-Fails-clause-writes
answer_on-returns-in-Fails-clause-writes g t c = writes-tells _ _ _ _ _ _ c.in_ok-prove_after.ensures.writes (omega arith)

pub answer_on-returns-in_ok-add-in-Proved-clause-answered : goal.answer_on-returns-in_ok-add-in-Proved-clause-answered
answer_on-returns-in_ok-add-in-Proved-clause-answered g t c =
    let won : Grid → Bool = line_wins g.R.Rule.KIND c.args.line.threats.now c.args.line.moves in
    let told = rw c.in-Proved.is at c.in_ok-prove_after.ensures.told in
    answered-more _ _ _ _ _ _ _ won _ _ _ (compiled-lower _ c.requires.compiled) c.in_ok-prove_after.ensures.writes.grows c.requires.goes_on
    told c.in_ok-add-in-Proved.ensures.added c.in_ok-add-in-Proved.ensures.most c.requires.answers

pub answer_on-returns-in_ok-add-in-Proved-clause-writes : goal.answer_on-returns-in_ok-add-in-Proved-clause-writes
answer_on-returns-in_ok-add-in-Proved-clause-writes g t c = writes-tells _ _ _ _ _ _ c.in_ok-prove_after.ensures.writes (omega arith)

-- ---- a reply, taken back

pub prove_after-undo-requires-clause-stone : goal.prove_after-undo-requires-clause-stone
prove_after-undo-requires-clause-stone g t c =
    stone_back _ _ _ _ c.play.ensures.lawful c.requires.goes_on (c.prove_reply-found.ensures.same ∙ c.play.ensures.played)

pub prove_after-undo-requires-clause-unwon : goal.prove_after-undo-requires-clause-unwon
prove_after-undo-requires-clause-unwon g t c =
    unwon_back _ _ _ _ c.play.ensures.lawful c.requires.goes_on (c.prove_reply-found.ensures.same ∙ c.play.ensures.played)

pub prove_after-returns-clause-same : goal.prove_after-returns-clause-same
prove_after-returns-clause-same g t c =
    c.undo.ensures.undone ∙ lift_back _ _ _ _ c.play.ensures.lawful c.requires.goes_on
    (c.prove_reply-found.ensures.same ∙ c.play.ensures.played)

pub prove_after-returns-clause-told : goal.prove_after-returns-clause-told
prove_after-returns-clause-told g t c = rw c.play.ensures.played at c.prove_reply-found.ensures.told

pub prove_after-returns-clause-hint : goal.prove_after-returns-clause-hint
prove_after-returns-clause-hint g t c = rw c.play.ensures.played at c.prove_reply-found.ensures.hint

pub prove_after-returns-clause-writes : goal.prove_after-returns-clause-writes
prove_after-returns-clause-writes g t c = rw c.play.ensures.played at c.prove_reply-found.ensures.writes

-- ---- after a reply

pub prove_reply-returns-then-line-eq0-clause-told : goal.prove_reply-returns-then-line-eq0-clause-told
prove_reply-returns-then-line-eq0-clause-told g t c =
    let b : Grid = g.V.Seen.position c.args.view.now in
    ap (λ (k : ℕ). line_wins g.R.Rule.KIND c.args.line.threats.now k b) c.if-line-eq0.true ∙ no_moves-wins _ _ _

pub prove_reply-returns-then-line-eq0-clause-writes : goal.prove_reply-returns-then-line-eq0-clause-writes
prove_reply-returns-then-line-eq0-clause-writes g t c = writes-nothing _ _ _ _ c.requires.compiled refl

pub prove_reply-returns-in_err-win-clause-writes : goal.prove_reply-returns-in_err-win-clause-writes
prove_reply-returns-in_err-win-clause-writes g t c =
    let some = c.if-line-eq0.false in
    writes-fails _ _ _ _ _ _ c.in_err-win.ensures.writes (quick-most _ _ _ _ (omega (arith, some))) (search rules)

pub prove_reply-returns-in-Some-clause-told : goal.prove_reply-returns-in-Some-clause-told
prove_reply-returns-in-Some-clause-told g t c =
    let some = c.if-line-eq0.false in
    let found = rw c.in-Some.is at c.in_ok-win.ensures.found in
    (quick-wins _ _ _ _ (omega (arith, some)) found.0, found.1)

pub prove_reply-returns-in-Some-clause-writes : goal.prove_reply-returns-in-Some-clause-writes
prove_reply-returns-in-Some-clause-writes g t c =
    let some = c.if-line-eq0.false in
    writes-tells _ _ _ _ _ _ c.in_ok-win.ensures.writes (quick-most _ _ _ _ (omega (arith, some)))

pub prove_reply-returns-in-None-clause-told : goal.prove_reply-returns-in-None-clause-told
prove_reply-returns-in-None-clause-told g t c = rw c.in_ok-win.ensures.same at c.prove_slow.ensures.told

pub prove_reply-returns-in-None-clause-writes : goal.prove_reply-returns-in-None-clause-writes
prove_reply-returns-in-None-clause-writes g t c =
    let found = rw c.in-None.is at c.in_ok-win.ensures.found in
    rw (← found.1) (rw c.in_ok-win.ensures.same at c.prove_slow.ensures.writes)

pub prove_reply-returns-in-None-clause-hint : goal.prove_reply-returns-in-None-clause-hint
prove_reply-returns-in-None-clause-hint g t c =
    let b : Grid = g.V.Seen.position c.args.view.now in
    on-ok _ (hint-grown b.width b.height _ _ _ _ (compiled-lower _ c.in_ok-win.ensures.writes.compiled) c.prove_slow.ensures.writes.grows
    c.in_ok-win.ensures.hint)
