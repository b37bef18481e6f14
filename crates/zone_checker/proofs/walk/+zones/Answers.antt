use Rattle.std.proofs.Common.{rules, ◌≡◌, ℕ, ◌+◌, ◌<◌, refl, sym, ap, subst, ◌∙◌, arith, List, length, get_or}
use Rattle.std.proofs.lemmas.Result.{err_from_is_err_and}
use Rattle.std.proofs.lemmas.List.{get_or_default, length-map}
use Rattle.zone_checker.proofs.Common.{Grid, put, other, points_of, Side, Point, HasZone, AreCovered, IsEntered, IsGreatest, kept_back}
use Rattle.zone_checker.proofs.Common.{Mark, IsWithstoodBy, asked_of}
use Rattle.strategy_graph.specs.Lent.{lent_node}
use Rattle.strategy_graph.proofs.Filling.{IsTable-lower}
use Rattle.zone_checker.proofs.Counting.{answers-short, answers-took, pairs-some, replies-one, stopped-then, taken-all, taken-more}
use Rattle.zone_checker.proofs.Counting.{taken-short}
use Rattle.zone_checker.proofs.Replying.{idle-took, reply-idle, reply-found, reply-took, reply-stopped, replied-more, replied-all}
use Rattle.zone_checker.proofs.Steps.{four-fails, replies-greatest}
use Rattle.zone_checker.proofs.Walking.{taken-fails, restless-fails, left-greatest, left-stopped, left-took, won-greatest, won-took}
use Rattle.zone_checker.proofs.Walking.{answer-lower, asked-below, lifted-same, stone-there, same_size}
use Rattle.zone_checker.proofs.walk.+zones.Goals as goal

-- ---- a node

pub node_zone-returns-then-walk-eq0-clause-found : goal.node_zone-returns-then-walk-eq0-clause-found
node_zone-returns-then-walk-eq0-clause-found g t c = λ n h.
    let some = pairs-some g.R.Rule.KIND c.args.ground.table.now c.args.ground.side c.args.i c.args.walk.now.board n h in omega arith

pub node_zone-returns-then-not-is_empty-clause-found : goal.node_zone-returns-then-not-is_empty-clause-found
node_zone-returns-then-not-is_empty-clause-found g t c =
    λ z h. taken-fails g.R.Rule.KIND _ (IsTable-lower _ c.node-node.ensures.table) _ c.args.i c.args.walk.now.board
    (lent_node c.node-node.result) c.node-node.ensures.node (sym c.is_empty.ensures.empty ∙ c.if-not-is_empty.true) z h

pub node_zone-returns-then-is_five_point-clause-found : goal.node_zone-returns-then-is_five_point-clause-found
node_zone-returns-then-is_five_point-clause-found g t c =
    won-greatest g.R.Rule.KIND _ (IsTable-lower _ c.node-node.ensures.table) _ c.args.i c.args.walk.now.board
    (lent_node c.node-node.result) c.node-node.ensures.node (sym c.is_five_point.ensures.five ∙ c.if-is_five_point.true)
    (sym c.is_empty.ensures.empty ∙ c.if-not-is_empty.false) c.in-Ok.marks.items c.enter.new.marks.items c.enter.ensures.entered
    c.in-Ok.ensures.blanks c.in-Ok.ensures.size

pub node_zone-returns-then-is_five_point-clause-took : goal.node_zone-returns-then-is_five_point-clause-took
node_zone-returns-then-is_five_point-clause-took g t c =
    won-took g.R.Rule.KIND _ (IsTable-lower _ c.node-node.ensures.table) _ c.args.i c.args.walk.now.board
    (lent_node c.node-node.result) c.node-node.ensures.node (sym c.is_five_point.ensures.five ∙ c.if-is_five_point.true)
    (sym c.is_empty.ensures.empty ∙ c.if-not-is_empty.false) c.args.walk.now.left (omega arith)

pub node_zone-returns-in_default-rest : goal.node_zone-returns-in_default-rest
node_zone-returns-in_default-rest g t c = record {
  found = restless-fails g.R.Rule.KIND _
      (IsTable-lower _ c.node-node.ensures.table) _ c.args.i c.args.walk.now.board (lent_node c.node-node.result) c.node-node.ensures.node
      (sym c.is_five_point.ensures.five ∙ c.if-is_five_point.false) c.in_default-rest.not-To;
  same = refl;
  took = tt;
}

pub node_zone-withstand-withstood-requires : goal.node_zone-withstand-withstood-requires
node_zone-withstand-withstood-requires g t c =
    let below = asked-below c.args.ground.table.now c.args.i (lent_node c.node-node.result) c.in-To.rest
    (IsTable-lower _ c.node-node.ensures.table) c.node-node.ensures.node c.in-To.is in
    let points : c.args.ground.points.now ≡ points_of c.put.new.self = rw c.put.ensures.put c.requires.points in
    let bound : c.args.i < length c.args.ground.table.now + 1 = let l = c.requires.in_table in omega (arith, l) in
    search rules

pub node_zone-lift-requires : goal.node_zone-lift-requires
node_zone-lift-requires g t c = record {
  stone = stone-there c.args.walk.now.board _ _ c.args.ground.side c.node-node.result.attack
      (sym c.is_empty.ensures.empty ∙ c.if-not-is_empty.false) c.put.ensures.put c.withstand-withstood.ensures.same
      c.is_empty.ensures.board;
}

pub node_zone-returns-in-Ok-withstood-clause-same : goal.node_zone-returns-in-Ok-withstood-clause-same
node_zone-returns-in-Ok-withstood-clause-same g t c = lifted-same c.args.walk.now.board _ _ c.args.ground.side c.node-node.result.attack
    (sym c.is_empty.ensures.empty ∙ c.if-not-is_empty.false) c.put.ensures.put c.withstand-withstood.ensures.same _ c.lift.ensures.lift

pub node_zone-returns-in-Err-clause-same : goal.node_zone-returns-in-Err-clause-same
node_zone-returns-in-Err-clause-same g t c = lifted-same c.args.walk.now.board _ _ c.args.ground.side c.node-node.result.attack
    (sym c.is_empty.ensures.empty ∙ c.if-not-is_empty.false) c.put.ensures.put c.withstand-withstood.ensures.same _ c.lift.ensures.lift

pub node_zone-returns-in-Ok-withstood-clause-took : goal.node_zone-returns-in-Ok-withstood-clause-took
node_zone-returns-in-Ok-withstood-clause-took g t c = left-took g.R.Rule.KIND _ (IsTable-lower _ c.node-node.ensures.table) _ c.args.i
    c.args.walk.now.board (lent_node c.node-node.result) c.node-node.ensures.node c.in-To.rest c.in-To.is
    (sym c.is_five_point.ensures.five ∙ c.if-is_five_point.false) c.put.new.self c.put.ensures.put
    (sym c.is_empty.ensures.empty ∙ c.if-not-is_empty.false) c.args.walk.now.left _ (omega arith) c.in-Ok-withstood.ensures.took

pub node_zone-returns-in-Err-clause-found : goal.node_zone-returns-in-Err-clause-found
node_zone-returns-in-Err-clause-found g t c = left-stopped g.R.Rule.KIND _ (IsTable-lower _ c.node-node.ensures.table) _ c.args.i
    c.args.walk.now.board (lent_node c.node-node.result) c.node-node.ensures.node c.in-To.rest c.in-To.is
    (sym c.is_five_point.ensures.five ∙ c.if-is_five_point.false) c.put.new.self c.put.ensures.put
    (sym c.is_empty.ensures.empty ∙ c.if-not-is_empty.false) c.args.walk.now.left c.in-Err.stop (omega arith) c.in-Err.ensures.found

pub node_zone-returns-in-Ok-withstood-clause-found : goal.node_zone-returns-in-Ok-withstood-clause-found
node_zone-returns-in-Ok-withstood-clause-found g t c =
    let table = c.args.ground.table.now in
    let s = c.args.ground.side in
    let n = lent_node c.node-node.result in
    let b = c.args.walk.now.board in
    let ms = c.in-Ok-withstood.marks.items in
    let marks = c.enter-in-Ok-withstood.new.marks.items in
    let empty = sym c.is_empty.ensures.empty ∙ c.if-not-is_empty.false in
    let back = lifted-same b _ _ s n.attack empty c.put.ensures.put c.withstand-withstood.ensures.same _ c.lift.ensures.lift in
    let best = subst (λ (d : Grid). IsGreatest (IsWithstoodBy g.R.Rule.KIND table s (asked_of n.replies c.in-To.rest) d) d ms)
    c.put.ensures.put c.in-Ok-withstood.ensures.found in
    left-greatest g.R.Rule.KIND table (IsTable-lower _ c.node-node.ensures.table) s c.args.i b n c.node-node.ensures.node c.in-To.rest
    c.in-To.is (sym c.is_five_point.ensures.five ∙ c.if-is_five_point.false) empty ms marks
    (subst (λ (d : Grid). IsEntered d n.attack ms marks) back c.enter-in-Ok-withstood.ensures.entered) best
    (same_size b (put b s n.attack) _ s n.attack empty refl refl ms best.size)

-- ---- a reply

pub reply-returns-in_default-clause-replied : goal.reply-returns-in_default-clause-replied
reply-returns-in_default-clause-replied g t c = reply-idle _ _ _ _ _ _ _ c.requires.passed c.args.q _ c.in_default.ensures.walked

pub reply-returns-in_default-clause-took : goal.reply-returns-in_default-clause-took
reply-returns-in_default-clause-took g t c = idle-took _ _ _ _ _ _ _ c.requires.passed c.args.q c.in_default.ensures.walked _

pub reply-node_zone-found-requires : goal.reply-node_zone-found-requires
reply-node_zone-found-requires g t c =
    let points : c.args.ground.points.now ≡ points_of c.put.new.self = rw c.put.ensures.put c.requires.points in
    let below = answer-lower c.args.asked.replies.now c.args.asked.rest c.args.asked.bound c.args.q c.requires.below c.in-Some.next
    c.in-Some.ensures.walked.given in
    let l : c.in-Some.next < length c.args.ground.table.now = let bound = c.requires.bound in omega (arith, below, bound) in
    search rules

pub reply-lift-requires : goal.reply-lift-requires
reply-lift-requires g t c = record {
  stone = stone-there c.args.walk.now.board _ _ c.other.result c.args.q c.in-Some.ensures.walked.empty c.put.ensures.put
      c.node_zone-found.ensures.same c.in-Some.ensures.board;
}

pub reply-returns-in-Err-clause-replied : goal.reply-returns-in-Err-clause-replied
reply-returns-in-Err-clause-replied g t c =
    reply-stopped _ _ _ _ _ _ _ c.requires.passed c.args.q c.in-Some.next c.in-Some.ensures.walked c.put.new.self
    (c.put.ensures.put ∙ ap (λ (s : Side). put c.args.walk.now.board s c.args.q) c.other.ensures.other) c.args.walk.now.left c.in-Err.stop
    c.in-Err.ensures.found

pub reply-returns-in-Err-clause-same : goal.reply-returns-in-Err-clause-same
reply-returns-in-Err-clause-same g t c =
    lifted-same c.args.walk.now.board _ _ c.other.result c.args.q c.in-Some.ensures.walked.empty c.put.ensures.put
    c.node_zone-found.ensures.same _ c.lift.ensures.lift

pub reply-returns-in-Ok-clause-same : goal.reply-returns-in-Ok-clause-same
reply-returns-in-Ok-clause-same g t c =
    lifted-same c.args.walk.now.board _ _ c.other.result c.args.q c.in-Some.ensures.walked.empty c.put.ensures.put
    c.node_zone-found.ensures.same _ c.lift.ensures.lift

pub reply-returns-in-Ok-clause-took : goal.reply-returns-in-Ok-clause-took
reply-returns-in-Ok-clause-took g t c =
    reply-took _ _ _ _ _ _ _ c.requires.passed c.args.q c.in-Some.next c.in-Some.ensures.walked c.put.new.self
    (c.put.ensures.put ∙ ap (λ (s : Side). put c.args.walk.now.board s c.args.q) c.other.ensures.other) _ _ c.in-Ok.ensures.took

pub reply-returns-in-Ok-clause-replied : goal.reply-returns-in-Ok-clause-replied
reply-returns-in-Ok-clause-replied g t c =
    let b = c.args.walk.now.board in
    let old = c.args.marks.now.items in
    let after = c.put.ensures.put ∙ ap (λ (s : Side). put b s c.args.q) c.other.ensures.other in
    let best = c.in-Ok.ensures.found in
    reply-found g.R.Rule.KIND c.args.ground.table.now c.args.ground.side c.args.asked.replies.now c.args.asked.rest b c.args.passed.now
    c.requires.passed c.args.q c.in-Some.next c.in-Some.ensures.walked c.put.new.self after c.in-Ok.others.items old
    c.cover.new.marks.items best
    (subst (λ (ms : List Mark). AreCovered old ms c.cover.new.marks.items) c.deref.ensures.value c.cover.ensures.covered)
    (same_size b c.put.new.self _ (other c.args.ground.side) c.args.q c.in-Some.ensures.walked.empty after refl _ best.size
    ∙ sym c.requires.size)

-- ---- all replies

-- the next point, as the walk reads it
next-point : (ps : List Point) (i : ℕ) → i < length ps → (d : Point) → get_or ps i d ≡ get_or ps i (record { x = 0; y = 0 })
next-point ps i l d = get_or_default ps i d (record { x = 0; y = 0 }) l

pub reply_all-loop-q-preserved : goal.reply_all-loop-q-preserved
reply_all-loop-q-preserved g t c =
    let here = next-point c.args.ground.points.now c.loop-q.q-index c.loop-q-test.true in
    record {
      board = c.reply.ensures.same ∙ c.loop-q.invariant.board;
      taken = taken-more _ c.args.ground.points.now c.loop-q.q-index _ _ _ _ c.loop-q-test.true here c.loop-q.invariant.taken
          (rw c.loop-q.invariant.board at c.in_ok-reply.ensures.took);
      replied = replied-more _ _ _ _ _ c.args.ground.points.now c.loop-q.q-index _ _ _ _ c.loop-q.invariant.replied here
          (rw c.loop-q.invariant.board at c.in_ok-reply.ensures.replied);
    }

pub reply_all-returns-clause-replied : goal.reply_all-returns-clause-replied
reply_all-returns-clause-replied g t c =
    let all : c.loop-q.q-index ≡ length c.args.ground.points.now = omega arith in
    replied-all _ _ _ _ _ c.args.ground.points.now _ _ c.requires.points (rw all at c.loop-q.invariant.replied)

pub reply_all-returns-clause-took : goal.reply_all-returns-clause-took
reply_all-returns-clause-took g t c =
    taken-all _ c.args.ground.points.now _ c.requires.points c.loop-q.q-index _ _ (omega arith) c.loop-q.invariant.taken

pub reply_all-returns-in_err-reply-clause-replied : goal.reply_all-returns-in_err-reply-clause-replied
reply_all-returns-in_err-reply-clause-replied g t c =
    let here = next-point c.args.ground.points.now c.loop-q.q-index c.loop-q-test.true in
    let p = err_from_is_err_and c.from_residual.result c.from_residual.ensures.1 in
    rw (p.1, p.2) (stopped-then _ _ c.loop-q.walk.left c.args.walk.now.left _ _ c.in_err-reply.field-0.0 (λ none. none)
    (taken-short _ c.args.ground.points.now _ c.requires.points
    (replies-one _ _ _ (asked_of c.args.asked.replies.now c.args.asked.rest) _ _) c.loop-q.q-index _ _ _ c.loop-q-test.true here
    c.loop-q.invariant.taken) (rw c.loop-q.invariant.board at c.in_err-reply.ensures.replied))

-- ---- the answers of a node

pub withstand-returns-in-Ok-None-clause-found : goal.withstand-returns-in-Ok-None-clause-found
withstand-returns-in-Ok-None-clause-found g t c = four-fails c.args.ground.side (asked_of c.args.asked.replies.now c.args.asked.rest)
    (HasZone g.R.Rule.KIND c.args.ground.table.now c.args.ground.side) c.args.walk.now.board
    (rw c.in-Ok-None.field-0-is at c.in-Ok-None.ensures.opened)

pub withstand-returns-clause-found : goal.withstand-returns-clause-found
withstand-returns-clause-found g t c =
    let opened = rw c.in-Ok-Some.field-0-is at c.in-Ok-Some.ensures.opened in
    replies-greatest _ _ _ c.args.walk.now.board c.in_ok-passed.passed.items c.in-Ok-Some.marks.items _ _ c.args.asked.rest
    c.opened.ensures.board refl c.in_ok-passed.ensures.found opened (rw c.deref.ensures.value at c.cover_back.ensures.covered)
    (length-map c.in_ok-passed.passed.items kept_back ∙ c.in_ok-passed.ensures.found.size ∙ sym opened.size)
    (rw (c.deref-2.ensures.value, c.node_zone.ensures.same) at c.in_ok-reply_all.ensures.replied)

pub withstand-returns-in_err-reply_all-clause-found : goal.withstand-returns-in_err-reply_all-clause-found
withstand-returns-in_err-reply_all-clause-found g t c =
    let p = err_from_is_err_and c.from_residual-in_err-reply_all.result c.from_residual-in_err-reply_all.ensures.1 in
    rw (p.1, p.2) (stopped-then _ _ c.node_zone.new.walk.left c.args.walk.now.left _ _ c.in_err-reply_all.field-0.0 (λ none. none)
    (answers-short _ _ _ _ _ _ _ _ c.in_ok-passed.ensures.took) (rw c.node_zone.ensures.same at c.in_err-reply_all.ensures.replied))

pub withstand-returns-clause-took : goal.withstand-returns-clause-took
withstand-returns-clause-took g t c =
    answers-took _ _ _ _ _ _ _ _ c.in_ok-passed.ensures.took _ (rw c.node_zone.ensures.same at c.in_ok-reply_all.ensures.took)
