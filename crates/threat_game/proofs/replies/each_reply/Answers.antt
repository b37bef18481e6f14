use Rattle.std.proofs.Common.{rules, ◌≡◌, refl, sym, ap, subst, ◌∙◌, arith, find, List, [], ◌∷◌, Option, None, IfSome, All, filter, length}
use Rattle.std.proofs.Common.{not}
use Rattle.std.proofs.lemmas.Grind.{common_steps}
use Rattle.std.proofs.lemmas.List.Filters.{length-filter_both}
use Rattle.game_rules.proofs.Common.{Grid, IsPosition, points_of, five_points, has_five, mover, other}
use Rattle.open_windows.specs.PointSets.{has_point, TellsWindows}
use Rattle.threat_game.specs.declared.replies.Child.{Child}
use Rattle.threat_game.proofs.Common.{AreKept, EachGoesOn, EscapesBy, IsJudgement, IsKept, IsMetAt, StandsBy, TellsUnmet, first_with}
use Rattle.threat_game.proofs.Kept.{first-more, stands}
use Rattle.threat_game.proofs.MetLaws.{PartLeft, left-all, left-met, left-more, left-none, left-pass, passes-none}
use Rattle.open_windows.proofs.Points.{windows-of}
use Rattle.threat_game.proofs.replies.each_reply.Goals as goal

pub loop-q-init : goal.loop-q-init
loop-q-init g c =
    let b : Grid = g.V.Seen.position c.args.view.now in record {
      same = refl;
      same_board = refl;
      first = ap (find stands) (sym c.new-part.ensures.items);
      standing = tt;
      so_far = subst (λ (part : List Child). PartLeft g.R.Rule.KIND c.args.moves b part c.points-points.result)
          (sym c.new-part.ensures.items)
          (left-all g.R.Rule.KIND c.args.moves b c.points-points.result (has_point c.all.result)
          (c.points-points.ensures.points ∙ ap (λ (w : Grid). filter (has_point c.all.result) (points_of w)) c.board-2.ensures.board)
          (passes-none g.R.Rule.KIND b c.requires.lawful None c.all.result c.all.ensures.all));
    }

pub is_met_at-requires-clause-lawful : goal.is_met_at-requires-clause-lawful
is_met_at-requires-clause-lawful g c = subst (λ (b : Grid). IsPosition g.R.Rule.KIND b) (sym c.loop-q.invariant.same) c.requires.lawful

pub is_met_at-requires-clause-no_five : goal.is_met_at-requires-clause-no_five
is_met_at-requires-clause-no_five g c =
    ap (λ (b : Grid). has_five g.R.Rule.KIND b (mover b)) c.loop-q.invariant.same ∙ c.requires.no_five

pub is_met_at-requires-clause-fives : goal.is_met_at-requires-clause-fives
is_met_at-requires-clause-fives g c =
    c.requires.fives ∙ ap (λ (b : Grid). five_points g.R.Rule.KIND b (other (mover b))) (sym c.loop-q.invariant.same)

pub is_met_at-requires-clause-stands : goal.is_met_at-requires-clause-stands
is_met_at-requires-clause-stands g c = subst (λ (b : Grid). IfSome c.loop-q.standing (StandsBy g.R.Rule.KIND b c.loop-q.first))
    (sym c.loop-q.invariant.same) c.loop-q.invariant.standing

pub standing_double-standing-requires-clause-lawful : goal.standing_double-standing-requires-clause-lawful
standing_double-standing-requires-clause-lawful g c = subst (λ (b : Grid). IsPosition g.R.Rule.KIND b)
    (sym (c.judge.ensures.same ∙ c.loop-q.invariant.same)) c.requires.lawful

pub standing_double-standing-requires-clause-doubles : goal.standing_double-standing-requires-clause-doubles
standing_double-standing-requires-clause-doubles g c =
    subst (λ (b : Grid). All (IsKept g.R.Rule.KIND b (other (mover b))) c.args.doubles.now)
    (sym (c.judge.ensures.same ∙ c.loop-q.invariant.same)) c.requires.doubles.each

pub loop-q-preserved : goal.loop-q-preserved
loop-q-preserved g c =
    let next : c.loop-q.points ≡ c.in-Some.q ∷ c.next.new.self = first_of (search rules, grind (arith, common_steps)) in record {
      same = c.loop-q.invariant.same;
      same_board = c.loop-q.invariant.same_board;
      first = c.loop-q.invariant.first;
      standing = c.loop-q.invariant.standing;
      so_far = left-met g.R.Rule.KIND c.args.moves (g.V.Seen.position c.args.view.now) c.loop-q.part.items c.loop-q.points
          c.loop-q.invariant.so_far c.in-Some.q c.next.new.self next (g.V.Seen.position c.loop-q.view)
          c.loop-q.invariant.same
          (λ on. subst (λ (o : Option Child). IsMetAt g.R.Rule.KIND (g.V.Seen.position c.loop-q.view) o c.in-Some.q)
          c.loop-q.invariant.first (c.is_met_at.ensures.met c.if-not-is_met_at.false on));
    }

pub loop-q-preserved-in-NoReply : goal.loop-q-preserved-in-NoReply
loop-q-preserved-in-NoReply g c =
    let next : c.loop-q.points ≡ c.in-Some.q ∷ c.next.new.self = first_of (search rules, grind (arith, common_steps)) in record {
      same = c.judge.ensures.same ∙ c.loop-q.invariant.same;
      same_board = c.judge.ensures.same_board ∙ c.loop-q.invariant.same_board;
      first = c.loop-q.invariant.first;
      standing = c.loop-q.invariant.standing;
      so_far = left-pass g.R.Rule.KIND c.args.moves (g.V.Seen.position c.args.view.now) c.loop-q.part.items c.loop-q.points
          c.loop-q.invariant.so_far c.in-Some.q c.next.new.self next (g.V.Seen.position c.loop-q.view)
          c.loop-q.invariant.same
          (subst (IsJudgement g.R.Rule.KIND c.args.moves (g.V.Seen.position c.loop-q.view) c.in-Some.q) c.in-NoReply.is
          c.in_ok-judge.ensures.judgement);
    }

pub loop-q-preserved-in-Known : goal.loop-q-preserved-in-Known
loop-q-preserved-in-Known g c =
    let b : Grid = g.V.Seen.position c.args.view.now in
    let next : c.loop-q.points ≡ c.in-Some.q ∷ c.next.new.self = first_of (search rules, grind (arith, common_steps)) in
    let same = c.judge.ensures.same ∙ c.loop-q.invariant.same in
    let first = c.first_with-first.ensures.first
    ∙ ap (λ (o : Option Child). first_with o (record { at = c.in-Some.q; judged = c.in-Known.judged })) c.loop-q.invariant.first
    ∙ sym (first-more c.loop-q.part.items (record { at = c.in-Some.q; judged = c.in-Known.judged }))
    ∙ ap (find stands) (sym c.in_ok-push-in-Known.ensures.items) in record {
      same = same;
      same_board = c.judge.ensures.same_board ∙ c.loop-q.invariant.same_board;
      first = first;
      standing = subst (λ (w : Grid). IfSome c.standing_double-standing.result (StandsBy g.R.Rule.KIND w c.first_with-first.result)) same
          c.standing_double-standing.ensures.stands;
      so_far = left-more g.R.Rule.KIND c.args.moves b c.loop-q.part.items c.loop-q.points c.loop-q.invariant.so_far
          c.in-Some.q c.next.new.self next (g.V.Seen.position c.loop-q.view) c.loop-q.invariant.same c.in-Known.judged
          (subst (IsJudgement g.R.Rule.KIND c.args.moves (g.V.Seen.position c.loop-q.view) c.in-Some.q) c.in-Known.is
          c.in_ok-judge.ensures.judgement) c.push.new.self.items c.in_ok-push-in-Known.ensures.items c.unmet_points.result
          (subst (λ (w : Grid). TellsUnmet g.R.Rule.KIND w (find stands c.push.new.self.items) c.unmet_points.result) same
          (subst (λ (o : Option Child). TellsUnmet g.R.Rule.KIND (g.V.Seen.position c.judge.new.view) o c.unmet_points.result) first
          c.unmet_points.ensures.unmet))
          c.keep.new.self c.keep.ensures.kept;
    }

pub returns-clause-judged : goal.returns-clause-judged
returns-clause-judged g c =
    let done : c.loop-q.points ≡ [] = first_of (search rules, grind (arith, common_steps)) in
    left-none g.R.Rule.KIND c.args.moves (g.V.Seen.position c.args.view.now) c.loop-q.part.items c.loop-q.points
    c.loop-q.invariant.so_far done

pub judge-requires-clause-lawful : goal.judge-requires-clause-lawful
judge-requires-clause-lawful g c = subst (λ (b : Grid). IsPosition g.R.Rule.KIND b) (sym c.loop-q.invariant.same) c.requires.lawful

pub judge-requires-clause-each : goal.judge-requires-clause-each
judge-requires-clause-each g c = λ h. subst (λ (b : Grid). EachGoesOn g.R.Rule.KIND b) (sym c.loop-q.invariant.same)
    (c.each_goes_on.ensures.each h)

pub judge-requires-clause-no_five : goal.judge-requires-clause-no_five
judge-requires-clause-no_five g c =
    ap (λ (b : Grid). has_five g.R.Rule.KIND b (mover b)) c.loop-q.invariant.same ∙ c.requires.no_five

pub judge-requires-clause-copy : goal.judge-requires-clause-copy
judge-requires-clause-copy g c = c.loop-q.invariant.same_board ∙ c.requires.copy ∙ sym c.loop-q.invariant.same

pub judge-requires-clause-fives : goal.judge-requires-clause-fives
judge-requires-clause-fives g c =
    c.requires.fives ∙ ap (λ (b : Grid). five_points g.R.Rule.KIND b (other (mover b))) (sym c.loop-q.invariant.same)

pub judge-requires-clause-doubles : goal.judge-requires-clause-doubles
judge-requires-clause-doubles g c =
    subst (λ (b : Grid). AreKept g.R.Rule.KIND b (other (mover b)) c.args.doubles.now) (sym c.loop-q.invariant.same) c.requires.doubles

pub returns-in-Escape-clause-escape : goal.returns-in-Escape-clause-escape
returns-in-Escape-clause-escape g c =
    let escape : EscapesBy g.R.Rule.KIND c.args.moves (g.V.Seen.position c.args.view.now) c.in-Some.q =
    subst (λ (b : Grid). EscapesBy g.R.Rule.KIND c.args.moves b c.in-Some.q) c.loop-q.invariant.same
    (subst (IsJudgement g.R.Rule.KIND c.args.moves (g.V.Seen.position c.loop-q.view) c.in-Some.q) c.in-Escape.is
    c.in_ok-judge.ensures.judgement) in
    record { reply = c.in-Some.q; on = escape.on; no_win = escape.no_win }

pub is_met_at-requires-clause-windows : goal.is_met_at-requires-clause-windows
is_met_at-requires-clause-windows g c =
    let b : Grid = g.V.Seen.position c.args.view.now in
    subst (λ (w : Grid). TellsWindows w (mover w) 3 c.window_points-windows.result) (sym c.loop-q.invariant.same)
    (windows-of _ b _ (mover b) 3 _ c.board.ensures.board c.side.ensures.side c.window_points-windows.ensures.points)

pub judge-requires-clause-windows : goal.judge-requires-clause-windows
judge-requires-clause-windows g c =
    let b : Grid = g.V.Seen.position c.args.view.now in
    subst (λ (w : Grid). TellsWindows w (mover w) 3 c.window_points-windows.result) (sym c.loop-q.invariant.same)
    (windows-of _ b _ (mover b) 3 _ c.board.ensures.board c.side.ensures.side c.window_points-windows.ensures.points)

pub unmet_points-requires-clause-lawful : goal.unmet_points-requires-clause-lawful
unmet_points-requires-clause-lawful g c = subst (λ (b : Grid). IsPosition g.R.Rule.KIND b)
    (sym (c.judge.ensures.same ∙ c.loop-q.invariant.same)) c.requires.lawful

pub unmet_points-requires-clause-no_five : goal.unmet_points-requires-clause-no_five
unmet_points-requires-clause-no_five g c =
    ap (λ (b : Grid). has_five g.R.Rule.KIND b (mover b)) (c.judge.ensures.same ∙ c.loop-q.invariant.same) ∙ c.requires.no_five

pub unmet_points-requires-clause-fives : goal.unmet_points-requires-clause-fives
unmet_points-requires-clause-fives g c = c.requires.fives
    ∙ ap (λ (b : Grid). five_points g.R.Rule.KIND b (other (mover b))) (sym (c.judge.ensures.same ∙ c.loop-q.invariant.same))

pub unmet_points-requires-clause-windows : goal.unmet_points-requires-clause-windows
unmet_points-requires-clause-windows g c =
    let b : Grid = g.V.Seen.position c.args.view.now in
    subst (λ (w : Grid). TellsWindows w (mover w) 3 c.window_points-windows.result) (sym (c.judge.ensures.same ∙ c.loop-q.invariant.same))
    (windows-of _ b _ (mover b) 3 _ c.board.ensures.board c.side.ensures.side c.window_points-windows.ensures.points)

pub loop-q-smaller-in-Known : goal.loop-q-smaller-in-Known
loop-q-smaller-in-Known g c =
    let next : c.loop-q.points ≡ c.in-Some.q ∷ c.next.new.self = first_of (search rules, grind (arith, common_steps)) in
    let all = ap length next in
    let kept = ap length c.keep.ensures.kept in
    let fewer = length-filter_both (has_point c.unmet_points.result) (λ p. not (has_point c.unmet_points.result p)) (λ p. refl)
    c.next.new.self in
    omega (arith, all, kept, fewer)
