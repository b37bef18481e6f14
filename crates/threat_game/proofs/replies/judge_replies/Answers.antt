use Rattle.std.proofs.Common.{◌≡◌, ◌≤◌, ap, sym, subst, ◌∙◌, arith, length, List, All, IfSome, sum_by}
use Rattle.threat_game.specs.declared.replies.Child.{Child}
use Rattle.threat_game.proofs.Common.{AreJudgedInPart, counted_for, kept_children, AreKept}
use Rattle.threat_game.proofs.ReplyLaws.{are-children, each-three, judged-short}
use Rattle.game_rules.proofs.Common.{Grid, five_points, mover, other}
use Rattle.game_rules.specs.declared.Side.{Side}
use Rattle.threat_game.specs.declared.doubles.Kept.{Kept}
use Rattle.threat_game.proofs.replies.judge_replies.Goals as goal

pub doubles_for-requires : goal.doubles_for-requires
doubles_for-requires g c =
    record {
      fives = c.len.ensures.length ∙ ap length c.in_ok-fives.ensures.fives
          ∙ ap (λ (w : Grid). length (five_points g.R.Rule.KIND w c.other-attacker.result)) c.board.ensures.board
          ∙ ap (λ (b : Grid). length (five_points g.R.Rule.KIND b c.other-attacker.result)) (sym c.requires.copy);
    }

pub each_reply-requires-clause-fives : goal.each_reply-requires-clause-fives
each_reply-requires-clause-fives g c =
    let b : Grid = g.V.Seen.position c.args.view.now in
    c.in_ok-fives.ensures.fives ∙ ap (λ (w : Grid). five_points g.R.Rule.KIND w c.other-attacker.result) c.board.ensures.board
    ∙ ap (five_points g.R.Rule.KIND b) (c.other-attacker.ensures.other ∙ ap other c.side.ensures.side)

pub each_reply-requires-clause-doubles : goal.each_reply-requires-clause-doubles
each_reply-requires-clause-doubles g c =
    let b : Grid = g.V.Seen.position c.args.view.now in
    let same : c.other-attacker.result ≡ other (mover b) = c.other-attacker.ensures.other ∙ ap other c.side.ensures.side in
    subst (λ (ds : List Kept). AreKept g.R.Rule.KIND b (other (mover b)) ds) (sym c.as_slice.ensures.value)
    (subst (λ (s : Side). AreKept g.R.Rule.KIND b s c.in_ok-doubles.doubles.items) same
    (subst (λ (w : Grid). AreKept g.R.Rule.KIND w c.other-attacker.result c.in_ok-doubles.doubles.items) c.requires.copy
    c.in_ok-doubles.ensures.kept))

pub children_of-requires-clause-each : goal.children_of-requires-clause-each
children_of-requires-clause-each g c =
    let b : Grid = g.V.Seen.position c.args.view.now in
    let are : AreJudgedInPart g.R.Rule.KIND c.args.moves b c.in-Some.judged.items =
    subst (λ o. IfSome o (λ part. AreJudgedInPart g.R.Rule.KIND c.args.moves b part.items)) c.in-Some.is
    c.in_ok-each_reply.ensures.judged in
    subst (λ (xs : List Child). All (λ child. counted_for child.judged ≤ 3) xs) (sym c.as_slice-in-Some.ensures.value)
    (each-three g.R.Rule.KIND c.args.moves b c.in-Some.judged.items are.each)

pub children_of-requires-clause-short : goal.children_of-requires-clause-short
children_of-requires-clause-short g c =
    let b : Grid = g.V.Seen.position c.args.view.now in
    let are : AreJudgedInPart g.R.Rule.KIND c.args.moves b c.in-Some.judged.items =
    subst (λ o. IfSome o (λ part. AreJudgedInPart g.R.Rule.KIND c.args.moves b part.items)) c.in-Some.is
    c.in_ok-each_reply.ensures.judged in
    let short = judged-short g.R.Rule.KIND c.args.moves b c.side.ensures.lawful.board are.judged are.are in
    let fewer = are.fewer in
    omega (arith, short, fewer, ap length c.as_slice-in-Some.ensures.value)

pub returns-clause-replies : goal.returns-clause-replies
returns-clause-replies g c =
    let b : Grid = g.V.Seen.position c.args.view.now in
    let are : AreJudgedInPart g.R.Rule.KIND c.args.moves b c.in-Some.judged.items =
    subst (λ o. IfSome o (λ part. AreJudgedInPart g.R.Rule.KIND c.args.moves b part.items)) c.in-Some.is
    c.in_ok-each_reply.ensures.judged in
    let kept : kept_children c.as_slice-in-Some.result.now ≡ kept_children are.judged =
    ap kept_children c.as_slice-in-Some.ensures.value ∙ are.kept in
    are-children g.R.Rule.KIND c.args.moves b c.side.ensures.lawful c.requires.reply are.judged are.are
    c.in_ok-children_of-in-Some.field-0 (c.in_ok-children_of-in-Some.ensures.all ∙ kept)
    (c.in_ok-children_of-in-Some.ensures.count ∙ ap (sum_by (λ (child : Child). counted_for child.judged)) kept)
