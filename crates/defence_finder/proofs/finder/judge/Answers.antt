use Rattle.std.proofs.Common.{rules, ◌≡◌, ◌∙◌, sym, arith, find, Some}
use Rattle.game_rules.proofs.Common.{Grid, after, five, mover, outcome, points_of}
use Rattle.game_rules.specs.declared.Outcome.TheVariants.{GoesOn}
use Rattle.strategy_compiler.proofs.Growing.{writes-fails, writes-tells}
use Rattle.defence_finder.specs.Answers.{nodes_after}
use Rattle.defence_finder.proofs.Settling.{five-settled, five-beaten, five-planned}
use Rattle.defence_finder.proofs.Gathering.{nodes-on}
use Rattle.defence_finder.proofs.finder.judge.Goals as goal

pub returns-in_err-leaf-in-Some-clause-writes : goal.returns-in_err-leaf-in-Some-clause-writes
returns-in_err-leaf-in-Some-clause-writes g c =
    let b : Grid = g.V.Seen.position c.args.view.now in
    let some = c.requires.asked.some_depth in
    let nodes = nodes-on g.R.Rule.KIND c.args.question.now.depth b c.args.q (sym c.in-GoesOn.ensures.outcome) in
    writes-fails _ _ 1 (nodes_after c.args.question.now.depth b c.args.q) _ _ c.in_err-leaf-in-Some.ensures.writes
    (omega (arith, some, nodes)) (search rules)

pub returns-in_ok-leaf-in-Some-clause-writes : goal.returns-in_ok-leaf-in-Some-clause-writes
returns-in_ok-leaf-in-Some-clause-writes g c =
    let b : Grid = g.V.Seen.position c.args.view.now in
    let some = c.requires.asked.some_depth in
    let nodes = nodes-on g.R.Rule.KIND c.args.question.now.depth b c.args.q (sym c.in-GoesOn.ensures.outcome) in
    writes-tells _ _ 1 (nodes_after c.args.question.now.depth b c.args.q) _ _ c.in_ok-leaf-in-Some.ensures.writes
    (omega (arith, some, nodes))

pub returns-in_ok-leaf-in-Some-clause-verdict : goal.returns-in_ok-leaf-in-Some-clause-verdict
returns-in_ok-leaf-in-Some-clause-verdict g c =
    let rule = g.R.Rule.KIND in
    let question = c.args.question.now in
    let b : Grid = g.V.Seen.position c.args.view.now in
    let on : outcome rule b c.args.q ≡ GoesOn = sym c.in-GoesOn.ensures.outcome in
    let left : find (five rule (after b c.args.q) (mover (after b c.args.q))) (points_of (after b c.args.q)) ≡ Some c.in-Some.five =
    c.in-Some.ensures.left rule b c.outcome.ensures.lawful on (c.as_slice.ensures.items ∙ c.requires.asked.fives) in (
      five-settled rule question.depth question.budget b c.args.q c.in-Some.five c.requires.asked.some_depth c.requires.asked.some_budget on
          left,
      five-beaten rule question.depth question.budget b c.args.q c.in-Some.five c.requires.asked.some_depth c.requires.asked.some_budget on
          left
          c.leaf.new.self c.in_ok-leaf-in-Some.field-0 c.in_ok-leaf-in-Some.ensures.wins,
      five-planned rule question.depth question.budget b c.args.q c.in-Some.five c.requires.asked.some_depth c.requires.asked.some_budget on
          left
          c.leaf.new.self c.in_ok-leaf-in-Some.field-0 c.in_ok-leaf-in-Some.ensures.stands,
    )

pub returns-in-None-clause-writes : goal.returns-in-None-clause-writes
returns-in-None-clause-writes g c =
    let nodes = nodes-on g.R.Rule.KIND c.args.question.now.depth (g.V.Seen.position c.args.view.now) c.args.q
    (sym c.in-GoesOn.ensures.outcome) in
    rw nodes c.judge_after.ensures.writes
