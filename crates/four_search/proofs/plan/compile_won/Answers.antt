use Rattle.std.proofs.Common.{rules, ◌≡◌, ◌<◌, ◌-◌, ap, ◌∙◌, arith, List, length}
use Rattle.game_rules.proofs.Common.{Grid, after, mover, outcome, has_five, five_points}
use Rattle.game_rules.specs.declared.Point.{Point}
use Rattle.strategy_compiler.proofs.Growing.{writes-then, writes-then-fails, writes-fails, stands-grown}
use Rattle.four_search.proofs.Planning.{plan-some, plan-goes_on, plan-foul, plan-won-one, plan-won-two, plan-won-points, won-safe}
use Rattle.four_search.proofs.plan.compile_won.Goals as goal

pub returns-then-moves-eq1-clause-stands : goal.returns-then-moves-eq1-clause-stands
returns-then-moves-eq1-clause-stands g c =
    plan-foul _ _ _ _ c.requires.lawful c.requires.five c.requires.chosen c.args.compiler.now _ _ c.if-moves-eq1.true c.requires.won
    c.fork.ensures.stands

pub fives_after-requires : goal.fives_after-requires
fives_after-requires g c = record { goes_on = plan-goes_on _ _ _ _ c.requires.lawful c.requires.five c.requires.chosen }

pub unreachable-requires : goal.unreachable-requires
unreachable-requires g c =
    let low : length c.as_slice.result.now < 1 = c.in-empty.len_below in
    plan-won-points _ _ _ _ c.requires.lawful c.requires.five c.requires.chosen _ (c.as_slice.ensures.items ∙ c.in-Ok.ensures.fives)
    c.requires.won low

pub returns-in_err-beside-in-len1-clause-writes : goal.returns-in_err-beside-in-len1-clause-writes
returns-in_err-beside-in-len1-clause-writes g c =
    let some = plan-some _ _ _ _ c.requires.lawful c.requires.five c.requires.chosen in
    writes-fails _ _ 1 _ _ _ c.in_err-beside-in-len1.ensures.writes (omega (arith, some)) (search rules)

pub block_node-requires-clause-safe : goal.block_node-requires-clause-safe
block_node-requires-clause-safe g c =
    ap (λ (w : Grid). has_five g.R.Rule.KIND (after w c.args.p) (mover (after w c.args.p))) c.in-Ok.ensures.same
    ∙ won-safe _ _ c.requires.won

pub block_node-requires-clause-goes_on : goal.block_node-requires-clause-goes_on
block_node-requires-clause-goes_on g c =
    ap (λ (w : Grid). outcome g.R.Rule.KIND w c.args.p) c.in-Ok.ensures.same
    ∙ plan-goes_on _ _ _ _ c.requires.lawful c.requires.five c.requires.chosen

pub returns-in-len1-clause-stands : goal.returns-in-len1-clause-stands
returns-in-len1-clause-stands g c =
    let b : Grid = g.V.Seen.position c.args.view.now in
    let nowhere : Point = record { x = 0; y = 0 } in
    let some = plan-some _ _ _ _ c.requires.lawful c.requires.five c.requires.chosen in
    let more : 0 < c.args.moves - 1 = let one = c.if-moves-eq1.false in omega (arith, some, one) in
    let xs : List Point = c.as_slice.result.now in
    let points : xs ≡ five_points g.R.Rule.KIND (after b c.args.p) (mover b) = c.as_slice.ensures.items ∙ c.in-Ok.ensures.fives in
    plan-won-one _ _ _ _ c.requires.lawful c.requires.five c.requires.chosen _ _ _ _ c.in-Ok.ensures.same nowhere xs points more
    c.requires.won c.in-len1.len_at_least c.in-len1.len_below _ c.in_ok-beside-in-len1.ensures.stands c.block_node.ensures.stands

pub returns-in-len1-clause-writes : goal.returns-in-len1-clause-writes
returns-in-len1-clause-writes g c =
    let some = plan-some _ _ _ _ c.requires.lawful c.requires.five c.requires.chosen in
    writes-then _ _ _ 1 1 _ _ _ c.in_ok-beside-in-len1.ensures.writes c.block_node.ensures.writes (omega (arith, some))

pub returns-in_err-beside-in-len2-up-clause-writes : goal.returns-in_err-beside-in-len2-up-clause-writes
returns-in_err-beside-in-len2-up-clause-writes g c =
    let some = plan-some _ _ _ _ c.requires.lawful c.requires.five c.requires.chosen in
    writes-fails _ _ 1 _ _ _ c.in_err-beside-in-len2-up.ensures.writes (omega (arith, some)) (search rules)

pub returns-in_err-at_first-in-len2-up-clause-writes : goal.returns-in_err-at_first-in-len2-up-clause-writes
returns-in_err-at_first-in-len2-up-clause-writes g c =
    let some = plan-some _ _ _ _ c.requires.lawful c.requires.five c.requires.chosen in
    let one = c.if-moves-eq1.false in
    writes-then-fails _ _ _ 1 1 _ _ _ _ c.in_ok-beside-in-len2-up.ensures.writes c.in_err-at_first-in-len2-up.ensures.writes
    (omega (arith, some, one)) (search rules)

pub block_node-requires-in-len2-up-clause-safe : goal.block_node-requires-in-len2-up-clause-safe
block_node-requires-in-len2-up-clause-safe g c =
    ap (λ (w : Grid). has_five g.R.Rule.KIND (after w c.args.p) (mover (after w c.args.p))) c.in-Ok.ensures.same
    ∙ won-safe _ _ c.requires.won

pub block_node-requires-in-len2-up-clause-goes_on : goal.block_node-requires-in-len2-up-clause-goes_on
block_node-requires-in-len2-up-clause-goes_on g c =
    ap (λ (w : Grid). outcome g.R.Rule.KIND w c.args.p) c.in-Ok.ensures.same
    ∙ plan-goes_on _ _ _ _ c.requires.lawful c.requires.five c.requires.chosen

pub returns-clause-stands : goal.returns-clause-stands
returns-clause-stands g c =
    let b : Grid = g.V.Seen.position c.args.view.now in
    let nowhere : Point = record { x = 0; y = 0 } in
    let some = plan-some _ _ _ _ c.requires.lawful c.requires.five c.requires.chosen in
    let more : 0 < c.args.moves - 1 = let one = c.if-moves-eq1.false in omega (arith, some, one) in
    let xs : List Point = c.as_slice.result.now in
    let points : xs ≡ five_points g.R.Rule.KIND (after b c.args.p) (mover b) = c.as_slice.ensures.items ∙ c.in-Ok.ensures.fives in
    let beside = stands-grown c.growth_keeps_trees.ensures.same _ _ 1 c.in_ok-at_first-in-len2-up.ensures.writes.grows _ _
    c.in_ok-beside-in-len2-up.ensures.stands in
    plan-won-two _ _ _ _ c.requires.lawful c.requires.five c.requires.chosen _ _ _ _ c.in-Ok.ensures.same nowhere xs points more
    c.in-len2-up.len_at_least _ c.in_ok-beside-in-len2-up.beside c.in_ok-at_first-in-len2-up.ensures.stands beside
    c.block_node-in-len2-up.ensures.stands

pub returns-clause-writes : goal.returns-clause-writes
returns-clause-writes g c =
    let some = plan-some _ _ _ _ c.requires.lawful c.requires.five c.requires.chosen in
    let one = c.if-moves-eq1.false in
    writes-then _ _ _ 2 1 _ _ _
    (writes-then _ _ _ 1 1 2 _ _ c.in_ok-beside-in-len2-up.ensures.writes c.in_ok-at_first-in-len2-up.ensures.writes (omega arith))
    c.block_node-in-len2-up.ensures.writes (omega (arith, some, one))
