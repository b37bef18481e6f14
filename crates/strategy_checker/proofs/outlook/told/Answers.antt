use Rattle.std.proofs.Common.{◌∙◌, ap, subst}
use Rattle.strategy_checker.proofs.Common.{Grid, is_empty, AreFives, HadNone}
use Rattle.game_rules.proofs.Positions.{GoesOn-empty}
use Rattle.strategy_checker.proofs.Sureness.{last-stone, made-fives}
use Rattle.strategy_checker.proofs.outlook.told.Goals as goal

pub undo-requires-clause-stone : goal.undo-requires-clause-stone
undo-requires-clause-stone g c = last-stone g.R.Rule.KIND c.args.position.now c.in-MadeBy.q
    (subst (AreFives g.R.Rule.KIND c.args.position.now) c.in-MadeBy.is c.requires.fives)

pub fives_made-made-requires-clause-empty : goal.fives_made-made-requires-clause-empty
fives_made-made-requires-clause-empty g c =
    let had : HadNone g.R.Rule.KIND c.args.position.now c.in-MadeBy.q =
    subst (AreFives g.R.Rule.KIND c.args.position.now) c.in-MadeBy.is c.requires.fives in
    ap (λ (w : Grid). is_empty w c.in-MadeBy.q) c.undo.ensures.undone ∙ GoesOn-empty g.R.Rule.KIND _ c.in-MadeBy.q had.on

pub returns-in-MadeBy-clause-told : goal.returns-in-MadeBy-clause-told
returns-in-MadeBy-clause-told g c = made-fives g.R.Rule.KIND c.args.position.now c.in-MadeBy.q
    (subst (AreFives g.R.Rule.KIND c.args.position.now) c.in-MadeBy.is c.requires.fives)
    c.fives_made-made.result c.undo.new.self c.undo.ensures.undone c.fives_made-made.ensures.made
