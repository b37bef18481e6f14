use Rattle.std.proofs.Common.{inl, ap}
use Rattle.strength_drill.proofs.Common.{last, HeldTable}
use Rattle.strength_drill.proofs.DrillCounts.{node-below, held-as, holdable-as, plays-as, win-within}
use Rattle.strength_drill.proofs.drill.try_table.Goals as goal

pub add-requires-clause-below : goal.add-requires-clause-below
add-requires-clause-below g c = node-below c.args.table c.new-held.result.table c.args.node c.new-held.ensures.table c.requires.in_table

pub play_game-requires-clause-held : goal.play_game-requires-clause-held
play_game-requires-clause-held g c =
    let held = held-as g.R.Rule.KIND c.args.position c.in_ok-copy.field-0 c.args.table c.args.node c.add.new.self c.new-held.result
    c.in_ok-copy.ensures.copy c.requires.last_node c.new-held.ensures.table c.new-held.ensures.no_roots c.in-Ok.ensures.table
    c.in-Ok.ensures.added in
    (last c.args.table, ap (λ (h : HeldTable). h.roots) held)

pub returns-in-Ok-clause-tried : goal.returns-in-Ok-clause-tried
returns-in-Ok-clause-tried g c =
    let held = held-as g.R.Rule.KIND c.args.position c.in_ok-copy.field-0 c.args.table c.args.node c.add.new.self c.new-held.result
    c.in_ok-copy.ensures.copy c.requires.last_node c.new-held.ensures.table c.new-held.ensures.no_roots c.in-Ok.ensures.table
    c.in-Ok.ensures.added in
    let can = holdable-as g.R.Rule.KIND c.args.position c.in_ok-copy.field-0 c.args.table c.new-held.result.table c.args.node
    c.in_ok-copy.ensures.copy c.requires.last_node c.new-held.ensures.table (c.in-Ok.ensures.accepted, c.in-Ok.ensures.arrivals) in
    inl (plays-as g.R.Rule.KIND c.args.position c.args.table c.args.draws.now.number c.with_game.result c.play_game.new.draws.number
    c.in_ok-play_game-in-Ok.field-0.moves c.in_ok-play_game-in-Ok.field-0.won c.add.new.self held can
    c.in_ok-play_game-in-Ok.ensures.played c.with_game.ensures.counts)

pub returns-in-Ok-clause-within : goal.returns-in-Ok-clause-within
returns-in-Ok-clause-within g c = rw c.with_game.ensures.counts
    (win-within c.in_ok-play_game-in-Ok.field-0.moves c.in_ok-play_game-in-Ok.field-0.won c.in_ok-play_game-in-Ok.ensures.few)
