use Rattle.std.proofs.Common.{List, ℕ, subst}
use Rattle.strategy_compiler.specs.Walks.{Renumbers}
use Rattle.strategy_compiler.proofs.Places.{made-from}
use Rattle.strategy_compiler.proofs.renumbering.made_from.Goals as goal

pub returns-clause-made : goal.returns-clause-made
returns-clause-made c = made-from c.args.nodes.now c.args.roots.now c.in_ok-order.order.items c.in_ok-table.table c.requires.compiled.table
    c.requires.compiled.different c.in_ok-order.ensures.order c.in_ok-order.ensures.walked
    (subst (λ (order : List ℕ). Renumbers c.args.nodes.now order c.in_ok-table.table) c.as_slice-2.ensures.value
    c.in_ok-table.ensures.nodes)
