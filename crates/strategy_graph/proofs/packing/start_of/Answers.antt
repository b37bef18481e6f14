use Rattle.std.proofs.Common.{◌≡◌, ◌∙◌, ap, sym, suc, arith}
use Rattle.strategy_graph.specs.Packing.{start_at}
use Rattle.strategy_graph.proofs.PackedLists.{start-first, start-next}
use Rattle.strategy_graph.proofs.packing.start_of.Goals as goal

pub returns-in-None : goal.returns-in-None
returns-in-None c = record { start = start-first 0 c.args.nodes.now c.args.i (omega arith) }

pub returns-in-Some : goal.returns-in-Some
returns-in-Some c =
    let next : c.args.i ≡ suc c.in-Some.before = omega arith in
    record { start = sym (start-next 0 c.args.nodes.now c.in-Some.before _ (omega arith)) ∙ ap (start_at 0 c.args.nodes.now) (sym next) }
