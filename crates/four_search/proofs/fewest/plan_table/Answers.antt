use Rattle.std.proofs.Common.{ℕ, ap, arith, List, length}
use Rattle.std.proofs.lemmas.Result.{IfOk-weaker}
use Rattle.game_rules.proofs.Common.{Grid}
use Rattle.strategy_graph.specs.declared.Node.{Node}
use Rattle.four_search.specs.declared.fewest.FourTable.{FourTable}
use Rattle.four_search.proofs.Common.{IsSought, IsFourTable}
use Rattle.four_search.proofs.FourTables.{table-made}
use Rattle.four_search.proofs.fewest.plan_table.Goals as goal

pub in_room-requires : goal.in_room-requires
in_room-requires g c = record {
  room = λ full.
      let many = c.compile.ensures.writes.full full in
      let few = c.requires.few_moves in
      let none = ap (λ (l : List Node). length l) c.new-compiler.ensures.empty in
      omega (arith, many, few, none);
}

pub finish-requires : goal.finish-requires
finish-requires g c = record {
  in_compiler = rw c.in_ok-node.ensures.node at c.compile.ensures.in_compiler;
}

pub returns-clause-made : goal.returns-clause-made
returns-clause-made g c =
    let b : Grid = g.V.Seen.position c.args.view.now in
    let was = c.in_ok-node.ensures.node in
    let within = rw was at c.compile.ensures.in_compiler in
    let stands = rw was at c.compile.ensures.stands in
    let compiled = rw was at c.compile.ensures.writes.compiled in
    IfOk-weaker _ _ (λ (made : FourTable). (limit budget : ℕ) → IsSought g.R.Rule.KIND limit budget b c.args.moves c.args.line.now
    → IsFourTable g.R.Rule.KIND limit b made)
    (λ made done limit budget is. table-made _ _ _ budget _ c.args.line.now is c.requires.lawful _ _ c.new-compiler.ensures.empty
    c.compile.ensures.writes.grows compiled.table c.in_ok-node.node within stands _ done) c.finish.ensures.made
