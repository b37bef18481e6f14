-- The node is put in, and wins.
use Rattle.std.proofs.Common.{suc}
use Rattle.strategy_graph.specs.declared.TheConstants.{MAX_NODES}
use Rattle.join_command.proofs.Making.{node-told}
use Rattle.join_command.proofs.joining.node_text.Goals as goal

pub table_text-requires : goal.table_text-requires
table_text-requires g c =
    record { win = (suc MAX_NODES, _, c.in-Ok.ensures.wins g.R.Rule.KIND MAX_NODES c.args.position.now c.requires.goes_on c.requires.wins) }

pub returns-in-Ok : goal.returns-in-Ok
returns-in-Ok g c =
    let win = c.in-Ok.ensures.wins g.R.Rule.KIND MAX_NODES c.args.position.now c.requires.goes_on c.requires.wins in
    record {
      told = node-told c.args.nodes c.node.new.self c.in-Ok.root c.args.at c.args.answers.now
          (record { kind = g.R.Rule.KIND; board = c.args.position.now }) c.table_text.result c.table_text.ensures.status
          c.table_text.ensures.text c.in-Ok.ensures.put_in c.in-Ok.ensures.node c.in-Ok.ensures.answers win.accepted;
    }
